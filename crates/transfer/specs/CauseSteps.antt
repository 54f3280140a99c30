-- What is shown of a pair's cause (document 02, A3: "The display needs to know if a pair was the last, and by which cause").
use Rattle.std.specs.Prelude.{ℕ, ◌<◌, ◌≡◌, false, ◌↔◌, Some}
use Rattle.console.specs.declared.vram_dma.VramDma.{VramDma}
use Rattle.transfer.specs.Pair.{moving_of, next_byte_of, drain_of}
use Rattle.transfer.specs.declared.pair.BytePair.{BytePair}
use Rattle.transfer.specs.declared.pair.Cause.{Cause}
use Rattle.transfer.specs.declared.pair.Cause.TheVariants.{GoingOn, CountedOut, Carried}

-- k, the cause of a pair: dest is the destination register in front of it, left what is left after it
pub record Caused (dest left : ℕ) (k : Cause) : Type 0 where
  -- "carried (past FFFFh), this also where left would have reached 0 anyway": whatever left is
  pub carried : (k ≡ Carried) ↔ (dest ≡ 0xFFFF)
  -- "counted out (left fell to 0)", otherwise
  pub counted_out : (k ≡ CountedOut) ↔ ((dest ≡ 0xFFFF → ⊥) × (left ≡ 0))
  -- "going on"
  pub going_on : (k ≡ GoingOn) ↔ (0 < left)

pub record CauseSteps : Type 0 where
  pub pair :
      (d : VramDma) (p : BytePair) (k : Cause) → (next_byte_of d).answer ≡ Some (p, k) →
      Caused d.cursor.dest (next_byte_of d).dma.cursor.remaining k
  -- "if a pair was the last": unless it says going on the engine does not move after it (that no pair comes until a length is written
  -- is demand 3's: left is the ledger's, and none comes while that is 0)
  pub none_after :
      (d : VramDma) (p : BytePair) (k : Cause) → (next_byte_of d).answer ≡ Some (p, k) → (k ≡ GoingOn → ⊥) →
      moving_of (next_byte_of d).dma ≡ false
  -- a pair that is counted out took the last byte of the length
  pub from_one :
      (d : VramDma) (p : BytePair) → (next_byte_of d).answer ≡ Some (p, CountedOut) →
      (d.cursor.remaining ≡ 1) × (d.cursor.escape_byte ≡ false)
  -- "escape drain .. pass it on"; its byte stands outside the length, and counts nothing out
  pub drain :
      (d : VramDma) (p : BytePair) (k : Cause) → (drain_of d).answer ≡ Some (p, k) →
      Caused d.cursor.dest (drain_of d).dma.cursor.remaining k
  pub drain_not_counted : (d : VramDma) (p : BytePair) → (drain_of d).answer ≡ Some (p, CountedOut) → ⊥
