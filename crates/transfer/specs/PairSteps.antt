-- What is shown of the pair and of the escape drain, in document 01's words (sections 3 and 4).
use Rattle.std.specs.Prelude.{◌+◌, ◌-◌, ◌%◌, ◌<◌, ◌≡◌, true, false, Some, None}
use Rattle.console.specs.Set.{with_block_remaining, with_block_from_arm, with_arb_granted_ahead, with_arb_park_waits_for_fetch, with_arb_idle_claim}
use Rattle.console.specs.Set.{with_dma_cursor, with_dma_block, with_dma_arb}
use Rattle.console.specs.declared.vram_dma.TransferMode.TheVariants as mode
use Rattle.console.specs.declared.vram_dma.VramDma.{VramDma}
use Rattle.transfer.specs.Pair.{moving_of, pair_of, cause_of, next_byte_of, with_quota, drain_of}

-- "if quota > 0 and the engine is moving"
pub record Ready (d : VramDma) : Type 0 where
  pub quota : 0 < d.cursor.quota
  pub moving : moving_of d ≡ true

-- d before the pair, e after it
pub record Moved (d e : VramDma) : Type 0 where
  -- "Each pair takes 1 from quota"
  pub quota : e.cursor.quota + 1 ≡ d.cursor.quota
  -- "1 from left (or, instead, the owed escape)"
  pub counted : d.cursor.escape_byte ≡ false → (d.cursor.dest ≡ 0xFFFF → ⊥) → e.cursor.remaining + 1 ≡ d.cursor.remaining
  pub escaped : d.cursor.escape_byte ≡ true → (d.cursor.dest ≡ 0xFFFF → ⊥) → e.cursor.remaining ≡ d.cursor.remaining
  pub paid : e.cursor.escape_byte ≡ false
  -- "and 1 from a standing block"
  pub block : e.block.remaining ≡ d.block.remaining - 1
  -- "a block's last pair lowers granted (never below 0) and clears the from-arm and park marks"
  pub last :
      d.block.remaining ≡ 1 →
      (e.arb.granted_ahead ≡ d.arb.granted_ahead - 1) × (e.block.from_arm ≡ false) × (e.arb.park_waits_for_fetch ≡ false)
  pub not_last :
      (d.block.remaining ≡ 1 → ⊥) →
      (e.arb.granted_ahead ≡ d.arb.granted_ahead) ×
      (e.block.from_arm ≡ d.block.from_arm) ×
      (e.arb.park_waits_for_fetch ≡ d.arb.park_waits_for_fetch)
  -- "Source wraps"
  pub source : e.cursor.source ≡ (d.cursor.source + 1) % 65536
  -- "Destination leaving FFFFh becomes 0 and left becomes 0; what remains of the block stays"
  pub dest : e.cursor.dest ≡ (d.cursor.dest + 1) % 65536
  pub carried : d.cursor.dest ≡ 0xFFFF → (e.cursor.dest ≡ 0) × (e.cursor.remaining ≡ 0) × (e.block.remaining ≡ d.block.remaining - 1)
  -- "Left 0 makes the mode Idle and drops the idle claim"
  pub ended : e.cursor.remaining ≡ 0 → (e.cursor.mode ≡ mode.Idle) × (e.arb.idle_claim ≡ false)
  pub going : (e.cursor.remaining ≡ 0 → ⊥) → (e.cursor.mode ≡ d.cursor.mode) × (e.arb.idle_claim ≡ d.arb.idle_claim)
  -- nothing else changes: beside the cursor, whose six fields stand above, the block's count and from-arm mark, granted, park
  -- and idle claim. Block edge, taken, set-up cell, readiness, seize count and probation stay; so do pend and its marks, the
  -- blinds, the tenure, what the arbiter noted of the last fall, and the contention with OAM DMA.
  pub rest :
      e ≡
      with_dma_cursor e.cursor
      (with_dma_block (with_block_remaining e.block.remaining (with_block_from_arm e.block.from_arm d.block))
      (with_dma_arb
      (with_arb_granted_ahead e.arb.granted_ahead
      (with_arb_park_waits_for_fetch e.arb.park_waits_for_fetch (with_arb_idle_claim e.arb.idle_claim d.arb))) d))

pub record PairSteps : Type 0 where
  -- "At left 0 the engine never moves, whatever block stands and even with an escape owed"
  pub never : (d : VramDma) → d.cursor.remaining ≡ 0 → moving_of d ≡ false
  -- "A next-pair call gives (source, 8000h + destination mod 8192) if quota > 0 and the engine is moving"
  pub gives : (d : VramDma) → Ready d → (next_byte_of d).answer ≡ Some (pair_of d.cursor, cause_of d.cursor)
  pub moves : (d : VramDma) → Ready d → Moved d (next_byte_of d).dma
  -- "else None and no change"
  pub no_quota : (d : VramDma) → d.cursor.quota ≡ 0 → next_byte_of d ≡ record { answer = None; dma = d }
  pub not_moving : (d : VramDma) → moving_of d ≡ false → next_byte_of d ≡ record { answer = None; dma = d }
  -- "An escape drain hands out one pair if an escape is owed and the engine moves, and then leaves quota 0"
  pub drains :
      (d : VramDma) → d.cursor.escape_byte ≡ true → moving_of d ≡ true →
      ((drain_of d).answer ≡ Some (pair_of d.cursor, cause_of d.cursor)) × ((drain_of d).dma.cursor.quota ≡ 0)
  -- and the engine after it is that of a pair: the drain brings a quota of 1 for it, whatever quota stood
  pub drain_moves : (d : VramDma) → d.cursor.escape_byte ≡ true → moving_of d ≡ true → Moved (with_quota 1 d) (drain_of d).dma
  -- "else it changes nothing"
  pub none_owed : (d : VramDma) → d.cursor.escape_byte ≡ false → drain_of d ≡ record { answer = None; dma = d }
  pub owed_still : (d : VramDma) → moving_of d ≡ false → drain_of d ≡ record { answer = None; dma = d }
