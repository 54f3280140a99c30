-- The bus call's loop: what the rest of it gives is what the whole of it gives. Assumes nothing.
use Prim.Native.Nat.{ℕ, suc, ◌+◌, ◌≤◌}
use native.Mathlib.Omega.{arith}
use mathlib.Core.Path.{◌≡◌, refl, ap, ◌∙◌}
use mathlib.Core.Bool.{false}
use mathlib.Core.List.{List, [], ◌∷◌}
use lib.ListN.{length, set}
use lib.Seq.{set_out}
use Rattle.std.specs.Prelude.{Some, None}
use Rattle.console.specs.declared.vram_dma.VramDma.{VramDma}
use Rattle.transfer.specs.Pair.{next_byte_of}
use Rattle.transfer.specs.declared.pair.BytePair.{BytePair}
use Rattle.transfer.specs.declared.pair.Cause.{Cause}
use Rattle.transfer.specs.declared.pair.Cause.TheVariants.{GoingOn}
use Rattle.transfer.specs.declared.pair.NextByte.{NextByte}
use Rattle.bus.specs.Source.{hdma_byte}
use Rattle.bus.specs.Store.{vram_with}
use Rattle.bus.specs.Deposit.{no_pair}
use Rattle.bus.specs.Commit.{pairs_of, bytes_of, vram_after, first_two, run_of, Ran, loop_of}
use Rattle.bus.specs.declared.commit.Banks.{Banks}
use Rattle.bus.proofs.Taken.{quota_falls, pairs_none, pairs_one, pairs_no_setup}

pub quota_falls_at :
    (d : VramDma) (r : NextByte) (p : BytePair) (k : Cause) → r ≡ next_byte_of d → r.answer ≡ Some (p, k) →
    d.cursor.quota ≡ suc r.dma.cursor.quota
quota_falls_at d r p k e h = rw e (quota_falls d p k (rw e at h))

-- places filled from `at` on
pub filled : {A : Type 0} → List A → ℕ → List A → List A
filled xs at [] = xs
filled xs at (y ∷ ys) = filled (set xs at y) (at + 1) ys

filled_out : {A : Type 0} (xs : List A) (at : ℕ) (ys : List A) → length xs ≤ at → filled xs at ys ≡ xs
unfolding filled
filled_out xs at [] h = refl
filled_out xs at (y ∷ ys) h = ap (λ (zs : List _). filled zs (at + 1) ys) (set_out xs at y h) ∙ filled_out xs (at + 1) ys (omega arith)

filled_two : {A : Type 0} (none : A) (xs : List A) → filled (none ∷ none ∷ []) 0 xs ≡ first_two none xs
unfolding filled
filled_two none [] = refl
filled_two none (a ∷ []) = refl
filled_two none (a ∷ b ∷ more) = filled_out (a ∷ b ∷ []) 2 more (omega arith)

add_none : (n : ℕ) → n + 0 ≡ n
add_none n = omega arith

from_none : (n : ℕ) → 0 + n ≡ n
from_none n = omega arith

add-one : (n k : ℕ) → n + 1 + k ≡ n + suc k
add-one n k = omega arith

abbrev pub ran : VramDma → ℕ → List BytePair → List Cause → List ℕ → List ℕ → Ran
ran d n pairs causes bytes vram =
    record { run = record { dma = d; count = n; pairs = pairs; causes = causes; bytes = bytes; setup_cell = false }; vram = vram }

module _ (banks : Banks) (cartridge wram : List ℕ) where
  -- what a call gives that has moved n pairs, kept these and goes on at d
  unfoldable pub going_on : VramDma → ℕ → List BytePair → List Cause → List ℕ → List ℕ → Ran
  going_on d n pairs causes bytes vram =
      ran (pairs_of d).dma (n + length (pairs_of d).pairs) (filled pairs n (pairs_of d).pairs)
      (filled causes n (pairs_of d).causes)
      (filled bytes n (bytes_of banks cartridge wram (pairs_of d).pairs))
      (vram_after banks cartridge wram (pairs_of d).pairs vram)

  pub stops :
      (d : VramDma) (n : ℕ) (pairs : List BytePair) (causes : List Cause) (bytes vram : List ℕ) → (next_byte_of d).answer ≡ None →
      going_on d n pairs causes bytes vram ≡ ran d n pairs causes bytes vram
  unfolding going_on bytes_of vram_after filled
  stops d n pairs causes bytes vram h = rw (pairs_none d h, add_none n)

  pub goes_on :
      (d : VramDma) (n : ℕ) (pairs : List BytePair) (causes : List Cause) (bytes vram : List ℕ) (p : BytePair) (k : Cause) →
      (next_byte_of d).answer ≡ Some (p, k) →
      (let byte : ℕ = hdma_byte cartridge wram banks.svbk p.source in
      going_on (next_byte_of d).dma (n + 1) (set pairs n p) (set causes n k) (set bytes n byte)
      (vram_with vram banks.vram p.dest byte) ≡
      going_on d n pairs causes bytes vram)
  unfolding going_on bytes_of vram_after filled
  goes_on d n pairs causes bytes vram p k h = rw (pairs_one d p k h, add-one n (length (pairs_of (next_byte_of d).dma).pairs))

  -- the same of values that are those, as the loop has them
  pub stops_at :
      (d : VramDma) (r : NextByte) (n : ℕ) (pairs : List BytePair) (causes : List Cause) (bytes vram : List ℕ) → r ≡ next_byte_of d →
      r.answer ≡ None → going_on d n pairs causes bytes vram ≡ ran d n pairs causes bytes vram
  stops_at d r n pairs causes bytes vram e h = stops d n pairs causes bytes vram (rw e at h)

  pub goes_on_at :
      (d : VramDma) (r : NextByte) (n m : ℕ) (ps ps' : List BytePair) (ks ks' : List Cause) (bs bs' vram vram' : List ℕ) (p : BytePair) (k : Cause)
      (byte : ℕ) → r ≡ next_byte_of d → r.answer ≡ Some (p, k) → m ≡ n + 1 → byte ≡ hdma_byte cartridge wram banks.svbk p.source →
      vram' ≡ vram_with vram banks.vram p.dest byte → ps' ≡ set ps n p → ks' ≡ set ks n k → bs' ≡ set bs n byte →
      going_on r.dma m ps' ks' bs' vram' ≡ going_on d n ps ks bs vram
  goes_on_at d r n m ps ps' ks ks' bs bs' vram vram' p k byte e h one b v q c w =
      rw (w, c, q, v, b, one, e) (goes_on d n ps ks bs vram p k (rw e at h))

  pub whole :
      (d : VramDma) (vram : List ℕ) →
      going_on d 0 (no_pair ∷ no_pair ∷ []) (GoingOn ∷ GoingOn ∷ []) (0 ∷ 0 ∷ []) vram ≡ loop_of banks cartridge wram d vram
  unfolding going_on loop_of run_of
  whole d vram =
      let bytes : List ℕ = bytes_of banks cartridge wram (pairs_of d).pairs in
      rw (
        pairs_no_setup d,
        from_none (length (pairs_of d).pairs),
        filled_two no_pair (pairs_of d).pairs,
        filled_two GoingOn (pairs_of d).causes,
        filled_two 0 bytes,
      )
