-- Refusal 7's tests and the facts say the same, part by part, and power-on passes. Assumes nothing.
use Prim.Native.Nat.{ℕ, zero, suc, ◌≤◌}
use mathlib.Core.Path.{◌≡◌, refl, ap}
use mathlib.Core.Bool.{Bool, true, false, ◌&&◌, ◌||◌, not, true≢false}
use mathlib.Core.List.{List, [], ◌∷◌}
use lib.Dec.{eqb}
use borrow.Author.Tests.{ltb-false, le-ltb, eq-eqb, eqb-true, not-false}
use Rattle.console.specs.declared.Cgb.{Cgb}
use Rattle.console.specs.declared.object.ObjectDma.{ObjectDma}
use Rattle.console.specs.declared.vram_dma.VramDma.{VramDma}
use Rattle.console.specs.PowerOn.{power_on_of, dma_at_rest}
use Rattle.console.specs.Reached.{any_of, engine_tests, bank_tests, object_dma_tests, unreached, unreached_tests, Sound, BanksWithin, ObjectDmaWithin, Reached}
use Rattle.console.specs.Set.{with_vram_dma, with_svbk, with_vram, with_vram_selected, with_object_dma}

-- ---- a list of tests: where none holds each fails, and the other way round

neither : (a b : Bool) → (a || b) ≡ false → (a ≡ false) × (b ≡ false)
neither false b e = (refl, e)
neither true b e = absurd (true≢false e)

-- the test with this number, from 0
abbrev nth : List Bool → ℕ → Bool
nth [] k = false
nth (b ∷ bs) zero = b
nth (b ∷ bs) (suc k) = nth bs k

fails : (bs : List Bool) → any_of bs ≡ false → (k : ℕ) → nth bs k ≡ false
fails [] e k = refl
fails (b ∷ bs) e zero = (neither b (any_of bs) e).0
fails (b ∷ bs) e (suc k) = fails bs (neither b (any_of bs) e).1 k

infixr 60 ◌nor◌
◌nor◌ : {a b : Bool} → a ≡ false → b ≡ false → (a || b) ≡ false
p nor q = rw p q

-- ---- the engine

-- its last test, as a fact
at_rest : (n : ℕ) (idle : Bool) → (eqb n 0 && not idle) ≡ false → n ≡ 0 → idle ≡ true
at_rest n idle e h = not-false idle (rw (eq-eqb n 0 h) at e)

at_rest_test : (t idle : Bool) → (t ≡ true → idle ≡ true) → (t && not idle) ≡ false
at_rest_test false idle h = refl
at_rest_test true idle h = ap not (h refl)

engine_within : (d : VramDma) → any_of (engine_tests d) ≡ false → Sound d
engine_within d e =
    let test = fails (engine_tests d) e in
    record {
      quota = ltb-false 2 _ (test 0);
      block = ltb-false 16 _ (test 1);
      left = ltb-false 2048 _ (test 2);
      idle = at_rest _ _ (test 3);
    }

engine_passes : (d : VramDma) → Sound d → any_of (engine_tests d) ≡ false
engine_passes d k =
    le-ltb 2 _ k.quota
    nor le-ltb 16 _ k.block
    nor le-ltb 2048 _ k.left
    nor at_rest_test _ _ (λ e. k.idle (eqb-true _ _ e))
    nor refl

-- ---- the bank registers

banks_within : (v k : ℕ) → any_of (bank_tests v k) ≡ false → BanksWithin v k
banks_within v k e =
    let test = fails (bank_tests v k) e in
    record { svbk = ltb-false 7 v (test 0); bank = ltb-false 1 k (test 1) }

banks_pass : (v k : ℕ) → BanksWithin v k → any_of (bank_tests v k) ≡ false
banks_pass v k b = le-ltb 7 v b.svbk nor le-ltb 1 k b.bank nor refl

-- ---- object DMA

object_within : (o : ObjectDma) → any_of (object_dma_tests o) ≡ false → ObjectDmaWithin o
object_within o e =
    let test = fails (object_dma_tests o) e in
    record { counted = ltb-false 160 _ (test 0); page = ltb-false 0xDF _ (test 1) }

object_passes : (o : ObjectDma) → ObjectDmaWithin o → any_of (object_dma_tests o) ≡ false
object_passes o k = le-ltb 160 _ k.counted nor le-ltb 0xDF _ k.page nor refl

-- ---- the state: a line for each part

pub reached : (s : Cgb) → unreached s ≡ false → Reached s
unfolding unreached
reached s e =
    let part = fails (unreached_tests s) e in
    record {
      engine = engine_within s.vram_dma (part 0);
      banks = banks_within s.svbk s.vram.selected (part 1);
      object = object_within s.object_dma (part 2);
    }

pub passes : (s : Cgb) → Reached s → unreached s ≡ false
unfolding unreached
passes s r =
    engine_passes s.vram_dma r.engine
    nor banks_pass s.svbk s.vram.selected r.banks
    nor object_passes s.object_dma r.object
    nor refl

pub power_on_passes : (compat : Bool) → unreached (power_on_of compat) ≡ false
unfolding unreached power_on_of dma_at_rest
power_on_passes compat = refl

pub sound : (s : Cgb) → Reached s → Sound s.vram_dma
sound s r = r.engine

-- ---- a state with one part put anew still passes, where the new part does

pub reached_with : (s : Cgb) (d : VramDma) → Reached s → Sound d → Reached (with_vram_dma d s)
reached_with s d r k = record { engine = k; banks = r.banks; object = r.object }

pub reached_with_svbk : (s : Cgb) (v : ℕ) → Reached s → v ≤ 7 → Reached (with_svbk v s)
reached_with_svbk s v r h = record { engine = r.engine; banks = record { svbk = h; bank = r.banks.bank }; object = r.object }

pub reached_with_bank : (s : Cgb) (k : ℕ) → Reached s → k ≤ 1 → Reached (with_vram (with_vram_selected k s.vram) s)
reached_with_bank s k r h = record { engine = r.engine; banks = record { svbk = r.banks.svbk; bank = h }; object = r.object }

pub reached_with_object : (s : Cgb) (o : ObjectDma) → Reached s → ObjectDmaWithin o → Reached (with_object_dma o s)
reached_with_object s o r k = record { engine = r.engine; banks = r.banks; object = k }
