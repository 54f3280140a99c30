-- The General clause: the pairs of a bus call directly after a fall, in status General and with no set-up cell. Assumes nothing.
use Prim.Native.Nat.{ℕ, zero, suc, ◌<◌}
use native.Mathlib.Omega.{arith}
use mathlib.Core.Path.{◌≡◌, refl, sym, ap, subst, ◌∙◌}
use mathlib.Core.Bool.{Bool, true, false, cond, false≢true}
use mathlib.Core.Logic.{⊎_elim}
use native.Mathlib.Nat.{eq-zero-or-pos}
use lib.Dec.{eqb}
use lib.ListN.{length}
use borrow.Author.Tests.{eqb-true, eqb-false}
use Rattle.console.specs.Modes.{is_idle}
use Rattle.std.proofs.Common.{Option, Some, None, Ok}
use Rattle.console.specs.Reached.{unreached, state_refusal}
use Rattle.console.specs.Refusals.{answered}
use Rattle.console.specs.declared.Cgb.{Cgb}
use Rattle.console.specs.declared.refusal.Refusal.{Refusal}
use Rattle.console.specs.declared.vram_dma.TransferCursor.{TransferCursor}
use Rattle.console.specs.declared.vram_dma.TransferMode.{TransferMode}
use Rattle.console.specs.declared.vram_dma.TransferMode.TheVariants as mode
use Rattle.console.specs.declared.vram_dma.VramDma.{VramDma}
use Rattle.console.proofs.Reached as seven
use Rattle.bus.specs.Commit.{after_answer, taken_of, pairs_of, holds_bus, setup_stands}
use Rattle.bus.specs.declared.commit.BusInput.{BusInput}
use Rattle.bus.proofs.Taken.{moving}
use Rattle.transfer.specs.Pair.{moving_of, quota_of, left_after, advanced_of}
use Rattle.transfer.specs.Questions.{status_in}
use Rattle.transfer.specs.Questions as transfer
use Rattle.transfer.specs.PairSteps.{Ready, Moved}
use Rattle.transfer.specs.declared.VramDmaStatus.TheVariants as dma
use Rattle.transfer.specs.declared.pair.NextByte.{NextByte}
use Rattle.transfer.proofs.CauseSteps.{left_after_lem}
use Rattle.transfer.proofs.PairSteps.{pair_steps, steps}
use Rattle.fall_stages.proofs.Refills.{general_moves}
use Rattle.engine.specs.Calls.{Lengths, bus_refusal, bus_pairs, asked, engine_status}
use Rattle.ledger.specs.Demand3.{general_pairs}

-- a status of General is told in mode General alone
general_mode : (m : TransferMode) (c : TransferCursor) (left : ℕ) → status_in m c ≡ dma.General left → m ≡ mode.General
general_mode mode.Idle c left h = cc
general_mode mode.General c left h = refl
general_mode mode.HBlank c left h = cc

pub mode_of : (s : Cgb) (left : ℕ) → asked s (engine_status s) ≡ Ok (dma.General left) → s.vram_dma.cursor.mode ≡ mode.General
unfolding asked transfer.status_of
mode_of s left = by (state_refusal s)
  where
    by :
        (k : Option Refusal) → answered k (status_in s.vram_dma.cursor.mode s.vram_dma.cursor) ≡ Ok (dma.General left) →
        s.vram_dma.cursor.mode ≡ mode.General
    by None h = general_mode s.vram_dma.cursor.mode s.vram_dma.cursor left (cc)
    by (Some r) h = cc

-- in mode General something is left
left_of : (s : Cgb) → unreached s ≡ false → s.vram_dma.cursor.mode ≡ mode.General → 0 < s.vram_dma.cursor.remaining
left_of s passes general =
    ⊎_elim (λ none. absurd (false≢true (sym (ap is_idle general) ∙ (seven.reached s passes).engine.idle none))) (λ some. some)
    (eq-zero-or-pos s.vram_dma.cursor.remaining)

take_some : (n : ℕ) (d : VramDma) → Ready d → length (taken_of (suc n) d).pairs ≡ suc (length (taken_of n (advanced_of d)).pairs)
unfolding taken_of
take_some n d r = ap (λ (x : NextByte). length (after_answer d x.answer (taken_of n x.dma)).pairs) (steps d r)

take_none : (n : ℕ) (d : VramDma) → moving_of d ≡ false → length (taken_of n d).pairs ≡ 0
unfolding taken_of
take_none zero d h = refl
take_none (suc n) d h = ap (λ (x : NextByte). length (after_answer d x.answer (taken_of n x.dma)).pairs) (pair_steps.not_moving d h)

take_zero : (d : VramDma) → length (taken_of 0 d).pairs ≡ 0
unfolding taken_of
take_zero d = refl

ready : (d : VramDma) → d.cursor.mode ≡ mode.General → 0 < d.cursor.remaining → 0 < d.cursor.quota → Ready d
ready d general some q = record { quota = q; moving = general_moves d general some }

one : (d : VramDma) → d.cursor.mode ≡ mode.General → 0 < d.cursor.remaining → d.cursor.quota ≡ 1 → length (taken_of 1 d).pairs ≡ 1
one d general some q = take_some 0 d (ready d general some (omega arith)) ∙ ap suc (take_zero (advanced_of d))

-- the second pair comes unless the first brought left to 0
two :
    (d : VramDma) → d.cursor.mode ≡ mode.General → 0 < d.cursor.remaining → d.cursor.quota ≡ 2 →
    length (taken_of 2 d).pairs ≡ cond (eqb (left_after d.cursor) 0) 1 2
two d general some q = take_some 1 d r ∙ by (eqb (left_after d.cursor) 0) refl
  where
    r : Ready d
    r = ready d general some (omega arith)

    v : Moved d (advanced_of d)
    v = subst (λ (x : NextByte). Moved d x.dma) (steps d r) (pair_steps.moves d r)

    by : (b : Bool) → eqb (left_after d.cursor) 0 ≡ b → suc (length (taken_of 1 (advanced_of d)).pairs) ≡ cond b 1 2
    by true e = ap suc (take_none 1 (advanced_of d) (pair_steps.never (advanced_of d) (left_after_lem d ∙ eqb-true _ _ e)))
    by false e =
        let ne = eqb-false (left_after d.cursor) 0 e in
        let left = left_after_lem d in
        let q1 : (advanced_of d).cursor.quota ≡ 1 = (let fell = v.quota in omega arith) in
        ap suc (one (advanced_of d) ((v.going (λ z. ne (sym left ∙ z))).0 ∙ general) (omega arith) q1)

-- after a fall: 2 at single speed, or 1 where the first brings left to 0, and 1 at double
pub general_count :
    (s : Cgb) → unreached s ≡ false → s.vram_dma.cursor.quota ≡ quota_of (moving_of s.vram_dma) s.double_speed →
    s.vram_dma.cursor.mode ≡ mode.General → length (pairs_of s.vram_dma).pairs ≡ general_pairs s
unfolding pairs_of
general_count s passes fresh general =
    by s.double_speed (fresh ∙ ap (λ (m : Bool). quota_of m s.double_speed) (general_moves s.vram_dma general some))
  where
    some : 0 < s.vram_dma.cursor.remaining
    some = left_of s passes general

    by :
        (double : Bool) → s.vram_dma.cursor.quota ≡ quota_of true double →
        length (taken_of s.vram_dma.cursor.quota s.vram_dma).pairs ≡
        cond double 1 (cond (eqb (left_after s.vram_dma.cursor) 0) 1 2)
    by true q = ap (λ (n : ℕ). length (taken_of n s.vram_dma).pairs) q ∙ one s.vram_dma general some q
    by false q = ap (λ (n : ℕ). length (taken_of n s.vram_dma).pairs) q ∙ two s.vram_dma general some q

-- an accepted bus call that holds the bus and takes no set-up cell hands out the engine's pairs
pub held_pairs :
    (s : Cgb) (i : BusInput) (n : Lengths) → bus_refusal s n ≡ None → holds_bus i ≡ true → setup_stands s.vram_dma ≡ false →
    bus_pairs s i n ≡ (pairs_of s.vram_dma).pairs
unfolding bus_pairs
held_pairs s i n accepted held no_cell = rw (accepted, moving i s.vram_dma held no_cell)
