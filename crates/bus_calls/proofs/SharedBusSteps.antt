-- Arbitration and the write conflict as calls answer exactly when their conditions hold (specs, `SharedBusSteps`). Assumes
-- nothing.
use Prim.Native.Nat.{ℕ}
use mathlib.Core.Path.{◌≡◌, refl, sym, ap, ◌∙◌}
use mathlib.Core.Bool.{Bool, true, false}
use mathlib.Core.Logic.Iff
use mathlib.Core.Logic.{◌↔◌}
use Rattle.std.proofs.Common.{Option, Some, None, Result, Ok, Err}
use Rattle.console.specs.Reached.{unreached, state_refusal}
use Rattle.console.specs.Set.{with_vram_dma, with_dma_oam}
use Rattle.console.specs.declared.Cgb.{Cgb}
use Rattle.console.specs.declared.refusal.Refusal.{Refusal}
use Rattle.transfer.proofs.Conditions.{when_false}
use Rattle.transfer.proofs.QuestionSteps.{question_steps}
use Rattle.bus.specs.Arbitration.{arbitrated_of}
use Rattle.bus.specs.declared.arbitration.Arbitration.{Arbitration}
use Rattle.bus.specs.declared.arbitration.Arbitration.TheVariants as bus
use Rattle.bus.specs.declared.arbitration.ArbitrationInput.{ArbitrationInput}
use Rattle.bus.proofs.ArbitrationSteps.{arbitration_steps}
use Rattle.answers.specs.Queries.{asked}
use Rattle.answers.proofs.Numbers.{state_passes}
use Rattle.answers.proofs.Queries.{given}
use Rattle.bus_calls.specs.Bus.{arbitrated, arbitration_call_of, conflict_found}
use Rattle.bus_calls.specs.SharedBusSteps.{ArbitrationCall, ConflictCall, SharedBusSteps}

-- an answer tells what it gives
same_given : {A : Type 0} (a b : A) → ◌≡◌ {A = Result A Refusal} (Ok a) (Ok b) ↔ (a ≡ b)
same_given a b = (λ e. cc, λ e. ap Ok e)

module _ (s : Cgb) (reached : unreached s ≡ false) where
  passes : state_refusal s ≡ None
  passes = state_passes s reached

  module _ (i : ArbitrationInput) where
    answers : (arbitration_call_of s i).answer ≡ Ok (arbitrated s i).answer
    unfolding arbitration_call_of
    answers = rw passes

    leaves : (arbitration_call_of s i).state ≡ with_vram_dma (with_dma_oam (arbitrated s i).oam s.vram_dma) s
    unfolding arbitration_call_of
    leaves = rw passes

    says : (b : Arbitration) → ((arbitration_call_of s i).answer ≡ Ok b) ↔ ((arbitrated s i).answer ≡ b)
    says b =
        Iff.trans (λ e. sym answers ∙ e, λ e. answers ∙ e) (same_given (arbitrated s i).answer b)

    marks :
        (contended : Bool) → (arbitrated s i).oam.contended ≡ contended →
        (arbitration_call_of s i).state ≡
        with_vram_dma (with_dma_oam (record { was_transferring = i.oam_transferring; contended = contended }) s.vram_dma) s
    unfolding arbitrated_of
    marks contended e =
        leaves ∙ ap (λ (b : Bool). with_vram_dma (with_dma_oam (record { was_transferring = i.oam_transferring; contended = b }) s.vram_dma) s) e

    arbitration_call : ArbitrationCall s i
    arbitration_call =
        let steps = arbitration_steps s.double_speed i s.vram_dma in
        record {
          contended = Iff.trans (says bus.Contended) steps.contended;
          stall = Iff.trans (says bus.Stall) steps.stall;
          clear = Iff.trans (says bus.Clear) steps.clear;
          after_contended = λ c. marks true (steps.keeps_contended.1 c);
          after_else = λ other. marks false ((when_false (arbitrated s i).oam.contended steps.keeps_contended).1 other);
        }

  module _ (a : ℕ) where
    finds : (c : Option ℕ) → (asked s (conflict_found s a) ≡ Ok c) ↔ (conflict_found s a ≡ c)
    finds c =
        let tells = given s reached (conflict_found s a) in
        Iff.trans (λ e. sym tells ∙ e, λ e. tells ∙ e) (same_given (conflict_found s a) c)

    conflict_call : ConflictCall s a
    conflict_call =
        record {
          found = Iff.trans (finds (Some s.vram_dma.cursor.source)) ((question_steps s.vram_dma).conflict s.double_speed a);
          none = Iff.trans (finds None) ((question_steps s.vram_dma).no_conflict s.double_speed a);
        }

pub shared_bus_steps : SharedBusSteps
shared_bus_steps = record { arbitration = λ s i reached. arbitration_call s reached i; conflict = λ s a reached. conflict_call s reached a }
