-- A declined call that is lent no memory leaves all as given: a line for each that says what it gives and leaves where it is accepted.
-- Assumes nothing.
use Prim.Native.Nat.{ℕ}
use mathlib.Core.Path.{◌≡◌, refl}
use mathlib.Core.List.{List}
use Rattle.console.specs.Reached.{state_refusal}
use Rattle.console.specs.declared.Cgb.{Cgb}
use Rattle.answers.specs.Answers.{done_values, flag_values, pair_values, claim_values, switch_values, arbitration_values, conflict_values}
use Rattle.engine.specs.Calls.{fall_refusal, fall_call_of, next_pair_of, arbitration_call_of, switch_refusal, switch_call_of, blackout_call_of}
use Rattle.engine.specs.Calls.{wake_call_of, escape_drain_of, lcd_call_of, retired_call_of, conflict_found, asked}
use Rattle.ask.specs.Ask.{asked_of}
use Rattle.ask.proofs.Asked.{asked_said}
use Rattle.call.specs.declared.PlainCall.{PlainCall}
use Rattle.call.specs.declared.PlainCall.TheVariants as plain
use Rattle.told.specs.Declined.{Declined}
use Rattle.told.proofs.Declined as told
use Rattle.plain.specs.Plain.{plain_performed}

module _ (s : Cgb) (wram vram oam : List ℕ) where
  pub plain_declined : (p : PlainCall) → ((plain_performed s p).told.refusal ≡ 0 → ⊥) → Declined s wram vram oam (plain_performed s p) wram vram oam
  unfolding plain_performed fall_call_of next_pair_of escape_drain_of switch_call_of lcd_call_of retired_call_of blackout_call_of
      wake_call_of arbitration_call_of asked
  plain_declined (plain.Fall i) = told.changing s wram vram oam claim_values (fall_refusal s i) _ _
  plain_declined plain.NextPair = told.changing s wram vram oam pair_values (state_refusal s) _ _
  plain_declined plain.EscapeDrain = told.changing s wram vram oam pair_values (state_refusal s) _ _
  plain_declined (plain.Switch i) = told.changing s wram vram oam switch_values (switch_refusal s i) _ _
  plain_declined plain.LcdOff = told.changing s wram vram oam done_values (state_refusal s) _ _
  plain_declined plain.InstructionRetired = told.changing s wram vram oam done_values (state_refusal s) _ _
  plain_declined (plain.Blackout elapsed) = told.changing s wram vram oam flag_values (state_refusal s) _ _
  plain_declined (plain.Wake boundary) = told.changing s wram vram oam flag_values (state_refusal s) _ _
  plain_declined (plain.Arbitrate i) = told.changing s wram vram oam arbitration_values (state_refusal s) _ _
  plain_declined (plain.ArbitrateInside i) = told.changing s wram vram oam arbitration_values (state_refusal s) _ _
  plain_declined (plain.Conflict a) = told.asking s wram vram oam conflict_values (state_refusal s) (conflict_found s a)
  plain_declined (plain.Query q) = told.quiet s wram vram oam (state_refusal s) (asked_of s q).values (asked_of s q) s (asked_said s q) (λ x e. refl)
