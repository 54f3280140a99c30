-- The calls that are lent no memory: what each says and the state after, by the definition that its contract cites.
use Rattle.std.specs.Prelude.{ℕ, List}
use Rattle.console.specs.declared.Cgb.{Cgb}
use Rattle.answers.specs.Answers.{says, outcome_says, done_values, flag_values, pair_values, claim_values, switch_values, arbitration_values, conflict_values}
use Rattle.answers.specs.declared.Outcome.{Outcome}
use Rattle.engine.specs.Calls.{fall_call_of, next_pair_of, arbitration_call_of, switch_call_of, blackout_call_of, wake_call_of, escape_drain_of, lcd_call_of}
use Rattle.engine.specs.Calls.{retired_call_of, conflict_found, asked, inside_arbitration}
use Rattle.ask.specs.Ask.{asked_of}
use Rattle.call.specs.declared.PlainCall.{PlainCall}
use Rattle.call.specs.declared.PlainCall.TheVariants as plain
use Rattle.told.specs.Told.{telling}
use Rattle.told.specs.declared.Performed.{Performed}

-- a call that answers with the state beside it
abbrev pub done : {A : Type 0} → (A → List ℕ) → Outcome A → Performed
done values r = telling (outcome_says values r) r.state

unfoldable pub plain_performed : Cgb → PlainCall → Performed
plain_performed s (plain.Fall i) = done claim_values (fall_call_of s i)
plain_performed s plain.NextPair = done pair_values (next_pair_of s)
plain_performed s plain.EscapeDrain = done pair_values (escape_drain_of s)
plain_performed s (plain.Switch i) = done switch_values (switch_call_of s i)
plain_performed s plain.LcdOff = done done_values (lcd_call_of s)
plain_performed s plain.InstructionRetired = done done_values (retired_call_of s)
plain_performed s (plain.Blackout elapsed) = done flag_values (blackout_call_of s elapsed)
plain_performed s (plain.Wake boundary) = done flag_values (wake_call_of s boundary)
plain_performed s (plain.Arbitrate i) = done arbitration_values (arbitration_call_of s i)
plain_performed s (plain.ArbitrateInside i) = done arbitration_values (arbitration_call_of s (inside_arbitration s i))
plain_performed s (plain.Conflict a) = telling (says conflict_values (asked s (conflict_found s a))) s
plain_performed s (plain.Query q) = telling (asked_of s q) s
