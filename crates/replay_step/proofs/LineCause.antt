-- A line's sixth field is its pair's cause (specs, `LineCauses`), of every record at every state. Assumes nothing.
use Prim.Native.Nat.{ℕ}
use native.Mathlib.Omega.{arith}
use mathlib.Core.Path.{◌≡◌, refl}
use mathlib.Core.Bool.{true, false}
use mathlib.Core.List.{List}
use Rattle.console.specs.declared.Cgb.{Cgb}
use Rattle.answers.specs.Answers.{says, pair_values, cause_number}
use Rattle.answers.specs.CauseNumbers.{CauseTold}
use Rattle.console.specs.declared.refusal.Refusal.{Refusal}
use Rattle.call.specs.declared.Call.TheVariants as call
use Rattle.call.specs.declared.PlainCall.TheVariants as plain
use Rattle.engine.specs.Calls.{next_pair_of, escape_drain_of}
use Rattle.transfer.specs.Pair.{NextAnswer}
use Rattle.transfer.specs.declared.pair.BytePair.{BytePair}
use Rattle.transfer.specs.declared.pair.Cause.{Cause}
use Rattle.transfer_calls.proofs.PairCallSteps.{pair_call_steps}
use Rattle.perform.specs.Perform.{perform_of}
use Rattle.perform.specs.Record.{record_performed}
use Rattle.plain.specs.Plain.{plain_performed}
use Rattle.std.proofs.Common.{Option, Some, None, Result, Ok, Err}
use Rattle.call.specs.declared.Call.{Call}
use Rattle.call.specs.declared.PlainCall.{PlainCall}
use Rattle.told.specs.Told.{told_of}
use Rattle.replay_step.specs.LineCause.{LineCause, LineCauses}
use Rattle.replay_step.specs.Record.{record_at_start}
use Rattle.replay_step.specs.Step.{hands_pair, line_of, pair_line_of, told_pair, step_of}

one_not_zero : ◌≡◌ {A = ℕ} 1 0 → ⊥
one_not_zero e = omega (arith, e)

-- the line of an answer that may bring a pair, and leaves the state t
of_answer :
    (s t : Cgb) (a : Result NextAnswer Refusal) →
    ((p : BytePair) (k : Cause) → a ≡ Ok (Some (p, k)) →
    CauseTold s.vram_dma.cursor.dest t.vram_dma.cursor.remaining (cause_number k)) →
    (let told = told_of (says pair_values a) in LineCause s (pair_line_of told.refusal (told_pair true told) t).line)
unfolding told_pair pair_line_of line_of
of_answer s t (Ok (Some (p, k))) caused = record { none = λ e. absurd (one_not_zero e); some = λ some. caused p k refl }
of_answer s t (Ok None) caused = record { none = λ e. refl; some = λ some. absurd (some refl) }
of_answer s t (Err r) caused = record { none = λ e. refl; some = λ some. absurd (some refl) }

module _ (s : Cgb) (wram : List ℕ) where
  abbrev Tells : Option Call → Type 0
  Tells c = LineCause s (step_of s wram c).line

  -- another call brings none
  no_pair_lem : (c : Option Call) → hands_pair c ≡ false → Tells c
  unfolding step_of told_pair pair_line_of line_of
  no_pair_lem c e = rw (e) (record { none = λ e. refl; some = λ some. absurd (some refl) })

  next_pair : Tells (Some (call.Plain plain.NextPair))
  unfolding step_of record_performed perform_of plain_performed hands_pair
  next_pair = of_answer s (next_pair_of s).state (next_pair_of s).answer (pair_call_steps s).next

  escape_drain : Tells (Some (call.Plain plain.EscapeDrain))
  unfolding step_of record_performed perform_of plain_performed hands_pair
  escape_drain = of_answer s (escape_drain_of s).state (escape_drain_of s).answer (pair_call_steps s).drain

  of_plain : (p : PlainCall) → Tells (Some (call.Plain p))
  unfolding hands_pair
  of_plain plain.NextPair = next_pair
  of_plain plain.EscapeDrain = escape_drain
  of_plain (plain.Fall i) = no_pair_lem _ refl
  of_plain (plain.Switch i) = no_pair_lem _ refl
  of_plain plain.LcdOff = no_pair_lem _ refl
  of_plain plain.InstructionRetired = no_pair_lem _ refl
  of_plain (plain.Blackout n) = no_pair_lem _ refl
  of_plain (plain.Wake b) = no_pair_lem _ refl
  of_plain (plain.Arbitrate i) = no_pair_lem _ refl
  of_plain (plain.ArbitrateInside i) = no_pair_lem _ refl
  of_plain (plain.Conflict a) = no_pair_lem _ refl
  of_plain (plain.Query q) = no_pair_lem _ refl

  of_call : (c : Option Call) → Tells c
  unfolding hands_pair
  of_call (Some (call.Plain p)) = of_plain p
  of_call (Some (call.Write a i)) = no_pair_lem _ refl
  of_call (Some (call.Read a)) = no_pair_lem _ refl
  of_call (Some (call.Bus i)) = no_pair_lem _ refl
  of_call (Some (call.BusInside i)) = no_pair_lem _ refl
  of_call (Some (call.ObjectDmaCycle a)) = no_pair_lem _ refl
  of_call None = no_pair_lem _ refl

pub line_causes : LineCauses
line_causes = record { every = λ s wram bytes. of_call s wram (record_at_start bytes) }
