-- The calls of H (document 01, section 5: "all those of this document that take the engine's state"; document 02, A1: "These calls
-- join H"), and what each does: a line for each public function, by the definition that its contract cites. A lent slice is here by
-- its length alone: no answer but a byte, and no state, can depend on what it holds.
use Rattle.std.specs.Prelude.{ℕ, Bool, true, false, List, [], ◌∷◌, T, ltb, take, Some, None, Result, Ok, Err}
use Rattle.console.specs.Refusals.{number_of}
use Rattle.console.specs.declared.Cgb.{Cgb}
use Rattle.console.specs.declared.VramDmaClaim.{VramDmaClaim}
use Rattle.console.specs.declared.refusal.Refusal.{Refusal}
use Rattle.bus.specs.declared.arbitration.Arbitration.{Arbitration}
use Rattle.bus.specs.declared.arbitration.ArbitrationInput.{ArbitrationInput}
use Rattle.bus.specs.declared.commit.BusInput.{BusInput}
use Rattle.bus.specs.declared.hold.HoldInput.{HoldInput}
use Rattle.cut.specs.declared.SwitchOutcome.{SwitchOutcome}
use Rattle.cut.specs.declared.SwitchOutcome.TheVariants as switch
use Rattle.fall_stages.specs.declared.FallInput.{FallInput}
use Rattle.map_write.specs.declared.WriteInput.{WriteInput}
use Rattle.speed_switch.specs.declared.switch.SwitchInput.{SwitchInput}
use Rattle.transfer.specs.Pair.{NextAnswer}
use Rattle.transfer.specs.declared.pair.BytePair.{BytePair}
use Rattle.transfer.specs.declared.pair.Cause.{Cause}
use Rattle.engine.specs.Calls.{read_refusal, write_of, fall_call_of, next_pair_of, Lengths, bus_refusal, bus_pairs, bus_causes, bus_state, arbitration_call_of}
use Rattle.engine.specs.Calls.{switch_call_of, blackout_call_of, wake_call_of, escape_drain_of, lcd_call_of, retired_call_of, asked, conflict_found}
use Rattle.engine.specs.Calls.{inside_arbitration, inside_bus, cycle_refusal, cycle_state}
use Rattle.answers.specs.Answers.{Said, says, outcome_says, bus_outcome_says, done_values, flag_values, claim_values, pair_values, switch_values}
use Rattle.answers.specs.Answers.{arbitration_values, conflict_values, tells_commit}
use Rattle.answers.specs.declared.BusOutcome.{BusOutcome}
use Rattle.answers.specs.declared.Moved.{Moved}
use Rattle.answers.specs.declared.Outcome as answer
use Rattle.ask.specs.Ask.{asked_of}
pub use Rattle.call.specs.declared.query.Query.{Query}
use Rattle.ledger.specs.LedgerInput.{LedgerInput, a_write, a_fall, a_switch, a_drain, another, Reply}

-- the inputs of each call; a value written is a byte
pub data Call : Type 0 where
  write : (address : ℕ) (input : WriteInput) (wram : ℕ) → T (ltb input.value 256) → Call
  read : (address wram : ℕ) → Call
  fall : (input : FallInput) → Call
  next_pair escape_drain : Call
  bus_call : (input : BusInput) (lengths : Lengths) → Call
  switch_speed : (input : SwitchInput) → Call
  lcd_off retired : Call
  blackout : (elapsed : ℕ) → Call
  wake : (boundary : Bool) → Call
  arbitrate : (input : ArbitrationInput) → Call
  conflict : (address : ℕ) → Call
  query : Query → Call
  -- document 02, A1: arbitration and the bus call with object DMA's state from inside, and object DMA's M-cycle call
  arbitrate_inside : (input : HoldInput) → Call
  bus_call_inside : (input : HoldInput) (lengths : Lengths) → Call
  object_dma_cycle : (arbitration : Arbitration) (lengths : Lengths) → Call

-- a call's answer, as demand 3 reads it, and the state that it leaves
pub record Outcome : Type 0 where
  pub reply : Reply
  pub state : Cgb

-- a number, and where it is 0 pairs with the cause of each
abbrev pub handing : ℕ → List BytePair → List Cause → Reply
handing number pairs causes = record { number = number; pairs = pairs; cut = false; committed = false; causes = causes }

-- how each function's result reads as an outcome: its number, no pairs
abbrev pub plain : Said → Cgb → Outcome
plain said s = record { reply = handing said.number [] []; state = s }

-- of a call that answers with the state beside it
abbrev pub of_outcome : {A : Type 0} → (A → List ℕ) → answer.Outcome A → Outcome
of_outcome values r = plain (outcome_says values r) r.state

-- or whether it committed
abbrev pub of_fell : answer.Outcome VramDmaClaim → Outcome
of_fell r =
    record {
      reply =
          record {
            number = (outcome_says claim_values r).number;
            pairs = [];
            cut = false;
            committed = tells_commit r.answer;
            causes = [];
          };
      state = r.state;
    }

-- or its pair and the pair's cause
abbrev pub pairs_in : Result NextAnswer Refusal → List BytePair
pairs_in (Ok (Some (p, k))) = p ∷ []
pairs_in (Ok None) = []
pairs_in (Err r) = []

abbrev pub causes_in : Result NextAnswer Refusal → List Cause
causes_in (Ok (Some (p, k))) = k ∷ []
causes_in (Ok None) = []
causes_in (Err r) = []

abbrev pub of_handed : answer.Outcome NextAnswer → Outcome
of_handed r =
    record { reply = handing (outcome_says pair_values r).number (pairs_in r.answer) (causes_in r.answer); state = r.state }

-- or whether it cut
abbrev pub is_cut : Result SwitchOutcome Refusal → Bool
is_cut (Ok switch.None) = false
is_cut (Ok switch.Discarded) = false
is_cut (Ok switch.Cut) = true
is_cut (Err r) = false

abbrev pub of_switched : answer.Outcome SwitchOutcome → Outcome
of_switched r =
    record {
      reply =
          record {
            number = (outcome_says switch_values r).number;
            pairs = [];
            cut = is_cut r.answer;
            committed = false;
            causes = [];
          };
      state = r.state;
    }

-- or the pairs of a bus call or their causes: the first of its two places, as many as it counts
abbrev pub moved_in : {A : Type 0} → Result Moved Refusal → List A → List A
moved_in (Ok m) places = take m.count places
moved_in (Err r) places = []

abbrev pub of_bussed : BusOutcome → Outcome
of_bussed r =
    record {
      reply = handing (bus_outcome_says r).number (moved_in r.answer r.pairs) (moved_in r.answer r.causes);
      state = r.state;
    }

-- one call, at the state s
unfoldable pub step : Cgb → Call → Outcome
step s (write a w n byte) = of_outcome done_values (write_of s w a n)
step s (read a n) = record { reply = handing (number_of (read_refusal s n a)) [] []; state = s }
step s (fall i) = of_fell (fall_call_of s i)
step s next_pair = of_handed (next_pair_of s)
step s escape_drain = of_handed (escape_drain_of s)
step s (bus_call i n) =
    record { reply = handing (number_of (bus_refusal s n)) (bus_pairs s i n) (bus_causes s i n); state = bus_state s i n }
step s (switch_speed i) = of_switched (switch_call_of s i)
step s lcd_off = of_outcome done_values (lcd_call_of s)
step s retired = of_outcome done_values (retired_call_of s)
step s (blackout elapsed) = of_outcome flag_values (blackout_call_of s elapsed)
step s (wake boundary) = of_outcome flag_values (wake_call_of s boundary)
step s (arbitrate i) = of_outcome arbitration_values (arbitration_call_of s i)
step s (conflict a) = plain (says conflict_values (asked s (conflict_found s a))) s
step s (query q) = plain (asked_of s q) s
step s (arbitrate_inside i) = of_outcome arbitration_values (arbitration_call_of s (inside_arbitration s i))
step s (bus_call_inside i n) =
    let given = inside_bus s i in
    record { reply = handing (number_of (bus_refusal s n)) (bus_pairs s given n) (bus_causes s given n); state = bus_state s given n }
step s (object_dma_cycle a n) = record { reply = handing (number_of (cycle_refusal s n)) [] []; state = cycle_state s a n }

-- a bus call of either form, at the state s, and what it is given
pub data BusCall (s : Cgb) : Call → BusInput → Type 0 where
  from_outside : (i : BusInput) (n : Lengths) → BusCall s (bus_call i n) i
  from_inside : (i : HoldInput) (n : Lengths) → BusCall s (bus_call_inside i n) (inside_bus s i)

-- what the ledger and demand 3 read of it
unfoldable pub ledger_input : Call → LedgerInput
ledger_input (write a w n byte) = a_write a w.value
ledger_input (read a n) = another
ledger_input (fall i) = a_fall
ledger_input next_pair = another
ledger_input escape_drain = a_drain
ledger_input (bus_call i n) = another
ledger_input (switch_speed i) = a_switch
ledger_input lcd_off = another
ledger_input retired = another
ledger_input (blackout elapsed) = another
ledger_input (wake boundary) = another
ledger_input (arbitrate i) = another
ledger_input (conflict a) = another
ledger_input (query q) = another
ledger_input (arbitrate_inside i) = another
ledger_input (bus_call_inside i n) = another
ledger_input (object_dma_cycle a n) = another
