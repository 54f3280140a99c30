-- Runs of the public functions: what each may return, by its own contract. A line for each public function of the library
-- (tools/calls compares the lists; the queries' are in Answered), with slices of any contents.
use Rattle.std.specs.Prelude.{ℕ, Bool, List, T, ltb, length, Option, Result}
use contract.Lifetimes.{Lfts}
use Rattle.std.specs.Borrow.{Bor, MutBor}
use Rattle.console.specs.declared.Cgb.{Cgb}
use Rattle.console.specs.declared.VramDmaClaim.{VramDmaClaim}
use Rattle.console.specs.declared.refusal.Refusal.{Refusal}
use Rattle.bus.specs.declared.arbitration.Arbitration.{Arbitration}
use Rattle.bus.specs.declared.arbitration.ArbitrationInput.{ArbitrationInput}
use Rattle.bus.specs.declared.commit.BusInput.{BusInput}
use Rattle.bus.specs.declared.hold.HoldInput.{HoldInput}
use Rattle.cut.specs.declared.SwitchOutcome.{SwitchOutcome}
use Rattle.fall_stages.specs.declared.FallInput.{FallInput}
use Rattle.map_write.specs.declared.WriteInput.{WriteInput}
use Rattle.speed_switch.specs.declared.switch.SwitchInput.{SwitchInput}
use Rattle.transfer.specs.Pair.{NextAnswer}
use Rattle.answers.specs.Answers.{Said, says, cycled_says, done_values, byte_values, flag_values, arbitration_values, conflict_values}
use Rattle.engine.specs.Calls.{lengths_of}
use Rattle.answers.specs.declared.BusOutcome.{BusOutcome}
use Rattle.answers.specs.declared.Cycled.{Cycled}
use Rattle.answers.specs.declared.Outcome as answer
use Rattle.call.specs.declared.query.Query.{Query}
use Rattle.engine.proofs.power_on.Kinds as power_on_kinds
use Rattle.engine.proofs.power_on.Reads as power_on_reads
pub use Rattle.ledger.specs.Function.{Function, Gives}
use Rattle.ledger.specs.Functions.{write, read, vram_dma_fall_edge, next_byte, vram_dma_drain_escape, vram_dma_commit_bytes}
use Rattle.ledger.specs.Functions.{attempt_speed_switch, vram_dma_lcd_disabled, vram_dma_instruction_retired}
use Rattle.ledger.specs.Functions.{drain_speed_switch_blackout, speed_switch_wake_ready, vram_dma_arbitrate_oam}
use Rattle.ledger.specs.Functions.{vram_dma_conflict_source, vram_dma_arbitrate_inside, vram_dma_commit_bytes_inside, object_dma_m_cycle}
use Rattle.ledger.specs.Answered.{Answered}
use Rattle.ledger.specs.Calls
use Rattle.ledger.specs.Calls.{Call, Outcome, plain, of_outcome, of_fell, of_handed, of_switched, of_bussed}

abbrev pub power_on : Function
power_on = record { lifetimes = 0; parameters = power_on_kinds.ps; result = power_on_kinds.r; tells = power_on_reads.Learnt }

-- at the state s, this call may return so
pub data Returned (s : Cgb) : Call → Outcome → Type 0 where
  by_write :
      (κs : Lfts 1) (wram : MutBor (List ℕ)) (a : ℕ) (w : WriteInput) (byte : T (ltb w.value 256)) (r : answer.Outcome (Unit {0})) →
      Gives write κs (s, (wram, (a, (w, tt)))) r → Returned s (Calls.write a w (length wram.now) byte) (of_outcome done_values r)
  by_read :
      (κs : Lfts 1) (wram : Bor (List ℕ)) (a : ℕ) (r : Result ℕ Refusal) →
      Gives read κs (s, (wram, (a, tt))) r → Returned s (Calls.read a (length wram.now)) (plain (says byte_values r) s)
  by_fall : (i : FallInput) (r : answer.Outcome VramDmaClaim) → Gives vram_dma_fall_edge tt (s, (i, tt)) r → Returned s (Calls.fall i) (of_fell r)
  by_next_pair : (r : answer.Outcome NextAnswer) → Gives next_byte tt (s, tt) r → Returned s Calls.next_pair (of_handed r)
  by_escape_drain : (r : answer.Outcome NextAnswer) → Gives vram_dma_drain_escape tt (s, tt) r → Returned s Calls.escape_drain (of_handed r)
  by_bus_call :
      (κs : Lfts 4) (i : BusInput) (cartridge wram : Bor (List ℕ)) (vram oam : MutBor (List ℕ)) (r : BusOutcome) →
      Gives vram_dma_commit_bytes κs (s, (i, (cartridge, (wram, (vram, (oam, tt)))))) r →
      Returned s (Calls.bus_call i (lengths_of cartridge.now wram.now vram.now oam.now)) (of_bussed r)
  by_switch_speed :
      (i : SwitchInput) (r : answer.Outcome SwitchOutcome) → Gives attempt_speed_switch tt (s, (i, tt)) r → Returned s (Calls.switch_speed i) (of_switched r)
  by_lcd_off : (r : answer.Outcome (Unit {0})) → Gives vram_dma_lcd_disabled tt (s, tt) r → Returned s Calls.lcd_off (of_outcome done_values r)
  by_retired : (r : answer.Outcome (Unit {0})) → Gives vram_dma_instruction_retired tt (s, tt) r → Returned s Calls.retired (of_outcome done_values r)
  by_blackout :
      (elapsed : ℕ) (r : answer.Outcome Bool) → Gives drain_speed_switch_blackout tt (s, (elapsed, tt)) r →
      Returned s (Calls.blackout elapsed) (of_outcome flag_values r)
  by_wake :
      (boundary : Bool) (r : answer.Outcome Bool) → Gives speed_switch_wake_ready tt (s, (boundary, tt)) r →
      Returned s (Calls.wake boundary) (of_outcome flag_values r)
  by_arbitrate :
      (i : ArbitrationInput) (r : answer.Outcome Arbitration) → Gives vram_dma_arbitrate_oam tt (s, (i, tt)) r →
      Returned s (Calls.arbitrate i) (of_outcome arbitration_values r)
  by_conflict :
      (a : ℕ) (r : Result (Option ℕ) Refusal) → Gives vram_dma_conflict_source tt (s, (a, tt)) r →
      Returned s (Calls.conflict a) (plain (says conflict_values r) s)
  by_query : (q : Query) (said : Said) → Answered s q said → Returned s (Calls.query q) (plain said s)
  by_arbitrate_inside :
      (i : HoldInput) (r : answer.Outcome Arbitration) → Gives vram_dma_arbitrate_inside tt (s, (i, tt)) r →
      Returned s (Calls.arbitrate_inside i) (of_outcome arbitration_values r)
  by_bus_call_inside :
      (κs : Lfts 4) (i : HoldInput) (cartridge wram : Bor (List ℕ)) (vram oam : MutBor (List ℕ)) (r : BusOutcome) →
      Gives vram_dma_commit_bytes_inside κs (s, (i, (cartridge, (wram, (vram, (oam, tt)))))) r →
      Returned s (Calls.bus_call_inside i (lengths_of cartridge.now wram.now vram.now oam.now)) (of_bussed r)
  by_object_dma_cycle :
      (κs : Lfts 4) (a : Arbitration) (cartridge wram vram : Bor (List ℕ)) (oam : MutBor (List ℕ)) (r : Cycled) →
      Gives object_dma_m_cycle κs (s, (a, (cartridge, (wram, (vram, (oam, tt)))))) r →
      Returned s (Calls.object_dma_cycle a (lengths_of cartridge.now wram.now vram.now oam.now)) (plain (cycled_says r) r.state)
