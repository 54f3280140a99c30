-- Running falls commit at most once in a mode-0 period, of the calls (specs, `OnceCalls`). Assumes nothing.
use Prim.Native.Nat.{ℕ, ◌≤◌}
use native.Mathlib.Omega.{arith}
use mathlib.Core.Path.{◌≡◌, subst}
use mathlib.Core.Bool.{true}
use lib.Dec.{eqb}
use Rattle.std.proofs.Common.{Option, Some, None}
use borrow.Author.Tests.{eqb-true}
use Rattle.console.specs.Reached.{state_refusal}
use Rattle.console.specs.Refusals.{kept}
use Rattle.console.specs.declared.Cgb.{Cgb}
use Rattle.console.specs.declared.refusal.Refusal.{Refusal}
use Rattle.console.specs.declared.vram_dma.VramDma.{VramDma}
use Rattle.bus.proofs.BusSteps.{bus_steps}
use Rattle.fall_stages.specs.Once.{Period, over, fall, other}
use Rattle.fall_stages.proofs.Once as engine
use Rattle.fall_stages.proofs.PendMarks.{keeps_between}
use Rattle.fall_call.proofs.FallCallSteps.{fall_call_steps}
use Rattle.bus_calls.specs.Bus.{arbitrated, arbitration_call_of}
use Rattle.bus_calls.specs.BusCall.{bus_refusal, bus_state}
use Rattle.object_dma_calls.specs.Cycle.{cycle_refusal, cycle_state}
use Rattle.transfer_calls.specs.Lcd.{lcd_call_of, retired_call_of}
use Rattle.transfer_calls.specs.Pair.{next_pair_of, escape_drain_of}
use Rattle.engine.specs.OnceCalls
use Rattle.engine.specs.OnceCalls.{CallsBetween, BetweenFalls, CallPeriod, OnceCalls}

in_mode : (n : ℕ) → eqb n 0 ≡ true → n ≤ 3
in_mode n e = let zero = eqb-true n 0 e in low zero
  where
    low : n ≡ 0 → n ≤ 3
    low zero = omega arith

-- a period of calls is one of the engine
period : {s : Cgb} {n : ℕ} → CallPeriod s n → Period s.vram_dma n
period (OnceCalls.over s) = over s.vram_dma
period (OnceCalls.fall i s n reached runs rest) =
    let steps = fall_call_steps s i in
    let low = in_mode i.mode runs.place in
    rw (steps.tells reached low)
    (fall i s.double_speed s.vram_dma n runs
    (subst (λ (d : VramDma). Period d n) (steps.leaves reached low) (period rest)))
period (OnceCalls.other s t n between rest) = other s.vram_dma t.vram_dma n between (period rest)

-- a call that keeps the state where it is declined
module _ (s t : Cgb) where
  either : (k : Option Refusal) → CallsBetween s t → CallsBetween s (kept k s t)
  either None between = between
  either (Some r) between = record { taken = λ e. e; pend = λ e. e }

between : (s : Cgb) → BetweenFalls s
unfolding next_pair_of escape_drain_of lcd_call_of retired_call_of bus_state arbitration_call_of cycle_state
between s =
    let calls = engine.other_calls s.vram_dma in
    let passes = state_refusal s in
    record {
      pair = either s _ passes calls.pair;
      drain = either s _ passes calls.drain;
      lcd_off = either s _ passes calls.lcd_off;
      retired = either s _ passes calls.retired;
      bus_call = λ i n. either s _ (bus_refusal s n) (keeps_between (bus_steps i s.vram_dma).marks);
      arbitration = λ i. either s _ passes (calls.arbitration (arbitrated s i).oam);
      cycle = λ a n. either s _ (cycle_refusal s n) (record { taken = λ e. e; pend = λ e. e });
    }

pub once_calls : OnceCalls
once_calls = record { once = λ s n p. engine.once_among s.vram_dma n (period p); between = between }
