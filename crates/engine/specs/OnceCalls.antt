-- Running falls commit at most once in a mode-0 period, of the calls: `OnceAmong` of `fall_stages` is of the engine's fall. Each state
-- at a fall passes 7, as every state does that calls from power-on leave.
use Rattle.std.specs.Prelude.{ℕ, ◌+◌, ◌≤◌, ◌≡◌, true, false, cond}
use Rattle.console.specs.Reached.{unreached}
use Rattle.console.specs.declared.Cgb.{Cgb}
use Rattle.bus.specs.declared.arbitration.Arbitration.{Arbitration}
use Rattle.bus.specs.declared.arbitration.ArbitrationInput.{ArbitrationInput}
use Rattle.bus.specs.declared.commit.BusInput.{BusInput}
use Rattle.fall_stages.specs.Once.{Running, Between}
use Rattle.fall_stages.specs.declared.FallInput.{FallInput}
use Rattle.answers.specs.Answers.{tells_commit}
use Rattle.fall_call.specs.Fall.{fall_call_of}
use Rattle.bus_calls.specs.Bus.{arbitration_call_of}
use Rattle.bus_calls.specs.BusCall.{Lengths, bus_state}
use Rattle.object_dma_calls.specs.Cycle.{cycle_state}
use Rattle.transfer_calls.specs.Lcd.{lcd_call_of, retired_call_of}
use Rattle.transfer_calls.specs.Pair.{next_pair_of, escape_drain_of}

-- what comes between two falls: the state in front of it and after it
abbrev pub CallsBetween : Cgb → Cgb → Type 0
CallsBetween s t = Between s.vram_dma t.vram_dma

-- the calls that move bytes, arbitrate or end an instruction are of that kind, and so is LCD off, declined or not; a bus call and
-- arbitration from inside are those with what the state tells them
pub record BetweenFalls (s : Cgb) : Type 0 where
  pub pair : CallsBetween s (next_pair_of s).state
  pub drain : CallsBetween s (escape_drain_of s).state
  pub lcd_off : CallsBetween s (lcd_call_of s).state
  pub retired : CallsBetween s (retired_call_of s).state
  pub bus_call : (i : BusInput) (n : Lengths) → CallsBetween s (bus_state s i n)
  pub arbitration : (i : ArbitrationInput) → CallsBetween s (arbitration_call_of s i).state
  pub cycle : (a : Arbitration) (n : Lengths) → CallsBetween s (cycle_state s a n)

-- a run of such falls from the state s, with anything of that kind in front of and between them; n is the commits that their
-- answers tell
pub data CallPeriod : Cgb → ℕ → Type 0 where
  over : (s : Cgb) → CallPeriod s 0
  fall :
      (i : FallInput) (s : Cgb) (n : ℕ) → unreached s ≡ false → Running true i → CallPeriod (fall_call_of s i).state n →
      CallPeriod s (cond (tells_commit (fall_call_of s i).answer) 1 0 + n)
  other : (s t : Cgb) (n : ℕ) → CallsBetween s t → CallPeriod t n → CallPeriod s n

pub record OnceCalls : Type 0 where
  pub once : (s : Cgb) (n : ℕ) → CallPeriod s n → n ≤ 1
  pub between : (s : Cgb) → BetweenFalls s
