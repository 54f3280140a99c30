-- What is shown of the causes that a bus call answers (document 02, A3: "Bus call .. pass it on, each pair with its own"), in numbers.
use Rattle.std.specs.Prelude.{◌+◌, ◌%◌, ◌≡◌, [], ◌∷◌, length}
use Rattle.console.specs.declared.Cgb.{Cgb}
use Rattle.bus.specs.declared.commit.BusInput.{BusInput}
use Rattle.transfer.specs.declared.pair.Cause.{Cause}
use Rattle.answers.specs.Answers.{cause_number}
use Rattle.answers.specs.CauseNumbers.{CauseTold}
use Rattle.bus_calls.specs.BusCall.{Lengths, bus_pairs, bus_causes, bus_state}

-- of every call, declined ones too, of either form: a bus call from inside is one with the state's start edge
pub record BusCauseSteps (s : Cgb) (i : BusInput) (n : Lengths) : Type 0 where
  pub each : length (bus_causes s i n) ≡ length (bus_pairs s i n)
  -- one pair: by the destination register in front of the call, and what the call leaves
  pub of_one :
      (k : Cause) → bus_causes s i n ≡ k ∷ [] →
      CauseTold s.vram_dma.cursor.dest (bus_state s i n).vram_dma.cursor.remaining (cause_number k)
  -- two pairs: the first did not end the run, or the second had not come
  pub of_two :
      (j k : Cause) → bus_causes s i n ≡ j ∷ k ∷ [] →
      (cause_number j ≡ 0) ×
      CauseTold ((s.vram_dma.cursor.dest + 1) % 65536) (bus_state s i n).vram_dma.cursor.remaining (cause_number k)
