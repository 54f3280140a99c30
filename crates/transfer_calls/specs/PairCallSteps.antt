-- What is shown of the causes that the next pair and the escape drain answer (document 02, A3), in numbers.
use Rattle.std.specs.Prelude.{◌≡◌, Some, Ok}
use Rattle.console.specs.declared.Cgb.{Cgb}
use Rattle.transfer.specs.declared.pair.BytePair.{BytePair}
use Rattle.transfer.specs.declared.pair.Cause.{Cause}
use Rattle.answers.specs.Answers.{cause_number}
use Rattle.answers.specs.CauseNumbers.{CauseTold}
use Rattle.transfer_calls.specs.Pair.{next_pair_of, escape_drain_of}

-- of every state: by its destination register, and what the call leaves
pub record PairCallSteps (s : Cgb) : Type 0 where
  pub next :
      (p : BytePair) (k : Cause) → (next_pair_of s).answer ≡ Ok (Some (p, k)) →
      CauseTold s.vram_dma.cursor.dest (next_pair_of s).state.vram_dma.cursor.remaining (cause_number k)
  pub drain :
      (p : BytePair) (k : Cause) → (escape_drain_of s).answer ≡ Ok (Some (p, k)) →
      CauseTold s.vram_dma.cursor.dest (escape_drain_of s).state.vram_dma.cursor.remaining (cause_number k)
  -- a drain's byte counts nothing out
  pub drain_not_one : (p : BytePair) (k : Cause) → (escape_drain_of s).answer ≡ Ok (Some (p, k)) → cause_number k ≡ 1 → ⊥
