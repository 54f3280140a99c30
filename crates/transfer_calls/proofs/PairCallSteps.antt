-- The next pair and the escape drain answer with the causes that the request names (specs, `PairCallSteps`). Assumes nothing.
use mathlib.Core.Path.{◌≡◌, refl, ap, ◌∙◌}
use Rattle.std.proofs.Common.{Option, Some, None, Result, Ok, Err}
use Rattle.console.specs.Reached.{state_refusal}
use Rattle.console.specs.Refusals.{answered}
use Rattle.console.specs.Set.{with_vram_dma}
use Rattle.console.specs.declared.Cgb.{Cgb}
use Rattle.console.specs.declared.refusal.Refusal.{Refusal}
use Rattle.transfer.specs.Pair.{NextAnswer, next_byte_of, drain_of}
use Rattle.transfer.specs.declared.pair.BytePair.{BytePair}
use Rattle.transfer.specs.declared.pair.Cause.{Cause}
use Rattle.transfer.specs.declared.pair.NextByte.{NextByte}
use Rattle.transfer.proofs.CauseSteps.{cause_steps}
use Rattle.answers.specs.Answers.{cause_number}
use Rattle.answers.specs.CauseNumbers.{CauseTold}
use Rattle.answers.proofs.CauseNumbers.{is_one, cause_told}
use Rattle.transfer_calls.specs.Pair.{handed_of, next_pair_of, escape_drain_of}
use Rattle.transfer_calls.specs.PairCallSteps.{PairCallSteps}

not_refused : (r : Refusal) (a : NextAnswer) → ◌≡◌ {A = Result NextAnswer Refusal} (Err r) (Ok a) → ⊥
not_refused r a e = cc

-- a call that answers with a pair is accepted: the pair is the engine's, and so is the next state
pub record HandedOn (s : Cgb) (n : NextByte) (p : BytePair) (k : Cause) : Type 0 where
  pub pair : n.answer ≡ Some (p, k)
  pub state : (handed_of s n).state ≡ with_vram_dma n.dma s

pub handed_on : (s : Cgb) (n : NextByte) (p : BytePair) (k : Cause) → (handed_of s n).answer ≡ Ok (Some (p, k)) → HandedOn s n p k
handed_on s n p k e = by (state_refusal s) refl e
  where
    by :
        (r : Option Refusal) → state_refusal s ≡ r → ◌≡◌ {A = Result NextAnswer Refusal} (answered r n.answer) (Ok (Some (p, k))) →
        HandedOn s n p k
    by None is h = record { pair = cc; state = rw is }
    by (Some r) is h = absurd (not_refused r (Some (p, k)) h)

module _ (s : Cgb) (p : BytePair) (k : Cause) where
  next_cause :
      (next_pair_of s).answer ≡ Ok (Some (p, k)) →
      CauseTold s.vram_dma.cursor.dest (next_pair_of s).state.vram_dma.cursor.remaining (cause_number k)
  unfolding next_pair_of
  next_cause e =
      let on = handed_on s (next_byte_of s.vram_dma) p k e in
      rw on.state (cause_told _ _ k (cause_steps.pair s.vram_dma p k on.pair))

  drain_cause :
      (escape_drain_of s).answer ≡ Ok (Some (p, k)) →
      CauseTold s.vram_dma.cursor.dest (escape_drain_of s).state.vram_dma.cursor.remaining (cause_number k)
  unfolding escape_drain_of
  drain_cause e =
      let on = handed_on s (drain_of s.vram_dma) p k e in
      rw on.state (cause_told _ _ k (cause_steps.drain s.vram_dma p k on.pair))

  drain_counts_none : (escape_drain_of s).answer ≡ Ok (Some (p, k)) → cause_number k ≡ 1 → ⊥
  unfolding escape_drain_of
  drain_counts_none e one =
      let on = handed_on s (drain_of s.vram_dma) p k e in
      cause_steps.drain_not_counted s.vram_dma p (on.pair ∙ ap (λ (j : Cause). Some (p, j)) ((is_one k).0 one))

pub pair_call_steps : (s : Cgb) → PairCallSteps s
pair_call_steps s = record { next = next_cause s; drain = drain_cause s; drain_not_one = drain_counts_none s }
