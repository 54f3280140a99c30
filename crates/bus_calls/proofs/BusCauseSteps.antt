-- A bus call answers with the causes that the request names (specs, `BusCauseSteps`). Assumes nothing.
use Prim.Native.Nat.{◌+◌, ◌%◌}
use native.Mathlib.Omega.{arith}
use mathlib.Core.Path.{◌≡◌, refl, ap}
use mathlib.Core.List.{List, [], ◌∷◌}
use lib.ListN.{length}
use Rattle.std.proofs.Common.{Option, Some, None}
use Rattle.console.specs.Refusals.{kept}
use Rattle.console.specs.Set.{with_vram_dma}
use Rattle.console.specs.declared.Cgb.{Cgb}
use Rattle.console.specs.declared.refusal.Refusal.{Refusal}
use Rattle.bus.specs.declared.commit.BusInput.{BusInput}
use Rattle.bus.proofs.BusSteps.{bus_steps}
use Rattle.transfer.specs.declared.pair.Cause.{Cause}
use Rattle.answers.specs.Answers.{cause_number}
use Rattle.answers.specs.CauseNumbers.{CauseTold}
use Rattle.answers.proofs.CauseNumbers.{is_zero, cause_told}
use Rattle.bus_calls.specs.BusCall.{Lengths, bus_refusal, taken_in, bus_pairs, bus_causes, bus_state}
use Rattle.bus_calls.specs.BusCauseSteps.{BusCauseSteps}

none_there : (k : Cause) (more : List Cause) → ◌≡◌ {A = List Cause} [] (k ∷ more) → ⊥
none_there k more e = let z : 0 ≡ length (k ∷ more) = ap (λ (xs : List Cause). length xs) e in omega (arith, z)

module _ (s : Cgb) (i : BusInput) (n : Lengths) where
  abbrev Told : Option Refusal → Type 0
  Told b =
      (let causes = kept b [] (taken_in s i).causes in
      let pairs = kept b [] (taken_in s i).pairs in
      let left = (kept b s (with_vram_dma (taken_in s i).dma s)).vram_dma.cursor.remaining in
      let dest = s.vram_dma.cursor.dest in
      (length causes ≡ length pairs) ×
      ((k : Cause) → causes ≡ k ∷ [] → CauseTold dest left (cause_number k)) ×
      ((j k : Cause) → causes ≡ j ∷ k ∷ [] → (cause_number j ≡ 0) × CauseTold ((dest + 1) % 65536) left (cause_number k)))

  by_refusal : (b : Option Refusal) → Told b
  by_refusal None =
      let steps = bus_steps i s.vram_dma in (
        steps.cause_each,
        λ k e. cause_told _ _ k (steps.cause_of_one k e),
        λ j k e. let both = steps.causes_of_two j k e in ((is_zero j).1 both.0, cause_told _ _ k both.1),
      )
  by_refusal (Some r) = (refl, λ k e. absurd (none_there k [] e), λ j k e. absurd (none_there j (k ∷ []) e))

  pub bus_cause_steps : BusCauseSteps s i n
  unfolding bus_pairs bus_causes bus_state
  bus_cause_steps = let told = by_refusal (bus_refusal s n) in record { each = told.0; of_one = told.1; of_two = told.2 }
