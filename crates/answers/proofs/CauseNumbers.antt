-- A cause's number tells what the cause does (specs, `CauseTold`). Assumes nothing.
use Prim.Native.Nat.{ℕ, ◌<◌}
use native.Mathlib.Omega.{arith}
use mathlib.Core.Path.{◌≡◌, refl, sym}
use mathlib.Core.Logic.Iff
use mathlib.Core.Logic.{◌↔◌, ⊎_elim}
use native.Mathlib.Nat.{eq-zero-or-pos}
use Rattle.transfer.specs.CauseSteps.{Caused}
use Rattle.transfer.specs.declared.pair.Cause.{Cause}
use Rattle.transfer.specs.declared.pair.Cause.TheVariants.{GoingOn, CountedOut, Carried}
use Rattle.transfer.proofs.CauseSteps.{counted_not_going, counted_not_carried, going_not_carried}
use Rattle.answers.specs.Answers.{cause_number}
use Rattle.answers.specs.CauseNumbers.{CauseTold}

is_two : (k : Cause) → (cause_number k ≡ 2) ↔ (k ≡ Carried)
is_two GoingOn = (λ e. absurd (omega (arith, e)), λ e. absurd (going_not_carried e))
is_two CountedOut = (λ e. absurd (omega (arith, e)), λ e. absurd (counted_not_carried e))
is_two Carried = (λ e. refl, λ e. refl)

pub is_one : (k : Cause) → (cause_number k ≡ 1) ↔ (k ≡ CountedOut)
is_one GoingOn = (λ e. absurd (omega (arith, e)), λ e. absurd (counted_not_going (sym e)))
is_one CountedOut = (λ e. refl, λ e. refl)
is_one Carried = (λ e. absurd (omega (arith, e)), λ e. absurd (counted_not_carried (sym e)))

pub is_zero : (k : Cause) → (cause_number k ≡ 0) ↔ (k ≡ GoingOn)
is_zero GoingOn = (λ e. refl, λ e. refl)
is_zero CountedOut = (λ e. absurd (omega (arith, e)), λ e. absurd (counted_not_going e))
is_zero Carried = (λ e. absurd (omega (arith, e)), λ e. absurd (going_not_carried (sym e)))

module _ (dest left : ℕ) (k : Cause) (c : Caused dest left k) where
  zero_is : (cause_number k ≡ 0) ↔ (0 < left)
  zero_is = Iff.trans (is_zero k) c.going_on

  above_is : (0 < cause_number k) ↔ (left ≡ 0)
  above_is = (
    λ more. ⊎_elim (λ none. none) (λ some. absurd (omega (arith, more, zero_is.1 some))) (eq-zero-or-pos left),
    λ none. ⊎_elim (λ zero. absurd (omega (arith, none, zero_is.0 zero))) (λ more. more) (eq-zero-or-pos (cause_number k)),
  )

  pub cause_told : CauseTold dest left (cause_number k)
  cause_told =
      record {
        two = Iff.trans (is_two k) c.carried;
        one = Iff.trans (is_one k) c.counted_out;
        zero = zero_is;
        above = above_is;
      }
