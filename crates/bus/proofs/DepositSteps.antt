-- A contended bus call leaves in OAM what document 01 says (specs, `Deposits` and `Wraps`). Assumes nothing.
use Prim.Native.Nat.{ℕ, ◌+◌, ◌-◌, ◌^◌, ◌<◌, ◌≤◌}
use native.Mathlib.Omega.{arith}
use mathlib.Core.Path.{◌≡◌, refl}
use mathlib.Core.Bool.{Bool, true, false, ◌||◌, ◌&&◌}
use mathlib.Core.List.{List}
use lib.Dec.{eqb}
use borrow.Author.Tests.{ne_eqb}
use Rattle.transfer.specs.declared.pair.BytePair.{BytePair}
use Rattle.bus.specs.Deposit.{less64, deposited}
use Rattle.bus.specs.DepositSteps.{Deposits, Wraps}

never_second : (b : Bool) → (b && false) ≡ false
never_second true = refl
never_second false = refl

pub deposits : (p q : BytePair) (b c phase : ℕ) (oam : List ℕ) → Deposits p q b c phase oam
unfolding deposited
deposits p q b c phase oam =
    record {
      uncontended = λ n. refl;
      nothing = refl;
      only = rw (never_second (eqb phase 0 || eqb phase 3));
      second_at_0 = λ e. rw e;
      second_at_3 = λ e. rw e;
      first_else = λ x y. rw (ne_eqb phase 0 x, ne_eqb phase 3 y);
    }

pub wraps : (a b : ℕ) → Wraps a b
wraps a b = record { plain = λ h k. plain a b h k; below = λ h k. below a b h k }
  where
    plain : (a b : ℕ) → b ≤ a → a < 2 ^ 64 → less64 a b ≡ a - b
    plain a b h k = omega arith

    below : (a b : ℕ) → a < b → b ≤ 2 ^ 64 → less64 a b ≡ (a + 2 ^ 64) - b
    below a b h k = omega arith
