-- A test of a range, from where the number lies, and how a range is gone through. Assumes nothing.
use Prim.Native.Nat.{ℕ, ◌≤◌, ◌<◌, ◌+◌, ◌-◌}
use native.Mathlib.Omega.{arith}
use mathlib.Core.Path.{◌≡◌, refl, subst}
use mathlib.Core.Bool.{Bool, true, false, and-false}
use mathlib.Core.Logic.{◌⊎◌, inl, inr}
use lib.Dec.{ltb}
use borrow.Author.Tests.{le-leb, lt-leb, ltb-true, ltb-false}
use Rattle.registers.specs.Map.{within}

module _ (low high a : ℕ) where
  pub inside : low ≤ a → a ≤ high → within low high a ≡ true
  inside p q = simp (le-leb low a p, le-leb a high q)

  pub past : high < a → within low high a ≡ false
  past p = simp (lt-leb a high p, and-false)

-- how far into a range a number lies
pub offset : (low n a : ℕ) → low ≤ a → a < low + n → a - low < n
offset low n a p q = omega arith

-- on one side of a number or on the other
pub side : (a k : ℕ) → (a < k) ⊎ (k ≤ a)
side a k = by (ltb a k) refl
  where
    by : (b : Bool) → ltb a k ≡ b → (a < k) ⊎ (k ≤ a)
    by true e = inl (ltb-true a k e)
    by false e = inr (ltb-false a k e)

-- the numbers of a range, each as its start and an offset
pub range : (P : ℕ → Type 0) (low n a : ℕ) → ((i : ℕ) → i ≤ n → P (low + i)) → low ≤ a → a ≤ low + n → P a
range P low n a each p q = subst P (whole low a p) (each (a - low) (omega arith))
  where
    whole : (low a : ℕ) → low ≤ a → low + (a - low) ≡ a
    whole low a p = omega arith
