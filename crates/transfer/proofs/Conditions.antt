-- A test is true exactly when a condition holds: of numbers, and of tests joined by `&&` and `||`. Assumes nothing.
use Prim.Native.Nat.{ℕ, ◌<◌, ◌≤◌}
use native.Mathlib.Omega.{arith}
use mathlib.Core.Path.{◌≡◌, refl, sym}
use mathlib.Core.Bool.{Bool, true, false, not, ◌&&◌, ◌||◌, false≢true}
use mathlib.Core.Logic.{◌↔◌, ◌⊎◌, inl, inr}
use lib.Dec.{ltb, leb, eqb}
use borrow.Author.Tests.{ltb-true, ltb-false, leb-true, eqb-true, lt-ltb, le-ltb, le-leb, eq-eqb}

pub when_lt : (a b : ℕ) → (ltb a b ≡ true) ↔ (a < b)
when_lt a b = (ltb-true a b, lt-ltb a b)

pub when_le : (a b : ℕ) → (leb a b ≡ true) ↔ (a ≤ b)
when_le a b = (leb-true a b, le-leb a b)

pub when_eq : (a b : ℕ) → (eqb a b ≡ true) ↔ (a ≡ b)
when_eq a b = (eqb-true a b, eq-eqb a b)

pub when_not : (b : Bool) → (not b ≡ true) ↔ (b ≡ false)
when_not true = (λ e. absurd (false≢true e), λ e. absurd (false≢true (sym e)))
when_not false = (λ e. refl, λ e. refl)

-- nothing left
pub when_zero : (n : ℕ) → (not (ltb 0 n) ≡ true) ↔ (n ≡ 0)
when_zero n = (λ e. let low = ltb-false 0 n ((when_not (ltb 0 n)).0 e) in omega arith, λ e. rw (le-ltb 0 n (omega arith)))

pub when_both : {P Q : Type 0} (a b : Bool) → (a ≡ true) ↔ P → (b ≡ true) ↔ Q → ((a && b) ≡ true) ↔ (P × Q)
when_both true b p q = (λ e. (p.0 refl, q.0 e), λ h. q.1 h.1)
when_both false b p q = (λ e. absurd (false≢true e), λ h. p.1 h.0)

pub when_either : {P Q : Type 0} (a b : Bool) → (a ≡ true) ↔ P → (b ≡ true) ↔ Q → ((a || b) ≡ true) ↔ (P ⊎ Q)
when_either true b p q = (λ e. inl (p.0 refl), λ h. refl)
when_either {P} {Q} false b p q = (λ e. inr (q.0 e), back)
  where
    back : P ⊎ Q → b ≡ true
    back (inl h) = absurd (false≢true (p.1 h))
    back (inr h) = q.1 h

-- and false exactly when it does not
pub when_false : {P : Type 0} (b : Bool) → (b ≡ true) ↔ P → (b ≡ false) ↔ (P → ⊥)
when_false true e = (λ k. absurd (false≢true (sym k)), λ no. absurd (no (e.0 refl)))
when_false false e = (λ k p. false≢true (e.1 p), λ no. refl)
