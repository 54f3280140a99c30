-- The laws of the small steps (specs, `Carries`, `Saturates`). Assumes nothing.
use Rattle.std.proofs.Common.{◌≡◌, ℕ, ◌+◌, ◌%◌, ◌^◌, ◌<◌, ◌≤◌, Bool, true, false, cond, eqb, ltb, refl, arith, ltb-false, ltb-true, le-ltb, lt-ltb, eqb-true}
use borrow.Author.Tests.{eqb-false}
use Rattle.arithmetic.proofs.Tests.{ltb_same}
use Rattle.arithmetic.specs.SmallSteps.{Carries, Saturates}

module _ (a b : ℕ) (p : a < 0x10000) (q : b < 0x10000) where
  -- a sum that wrapped is below each of its parts, and another is not
  pub wrapped : ltb ((a + b) % 2 ^ 16) a ≡ ltb 0xFFFF (a + b)
  wrapped = ltb_same _ a 0xFFFF (a + b) (λ h. omega arith) (λ h. omega arith)

  whole : (t : Bool) → ltb 0xFFFF (a + b) ≡ t → (a + b) % 2 ^ 16 + cond t 0x10000 0 ≡ a + b
  whole true e = let h : 0xFFFF < a + b = ltb-true 0xFFFF (a + b) e in omega arith
  whole false e = let h : a + b ≤ 0xFFFF = ltb-false 0xFFFF (a + b) e in omega arith

leaves : (a : ℕ) → a < 0x10000 → (t : Bool) → eqb a 0xFFFF ≡ t → ltb 0xFFFF (a + 1) ≡ t
leaves a p true e = let h : a ≡ 0xFFFF = eqb-true a 0xFFFF e in lt-ltb 0xFFFF (a + 1) (omega arith)
leaves a p false e = let h : a ≡ 0xFFFF → ⊥ = eqb-false a 0xFFFF e in le-ltb 0xFFFF (a + 1) (omega arith)

pub carries : Carries
carries =
    record {
      fits = λ a b. omega arith;
      whole = λ a b p q. whole a b p q (ltb 0xFFFF (a + b)) refl;
      leaves = λ a p. leaves a p (eqb a 0xFFFF) refl;
      zero = refl;
    }

pub saturates : Saturates
saturates =
    record {
      up = λ n h. rw (lt-ltb n 255 h);
      top = λ n h. rw (le-ltb n 255 h);
      down = λ n k h. omega arith;
      bottom = λ n k h. omega arith;
    }
