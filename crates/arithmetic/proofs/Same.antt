-- The comparison of two runs of bytes is true exactly where they are equal; and past the last byte what was found so far is it.
-- Assumes nothing.
use Rattle.std.proofs.Common.{◌≡◌, ℕ, ◌≤◌, Bool, true, ◌&&◌, eqb, List, [], ◌∷◌, length, sym, refl, ◌∙◌}
use Rattle.std.proofs.Common.{drop_of_length-le, eq-eqb, eqb-true}
use Rattle.std.proofs.lemmas.Bool.{and_parts}
use mathlib.Core.Bool.{false≢true, and-true}
use Rattle.arithmetic.specs.Number.{same_bytes, same_from}

pub same_self : (b : List ℕ) → same_bytes b b ≡ true
same_self [] = refl
same_self (x ∷ b) = rw (eq-eqb x x refl) (same_self b)

pub same_equal : (a b : List ℕ) → same_bytes a b ≡ true → a ≡ b
same_equal [] [] e = refl
same_equal [] (y ∷ b) e = absurd (false≢true e)
same_equal (x ∷ a) [] e = absurd (false≢true e)
same_equal (x ∷ a) (y ∷ b) e =
    let h = and_parts (eqb x y) (same_bytes a b) e in
    rw (eqb-true x y h.0, same_equal a b h.1)

-- a and b are compared; so far says whether the bytes up to i, past the last, agree, and whole what they come to with the rest
pub same_all :
    (a b : List ℕ) (whole so_far : Bool) (i : ℕ) →
    whole ≡ (so_far && same_from i a b) → length a ≤ i → length b ≤ i → so_far ≡ whole
same_all a b whole so_far i left h k = sym (left ∙ rw (drop_of_length-le a h, drop_of_length-le b k, and-true))
