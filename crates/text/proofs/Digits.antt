-- A number's decimal digits, by one digit and by four. Assumes nothing.
use Prim.Native.Nat.{ℕ, zero, suc, ◌/◌, ◌%◌, ◌≤◌, ◌<◌}
use mathlib.Core.Path.{◌≡◌, ap, ◌∙◌}
use mathlib.Core.Bool.{cond}
use mathlib.Core.List.{List, [], ◌∷◌, ◌++◌, append_assoc}
use mathlib.Core.Logic.{⊎_elim}
use native.Mathlib.Omega.{arith}
use Rattle.std.proofs.lemmas.Bool.{cases_lt}
use borrow.Author.Tests.{lt-ltb, le-ltb}
use lib.Dec.{ltb}
use Rattle.text.specs.Text.{digit, decimal_within, decimal, four_digits, Decimals}

abbrev Same : ℕ → ℕ → ℕ → Type 0
Same f g n = n < f → n < g → decimal_within f n ≡ decimal_within g n

same_step : (f g n : ℕ) → Same f g (n / 10) → Same (suc f) (suc g) n
unfolding decimal_within
same_step f g n rest p q =
    ⊎_elim
    (λ (small : n < 10). rw (lt-ltb n 10 small))
    (λ (large : 10 ≤ n). ap (λ (ds : List ℕ). cond (ltb n 10) [] ds ++ digit n ∷ []) (rest (omega arith) (omega arith)))
    (cases_lt n 10)

-- any two bounds that are large enough
same : (f g n : ℕ) → Same f g n
same zero g n p q = absurd (omega arith)
same (suc f) zero n p q = absurd (omega arith)
same (suc f) (suc g) n p q = same_step f g n (same f g (n / 10)) p q

pub one_digit : (n : ℕ) → n < 10 → decimal n ≡ digit n ∷ []
unfolding decimal decimal_within
one_digit n h = rw (lt-ltb n 10 h)

pub more_digits : (n : ℕ) → 10 ≤ n → decimal n ≡ decimal (n / 10) ++ digit n ∷ []
unfolding decimal decimal_within
more_digits n h = rw (le-ltb n 10 h, same n (suc (n / 10)) (n / 10) (omega arith) (omega arith))

pub decimals : Decimals
decimals = record { small = one_digit; large = more_digits }

pub two_digits : (n : ℕ) → 10 ≤ n → n < 100 → decimal n ≡ digit (n / 10) ∷ digit n ∷ []
two_digits n low high = more_digits n low ∙ rw (one_digit (n / 10) (omega arith))

pub three_digits : (n : ℕ) → 100 ≤ n → n < 1000 → decimal n ≡ digit (n / 10 / 10) ∷ digit (n / 10) ∷ digit n ∷ []
three_digits n low high = more_digits n (omega arith) ∙ rw (two_digits (n / 10) (omega arith) (omega arith))

pub four_digits_lem : (n : ℕ) → 1000 ≤ n → n < 10000 → decimal n ≡ four_digits n
four_digits_lem n low high = more_digits n (omega arith) ∙ rw (three_digits (n / 10) (omega arith) (omega arith))

-- the last four digits are those of the rest by 10,000
last_four : (n : ℕ) → four_digits n ≡ four_digits (n % 10000)
last_four n =
    let thousands : n / 10 / 10 / 10 % 10 ≡ n % 10000 / 10 / 10 / 10 % 10 = omega arith in
    let hundreds : n / 10 / 10 % 10 ≡ n % 10000 / 10 / 10 % 10 = omega arith in
    let tens : n / 10 % 10 ≡ n % 10000 / 10 % 10 = omega arith in
    let ones : n % 10 ≡ n % 10000 % 10 = omega arith in
    rw (thousands, hundreds, tens, ones)

in_front : (n : ℕ) → n / 10 / 10 / 10 / 10 ≡ n / 10000
in_front n = omega arith

pub four_more : (n : ℕ) → 10000 ≤ n → decimal n ≡ decimal (n / 10000) ++ four_digits (n % 10000)
four_more n large =
    more_digits n (omega arith)
    ∙ rw (
      more_digits (n / 10) (omega arith),
      more_digits (n / 10 / 10) (omega arith),
      more_digits (n / 10 / 10 / 10) (omega arith),
      in_front n,
      ← last_four n,
    ) (simp append_assoc)
