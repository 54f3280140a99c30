-- Text as ASCII bytes: decimal numbers without leading zeros, a byte in two capitals; and text stored in a buffer.
use Rattle.std.specs.Prelude.{ℕ, zero, suc, ◌+◌, ◌/◌, ◌%◌, ◌≤◌, ◌<◌, min, max, ◌≡◌, cond, List, [], ◌∷◌, ◌++◌, ltb, length, take, drop}
use Rattle.std.proofs.lemmas.List.Edits.{sets}
use Rattle.text.specs.declared.Text.{Text}

abbrev pub space : ℕ
space = 32

abbrev pub line_feed : ℕ
line_feed = 10

-- the last decimal digit: `0` is 48
abbrev pub digit : ℕ → ℕ
digit n = 48 + n % 10

-- the last hexadecimal digit: `A` is 65
abbrev pub capital : ℕ → ℕ
capital n = cond (ltb (n % 16) 10) (48 + n % 16) (55 + n % 16)

-- the digits of a number's tenth, where that is not 0, and then its last; at most as many as the first argument says
unfoldable pub decimal_within : ℕ → ℕ → List ℕ
decimal_within zero n = []
decimal_within (suc most) n = cond (ltb n 10) [] (decimal_within most (n / 10)) ++ digit n ∷ []

-- a number has at most as many digits as itself and one: `Decimals` below says it without a bound
unfoldable pub decimal : ℕ → List ℕ
decimal n = decimal_within (suc n) n

-- a number and a space
abbrev pub field : ℕ → List ℕ
field n = decimal n ++ space ∷ []

abbrev pub four_digits : ℕ → List ℕ
four_digits n = digit (n / 10 / 10 / 10) ∷ digit (n / 10 / 10) ∷ digit (n / 10) ∷ digit n ∷ []

abbrev pub hex_byte : ℕ → List ℕ
hex_byte n = capital (n / 16) ∷ capital n ∷ []

-- the place past n characters from `at` on, in a buffer of so many bytes: `at + n` where they fit
abbrev pub past : ℕ → ℕ → ℕ → ℕ
past size at n = max at (min (at + n) size)

-- text stored from `at` on, as far as the buffer goes, and the place past it
pub record Put (before : List ℕ) (at : ℕ) (text : List ℕ) (r : ℕ) (after : List ℕ) : Type 0 where
  pub place : r ≡ past (length before) at (length text)
  pub bytes : after ≡ sets before at text

-- the same of a `Text`, which has its buffer still
pub record Pushed (before : Text) (text : List ℕ) (after : Text) : Type 0 where
  pub buffer : after.out.ghost_name ≡ before.out.ghost_name
  pub put : Put before.out.now before.at text after.at after.out.now

-- a number below 10 is its digit; another is its tenth and then its last digit
pub record Decimals : Type 0 where
  pub small : (n : ℕ) → n < 10 → decimal n ≡ digit n ∷ []
  pub large : (n : ℕ) → 10 ≤ n → decimal n ≡ decimal (n / 10) ++ digit n ∷ []

-- text that fits stands whole behind the place, and the rest of the buffer is as before
pub record Fitting : Type 0 where
  pub place :
      (before : List ℕ) (at : ℕ) (text : List ℕ) (r : ℕ) (after : List ℕ) → Put before at text r after → at + length text ≤ length before →
      r ≡ at + length text
  pub bytes :
      (before : List ℕ) (at : ℕ) (text : List ℕ) (r : ℕ) (after : List ℕ) → Put before at text r after → at + length text ≤ length before →
      after ≡ take at before ++ text ++ drop (at + length text) before
