-- Numbers of several bytes, the lowest first; what stands at an offset; whether two runs of bytes are the same.
use Rattle.std.specs.Prelude.{ℕ, zero, suc, ◌+◌, ◌*◌, ◌/◌, ◌%◌, Bool, true, false, ◌&&◌, List, [], ◌∷◌, drop, ◌==◌, slice_index}

-- a number's n lowest digits of base 256
abbrev pub digits : ℕ → ℕ → List ℕ
digits zero x = []
digits (suc n) x = x % 256 ∷ digits n (x / 256)

-- the number that digits say
abbrev pub number : List ℕ → ℕ
number [] = 0
number (d ∷ ds) = d + 256 * number ds

-- what stands at offset k: a byte, a flag, n bytes, a number of n bytes
abbrev pub byte_at : List ℕ → ℕ → ℕ
byte_at b k = slice_index b k

abbrev pub flag_at : List ℕ → ℕ → Bool
flag_at b k = byte_at b k == 1

abbrev pub bytes_at : List ℕ → ℕ → ℕ → List ℕ
bytes_at b k zero = []
bytes_at b k (suc n) = byte_at b k ∷ bytes_at b (suc k) n

abbrev pub number_at : List ℕ → ℕ → ℕ → ℕ
number_at b k n = number (bytes_at b k n)

-- `Same` in proofs/ shows it true exactly where they are equal
abbrev pub same_bytes : List ℕ → List ℕ → Bool
same_bytes [] [] = true
same_bytes [] (y ∷ ys) = false
same_bytes (x ∷ xs) [] = false
same_bytes (x ∷ xs) (y ∷ ys) = x == y && same_bytes xs ys

-- the same of the bytes from n on
abbrev pub same_from : ℕ → List ℕ → List ℕ → Bool
same_from n a b = same_bytes (drop n a) (drop n b)
