-- Numbers and their digits of base 256: one law for every width. Assumes nothing.
use Rattle.std.proofs.Common.{◌≡◌, ℕ, zero, suc, ◌/◌, ◌%◌, ◌^◌, ◌<◌, List, arith, w8, Fits}
use native.Mathlib.Nat.{pow-succ'}
use Rattle.arithmetic.specs.Number.{digits, number, byte_at, number_at}

pub low_fits : (x : ℕ) → Fits w8 (x % 256)
low_fits x = omega arith

-- a number below 256 ^ n is what its n digits say
pub digits_back : (n x : ℕ) → x < 256 ^ n → number (digits n x) ≡ x
digits_back zero x h = omega arith
digits_back (suc n) x h = rw (digits_back n (x / 256) (omega (arith, pow-succ' 256 n))) (omega arith)

-- n bytes say a number below 256 ^ n
pub number_fits : (n : ℕ) (b : List ℕ) (k : ℕ) → ((j : ℕ) → byte_at b j < 256) → number_at b k n < 256 ^ n
number_fits zero b k h = omega arith
number_fits (suc n) b k h = omega (arith, pow-succ' 256 n, h k, number_fits n b (suc k) h)
