-- Small facts on bounded numbers and on lists of bytes. Assumes nothing.
use Prim.Native.Nat.{ℕ, zero, suc, ◌+◌, ◌-◌, ◌<◌}
use native.Mathlib.Omega.{arith}
use mathlib.Core.Path.{◌≡◌, refl, ◌∙◌}
use mathlib.Core.Bool.{Bool, true, false, cond}
use mathlib.Core.List.{List, [], ◌∷◌}
use lib.Dec.{ltb, lit<}
use lib.ListN.{set, get_or, replicate, length-set, length-replicate}
use borrow.Author.Tests.{ltb-true}
use Rattle.codec.specs.Fits.{Bytes}
use Rattle.arithmetic.specs.SmallSteps.{saturating_inc}

-- either is below n
pub pick : {n x y : ℕ} (b : Bool) → x < n → y < n → cond b x y < n
pick true p q = p
pick false p q = q

pub saturated : (n : ℕ) → saturating_inc n < 256
saturated n = by (ltb n 255) refl
  where
    by : (b : Bool) → ltb n 255 ≡ b → cond b (n + 1) 255 < 256
    by true e = let below = ltb-true n 255 e in omega arith
    by false e = lit< tt

pub less : (n m k : ℕ) → n < m → n - k < m
less n m k h = omega arith

set_small : (b : List ℕ) (i v : ℕ) → ((k : ℕ) → get_or b k 0 < 256) → v < 256 → (k : ℕ) → get_or (set b i v) k 0 < 256
set_small [] i v h byte k = h k
set_small (x ∷ xs) zero v h byte zero = byte
set_small (x ∷ xs) zero v h byte (suc k) = h (suc k)
set_small (x ∷ xs) (suc i) v h byte zero = h zero
set_small (x ∷ xs) (suc i) v h byte (suc k) = set_small xs i v (λ j. h (suc j)) byte k

zeros_small : (n k : ℕ) → get_or (replicate n 0) k 0 < 256
zeros_small zero k = lit< tt
zeros_small (suc n) zero = lit< tt
zeros_small (suc n) (suc k) = zeros_small n k

pub set_bytes : (n : ℕ) (b : List ℕ) (i v : ℕ) → Bytes n b → v < 256 → Bytes n (set b i v)
set_bytes n b i v f byte = record { long = length-set b i v ∙ f.long; small = set_small b i v f.small byte }

pub zero_bytes : (n : ℕ) → Bytes n (replicate n 0)
zero_bytes n = record { long = length-replicate n 0; small = zeros_small n }
