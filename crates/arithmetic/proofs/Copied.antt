-- A part copied out of a run of bytes is the bytes from its offset on. Assumes nothing.
use Rattle.std.proofs.Common.{◌≡◌, ℕ, zero, suc, ◌+◌, ◌-◌, ◌≤◌, List, ◌∷◌, length, get_or, take, drop, drop-cons, slice_range, refl, ap, arith}
use Rattle.arithmetic.specs.Number.{bytes_at}

pub copied : (b : List ℕ) (k n : ℕ) → k + n ≤ length b → take n (drop k b) ≡ bytes_at b k n
copied b k zero h = refl
copied b k (suc n) h = rw (drop-cons b k 0 (omega arith)) (ap (λ l. get_or b k 0 ∷ l) (copied b (suc k) n (omega arith)))

pub between_bytes : (b : List ℕ) (k n : ℕ) → k + n ≤ length b → slice_range b k (k + n) ≡ bytes_at b k n
between_bytes b k n h = let e : k + n - k ≡ n = omega arith in rw e (copied b k n h)
