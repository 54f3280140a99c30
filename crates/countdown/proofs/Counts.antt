-- The law of every countdown (specs, `Counts`). Assumes nothing.
use Prim.Native.Nat.{ℕ, zero, suc, ◌-◌}
use native.Mathlib.Omega.{arith}
use mathlib.Core.Path.{◌≡◌, refl}
use Rattle.arithmetic.proofs.Tests.{ltb_same, eqb_same}
use Rattle.countdown.specs.Countdown.{armed, after, Counts}

left : (n k : ℕ) → (after k (armed n)).0 ≡ n - k
left n zero = omega arith
left n (suc k) = let h : (after k (armed n)).0 ≡ n - k = left n k in omega arith

pub counts : (n k : ℕ) → Counts n k
counts n k =
    let h : (after k (armed n)).0 ≡ n - k = left n k in
    record {
      holds = h;
      active = ltb_same 0 (after k (armed n)).0 k n (λ p. omega arith) (λ p. omega arith);
      drains = eqb_same (after k (armed n)).0 1 (suc k) n (λ p. omega arith) (λ p. omega arith);
      step = refl;
    }
