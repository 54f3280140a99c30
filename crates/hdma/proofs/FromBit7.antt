-- A byte from bit 7 down: bit 7 first, clear or set, then the seven bits below added to it. Assumes nothing.
use Prim.Native.Nat.{ℕ, ◌+◌}
use native.Mathlib.Omega.{arith}
use mathlib.Core.Path.{◌≡◌, refl}
use mathlib.Core.Bool.{Bool, true, false, cond}

pub from_bit_7 : (clear : Bool) (low : ℕ) → cond clear 0 128 + low ≡ cond clear low (128 + low)
from_bit_7 true low = omega arith
from_bit_7 false low = refl
