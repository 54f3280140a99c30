-- The blackout's four counts: what a debit adds upward and takes downward. Assumes nothing.
use Prim.Native.Nat.{◌+◌, ◌-◌}
use mathlib.Core.Path.{◌≡◌, refl}
use mathlib.Core.Bool.{Bool, true, false, cond}

pub upward : (debit : Bool) → cond debit 131079 131077 ≡ 131077 + cond debit 2 0
upward true = refl
upward false = refl

pub downward : (debit : Bool) → cond debit 262144 262146 ≡ 262146 - cond debit 2 0
downward true = refl
downward false = refl
