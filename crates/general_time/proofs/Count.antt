-- Rounds of two pairs or one, counted: numbers alone. Assumes nothing.
use Prim.Native.Nat.{ℕ, suc, ◌+◌, ◌*◌, ◌≤◌, min}
use native.Mathlib.Omega.{arith}
use mathlib.Core.Path.{◌≡◌}
use mathlib.Core.Bool.{Bool, true, false, cond}
use Rattle.estimate.specs.Estimate.{cycles_for}

abbrev pub rate : Bool → ℕ
rate double = cond double 1 2

-- k rounds of at most `rate` each out of `whole`: n have come, `rest` are still to come
pub record Count (double : Bool) (whole k n rest : ℕ) : Type 0 where
  pub come : n ≡ min (rate double * k) whole
  pub owed : n + rest ≡ whole

pub no_round : (double : Bool) (whole : ℕ) → Count double whole 0 0 whole
no_round true whole = record { come = omega arith; owed = omega arith }
no_round false whole = record { come = omega arith; owed = omega arith }

-- one round more
pub more :
    (double : Bool) (whole k n rest m : ℕ) → Count double whole k n rest → m ≡ min (rate double) rest →
    n + m ≡ min (rate double * suc k) whole
more true whole k n rest m c e = let p = c.come in let q = c.owed in omega (arith, p, q, e)
more false whole k n rest m c e = let p = c.come in let q = c.owed in omega (arith, p, q, e)

-- nothing is still to come exactly from the M-cycles on
pub done : (double : Bool) (whole k n rest : ℕ) → Count double whole k n rest → cycles_for double whole ≤ k → rest ≡ 0
done true whole k n rest c h = let p = c.come in let q = c.owed in omega (arith, p, q, h)
done false whole k n rest c h = let p = c.come in let q = c.owed in omega (arith, p, q, h)

pub needed : (double : Bool) (whole k n rest : ℕ) → Count double whole k n rest → rest ≡ 0 → cycles_for double whole ≤ k
needed true whole k n rest c h = let p = c.come in let q = c.owed in omega (arith, p, q, h)
needed false whole k n rest c h = let p = c.come in let q = c.owed in omega (arith, p, q, h)
