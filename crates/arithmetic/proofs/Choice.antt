-- Choices between two numbers: less a number, and of one number twice. They bound a choice whose flag is not named. Assumes nothing.
use Rattle.std.proofs.Common.{◌≡◌, ℕ, ◌-◌, Bool, true, false, cond, refl}

pub cond_less : (b : Bool) (x y n : ℕ) → cond b x y - n ≡ cond b (x - n) (y - n)
cond_less true x y n = refl
cond_less false x y n = refl

pub cond_same : (b : Bool) (x : ℕ) → cond b x x ≡ x
cond_same true x = refl
cond_same false x = refl
