-- The countdown (document 01, section 2: "each countdown is armed, cleared, ticked or expired").
use Rattle.std.specs.Prelude.{◌≡◌, ℕ, zero, suc, ◌-◌, Bool, ltb, eqb}
use Rattle.countdown.specs.declared.Countdown.{Countdown}
use Rattle.countdown.specs.declared.Ticked.{Ticked}

abbrev pub armed : ℕ → Countdown
armed n = record { 0 = n }

abbrev pub cleared : Countdown
cleared = record { 0 = 0 }

abbrev pub active_of : Countdown → Bool
active_of c = ltb 0 c.0

abbrev pub remaining_of : Countdown → ℕ
remaining_of c = c.0

-- one step down, stopping at 0
abbrev pub stepped : Countdown → Countdown
stepped c = record { 0 = c.0 - 1 }

-- a step, with whether it was active before
abbrev pub ticked : Countdown → Ticked
ticked c = record { next = stepped c; flag = active_of c }

-- a step, with whether this step drained it to zero
abbrev pub expired_of : Countdown → Ticked
expired_of c = record { next = stepped c; flag = eqb c.0 1 }

-- the countdown after k steps, by `tick` or by `expired`
abbrev pub after : ℕ → Countdown → Countdown
after zero c = c
after (suc k) c = stepped (after k c)

-- What is shown of a countdown armed to n and stepped k times, for every n and k: one law for every length
-- (2, 3, 6, 36 or any other) and both speeds, since it looks at neither.
pub record Counts (n k : ℕ) : Type 0 where
  -- it holds what is left of n
  pub holds : (after k (armed n)).0 ≡ n - k
  -- the next tick finds it active exactly while k < n
  pub active : (ticked (after k (armed n))).flag ≡ ltb k n
  -- the next step drains it exactly where that is the nth
  pub drains : (expired_of (after k (armed n))).flag ≡ eqb (suc k) n
  -- both kinds of step are the same step
  pub step : (expired_of (after k (armed n))).next ≡ (ticked (after k (armed n))).next
