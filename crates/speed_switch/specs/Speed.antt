-- The CPU's steps at a speed (speed_switch.rs; document 01, section 4).
use Rattle.std.specs.Prelude.{ℕ, Bool, cond}

abbrev pub steps_per_dot : Bool → ℕ
steps_per_dot double = cond double 2 1
