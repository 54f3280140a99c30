-- What is asked of the speed and of a switch's blackout (document 01, section 4; the Rust's queries of `Cgb`; lib.rs,
-- speed_switch.rs).
use Rattle.std.specs.Prelude.{ℕ, Bool}
use Rattle.console.specs.declared.Cgb.{Cgb}
use Rattle.speed_switch.specs.Speed.{steps_per_dot}
use Rattle.blackout.specs.Blackout.{blackout_active, divider_active}

abbrev pub switch_in_progress : Cgb → Bool
switch_in_progress s = blackout_active s.speed_switch_blackout

abbrev pub divider_runs : Cgb → Bool
divider_runs s = divider_active s.double_speed s.speed_switch_blackout

abbrev pub at_double_speed : Cgb → Bool
at_double_speed s = s.double_speed

abbrev pub cpu_steps : Cgb → ℕ
cpu_steps s = steps_per_dot s.double_speed
