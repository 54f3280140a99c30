-- What is shown of the queries of the speed (document 01, section 4), of each state that passes 7: yes exactly when the conditions
-- hold (`BlackoutSteps` has the divider's), and the steps of each speed.
use Rattle.std.specs.Prelude.{◌<◌, ◌≡◌, true, false, Ok}
use Rattle.console.specs.Reached.{unreached}
use Rattle.console.specs.declared.Cgb.{Cgb}
use Rattle.blackout.specs.BlackoutSteps.{DividerRuns}
use Rattle.answers.specs.Queries.{asked, Asks}
use Rattle.speed_queries.specs.Queries.{switch_in_progress, divider_runs, at_double_speed, cpu_steps}

pub record SpeedQuerySteps (s : Cgb) : Type 0 where
  -- `speed_switch_in_progress`, `speed_switch_divider_active`, `double_speed`
  pub in_progress : Asks s (switch_in_progress s) (0 < s.speed_switch_blackout)
  pub divider : Asks s (divider_runs s) (DividerRuns s.double_speed s.speed_switch_blackout)
  pub double : Asks s (at_double_speed s) (s.double_speed ≡ true)
  -- `cpu_steps_per_dot`
  pub steps_double : s.double_speed ≡ true → asked s (cpu_steps s) ≡ Ok 2
  pub steps_single : s.double_speed ≡ false → asked s (cpu_steps s) ≡ Ok 1

pub record SpeedQueries : Type 0 where
  pub steps : (s : Cgb) → unreached s ≡ false → SpeedQuerySteps s
