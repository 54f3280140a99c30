-- The queries of the speed answer what their conditions and fields say (specs, `SpeedQuerySteps`). Assumes nothing.
use mathlib.Core.Path.{◌≡◌, ◌∙◌}
use mathlib.Core.Bool.{false}
use mathlib.Core.Logic.Iff
use Rattle.console.specs.Reached.{unreached}
use Rattle.console.specs.declared.Cgb.{Cgb}
use Rattle.blackout.proofs.BlackoutSteps.{blackout_steps}
use Rattle.answers.proofs.Queries.{given, asks}
use Rattle.speed_queries.specs.Queries.{cpu_steps}
use Rattle.speed_queries.specs.QuerySteps.{SpeedQuerySteps, SpeedQueries}

query_steps : (s : Cgb) → unreached s ≡ false → SpeedQuerySteps s
query_steps s reached =
    record {
      in_progress = asks s reached _ (blackout_steps.active s.speed_switch_blackout);
      divider = asks s reached _ (blackout_steps.divider s.double_speed s.speed_switch_blackout);
      double = asks s reached _ Iff.rfl;
      steps_double = λ e. given s reached (cpu_steps s) ∙ rw e;
      steps_single = λ e. given s reached (cpu_steps s) ∙ rw e;
    }

pub speed_queries : SpeedQueries
speed_queries = record { steps = query_steps }
