-- Every query says 7, or its values where the state is one that a run leaves. Assumes nothing. Written by tools/calls
-- from calls.txt.
use mathlib.Core.Path.{◌≡◌}
use Rattle.console.specs.declared.Cgb.{Cgb}
use Rattle.answers.specs.Answers.{saying, tally_values, status_values, claim_values, flag_values, byte_values, object_dma_values}
use Rattle.console.specs.Reached.{state_refusal}
use Rattle.engine.specs.Calls.{query_said, tallied, engine_status, last_claim, park_waits, request_stands, cpu_held, bus_seized}
use Rattle.engine.specs.Calls.{switch_in_progress, divider_runs, at_double_speed, cpu_steps, bank_selected, svbk_written, object_dma_told}
use Rattle.answers.proofs.Queries.{asked_told}
use Rattle.told.proofs.Says.{says_own}
use Rattle.call.specs.declared.query.Query.{Query}
use Rattle.call.specs.declared.query.Query.TheVariants as query
use Rattle.ask.specs.Ask.{asked_of}

module _ (s : Cgb) where
  pub asked_said : (q : Query) → asked_of s q ≡ saying (state_refusal s) (asked_of s q).values
  unfolding asked_of query_said
  asked_said query.Tally = says_own _ _ _ (asked_told tally_values s (tallied s))
  asked_said query.Status = says_own _ _ _ (asked_told status_values s (engine_status s))
  asked_said query.Claim = says_own _ _ _ (asked_told claim_values s (last_claim s))
  asked_said query.ParkWaits = says_own _ _ _ (asked_told flag_values s (park_waits s))
  asked_said query.RequestStanding = says_own _ _ _ (asked_told flag_values s (request_stands s))
  asked_said query.HoldsCpu = says_own _ _ _ (asked_told flag_values s (cpu_held s))
  asked_said query.SeizesBus = says_own _ _ _ (asked_told flag_values s (bus_seized s))
  asked_said query.SwitchInProgress = says_own _ _ _ (asked_told flag_values s (switch_in_progress s))
  asked_said query.DividerActive = says_own _ _ _ (asked_told flag_values s (divider_runs s))
  asked_said query.DoubleSpeed = says_own _ _ _ (asked_told flag_values s (at_double_speed s))
  asked_said query.CpuStepsPerDot = says_own _ _ _ (asked_told byte_values s (cpu_steps s))
  asked_said query.WramBank = says_own _ _ _ (asked_told byte_values s (bank_selected s))
  asked_said query.SvbkRegister = says_own _ _ _ (asked_told byte_values s (svbk_written s))
  asked_said query.ObjectDma = says_own _ _ _ (asked_told object_dma_values s (object_dma_told s))
