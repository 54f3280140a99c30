-- What each query says, by the definition that its contract cites. Written by tools/calls from calls.txt.
use Rattle.console.specs.declared.Cgb.{Cgb}
use Rattle.answers.specs.Answers.{Said, says, tally_values, status_values, claim_values, flag_values, byte_values, object_dma_values}
use Rattle.engine.specs.Calls.{asked, tallied, engine_status, last_claim, park_waits, request_stands, cpu_held, bus_seized}
use Rattle.engine.specs.Calls.{switch_in_progress, divider_runs, at_double_speed, cpu_steps, bank_selected, svbk_written, object_dma_told}
use Rattle.call.specs.declared.query.Query.{Query}
use Rattle.call.specs.declared.query.Query.TheVariants as query

unfoldable pub asked_of : Cgb → Query → Said
asked_of s query.Tally = says tally_values (asked s (tallied s))
asked_of s query.Status = says status_values (asked s (engine_status s))
asked_of s query.Claim = says claim_values (asked s (last_claim s))
asked_of s query.ParkWaits = says flag_values (asked s (park_waits s))
asked_of s query.RequestStanding = says flag_values (asked s (request_stands s))
asked_of s query.HoldsCpu = says flag_values (asked s (cpu_held s))
asked_of s query.SeizesBus = says flag_values (asked s (bus_seized s))
asked_of s query.SwitchInProgress = says flag_values (asked s (switch_in_progress s))
asked_of s query.DividerActive = says flag_values (asked s (divider_runs s))
asked_of s query.DoubleSpeed = says flag_values (asked s (at_double_speed s))
asked_of s query.CpuStepsPerDot = says byte_values (asked s (cpu_steps s))
asked_of s query.WramBank = says byte_values (asked s (bank_selected s))
asked_of s query.SvbkRegister = says byte_values (asked s (svbk_written s))
asked_of s query.ObjectDma = says object_dma_values (asked s (object_dma_told s))
