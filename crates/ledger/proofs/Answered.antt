-- What a query may answer is what its definition says, and it may answer that. Assumes nothing. Written by tools/calls from
-- calls.txt.
use mathlib.Core.Path.{◌≡◌, refl, ap}
use Rattle.console.specs.declared.Cgb.{Cgb}
use Rattle.answers.specs.Answers.{Said, says, tally_values, status_values, claim_values, flag_values, byte_values, object_dma_values}
use Rattle.engine.specs.Calls.{asked, tallied, engine_status, last_claim, park_waits, request_stands, cpu_held, bus_seized}
use Rattle.engine.specs.Calls.{switch_in_progress, divider_runs, at_double_speed, cpu_steps, bank_selected, svbk_written, object_dma_told}
use Rattle.answers.proofs.Queries.{asked_told}
use Rattle.ask.specs.Ask.{asked_of}
use Rattle.call.specs.declared.query.Query.{Query}
use Rattle.call.specs.declared.query.Query.TheVariants as query
use Rattle.ledger.specs.Answered as by
use Rattle.ledger.specs.Answered.{Answered}

pub answered_is : {s : Cgb} {q : Query} {said : Said} → Answered s q said → said ≡ asked_of s q
unfolding asked_of
answered_is (by.by_tally r m) = ap (says tally_values) m.told.is
answered_is (by.by_vram_dma_status r m) = ap (says status_values) m.told.is
answered_is (by.by_vram_dma_claim r m) = ap (says claim_values) m.told.is
answered_is (by.by_vram_dma_park_waits_for_fetch r m) = ap (says flag_values) m.told.is
answered_is (by.by_vram_dma_request_standing r m) = ap (says flag_values) m.told.is
answered_is (by.by_vram_dma_holds_cpu r m) = ap (says flag_values) m.told.is
answered_is (by.by_vram_dma_seizes_bus r m) = ap (says flag_values) m.told.is
answered_is (by.by_speed_switch_in_progress r m) = ap (says flag_values) m.told.is
answered_is (by.by_speed_switch_divider_active r m) = ap (says flag_values) m.told.is
answered_is (by.by_double_speed r m) = ap (says flag_values) m.told.is
answered_is (by.by_cpu_steps_per_dot r m) = ap (says byte_values) m.told.is
answered_is (by.by_wram_bank r m) = ap (says byte_values) m.told.is
answered_is (by.by_svbk_register r m) = ap (says byte_values) m.told.is
answered_is (by.by_object_dma r m) = ap (says object_dma_values) m.told.is

module _ (s : Cgb) where
  pub some_answer : (q : Query) → Answered s q (asked_of s q)
  unfolding asked_of
  some_answer query.Tally =
      by.by_tally (asked s (tallied s))
      (record { exit = (s, tt); told = record { is = refl; says = asked_told tally_values s (tallied s) } })
  some_answer query.Status =
      by.by_vram_dma_status (asked s (engine_status s))
      (record { exit = (s, tt); told = record { is = refl; says = asked_told status_values s (engine_status s) } })
  some_answer query.Claim =
      by.by_vram_dma_claim (asked s (last_claim s))
      (record { exit = (s, tt); told = record { is = refl; says = asked_told claim_values s (last_claim s) } })
  some_answer query.ParkWaits =
      by.by_vram_dma_park_waits_for_fetch (asked s (park_waits s))
      (record { exit = (s, tt); told = record { is = refl; says = asked_told flag_values s (park_waits s) } })
  some_answer query.RequestStanding =
      by.by_vram_dma_request_standing (asked s (request_stands s))
      (record { exit = (s, tt); told = record { is = refl; says = asked_told flag_values s (request_stands s) } })
  some_answer query.HoldsCpu =
      by.by_vram_dma_holds_cpu (asked s (cpu_held s))
      (record { exit = (s, tt); told = record { is = refl; says = asked_told flag_values s (cpu_held s) } })
  some_answer query.SeizesBus =
      by.by_vram_dma_seizes_bus (asked s (bus_seized s))
      (record { exit = (s, tt); told = record { is = refl; says = asked_told flag_values s (bus_seized s) } })
  some_answer query.SwitchInProgress =
      by.by_speed_switch_in_progress (asked s (switch_in_progress s))
      (record { exit = (s, tt); told = record { is = refl; says = asked_told flag_values s (switch_in_progress s) } })
  some_answer query.DividerActive =
      by.by_speed_switch_divider_active (asked s (divider_runs s))
      (record { exit = (s, tt); told = record { is = refl; says = asked_told flag_values s (divider_runs s) } })
  some_answer query.DoubleSpeed =
      by.by_double_speed (asked s (at_double_speed s))
      (record { exit = (s, tt); told = record { is = refl; says = asked_told flag_values s (at_double_speed s) } })
  some_answer query.CpuStepsPerDot =
      by.by_cpu_steps_per_dot (asked s (cpu_steps s))
      (record { exit = (s, tt); told = record { is = refl; says = asked_told byte_values s (cpu_steps s) } })
  some_answer query.WramBank =
      by.by_wram_bank (asked s (bank_selected s))
      (record { exit = (s, tt); told = record { is = refl; says = asked_told byte_values s (bank_selected s) } })
  some_answer query.SvbkRegister =
      by.by_svbk_register (asked s (svbk_written s))
      (record { exit = (s, tt); told = record { is = refl; says = asked_told byte_values s (svbk_written s) } })
  some_answer query.ObjectDma =
      by.by_object_dma (asked s (object_dma_told s))
      (record { exit = (s, tt); told = record { is = refl; says = asked_told object_dma_values s (object_dma_told s) } })
