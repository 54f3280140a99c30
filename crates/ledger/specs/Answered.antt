-- What each query may answer at the state s, by its own contract. Written by tools/calls from calls.txt.
use Rattle.console.specs.declared.Cgb.{Cgb}
use Rattle.std.specs.Prelude.{ℕ, Bool, Result}
use Rattle.answers.specs.Answers.{Said, says, tally_values, status_values, claim_values, flag_values, byte_values, object_dma_values}
use Rattle.answers.specs.declared.Tally.{Tally}
use Rattle.transfer.specs.declared.VramDmaStatus.{VramDmaStatus}
use Rattle.console.specs.declared.VramDmaClaim.{VramDmaClaim}
use Rattle.answers.specs.declared.ObjectDmaTally.{ObjectDmaTally}
use Rattle.console.specs.declared.refusal.Refusal.{Refusal}
use Rattle.call.specs.declared.query.Query.{Query}
use Rattle.call.specs.declared.query.Query.TheVariants as query
use Rattle.ledger.specs.Function.{Gives}
use Rattle.ledger.specs.Functions.{tally, vram_dma_status, vram_dma_claim, vram_dma_park_waits_for_fetch, vram_dma_request_standing}
use Rattle.ledger.specs.Functions.{vram_dma_holds_cpu, vram_dma_seizes_bus, speed_switch_in_progress, speed_switch_divider_active}
use Rattle.ledger.specs.Functions.{double_speed, cpu_steps_per_dot, wram_bank, svbk_register, object_dma}

pub data Answered (s : Cgb) : Query → Said → Type 0 where
  by_tally :
      (r : Result Tally Refusal) → Gives tally tt (s, tt) r → Answered s query.Tally (says tally_values r)
  by_vram_dma_status :
      (r : Result VramDmaStatus Refusal) → Gives vram_dma_status tt (s, tt) r → Answered s query.Status (says status_values r)
  by_vram_dma_claim :
      (r : Result VramDmaClaim Refusal) → Gives vram_dma_claim tt (s, tt) r → Answered s query.Claim (says claim_values r)
  by_vram_dma_park_waits_for_fetch :
      (r : Result Bool Refusal) → Gives vram_dma_park_waits_for_fetch tt (s, tt) r → Answered s query.ParkWaits (says flag_values r)
  by_vram_dma_request_standing :
      (r : Result Bool Refusal) → Gives vram_dma_request_standing tt (s, tt) r → Answered s query.RequestStanding (says flag_values r)
  by_vram_dma_holds_cpu :
      (r : Result Bool Refusal) → Gives vram_dma_holds_cpu tt (s, tt) r → Answered s query.HoldsCpu (says flag_values r)
  by_vram_dma_seizes_bus :
      (r : Result Bool Refusal) → Gives vram_dma_seizes_bus tt (s, tt) r → Answered s query.SeizesBus (says flag_values r)
  by_speed_switch_in_progress :
      (r : Result Bool Refusal) → Gives speed_switch_in_progress tt (s, tt) r → Answered s query.SwitchInProgress (says flag_values r)
  by_speed_switch_divider_active :
      (r : Result Bool Refusal) → Gives speed_switch_divider_active tt (s, tt) r → Answered s query.DividerActive (says flag_values r)
  by_double_speed :
      (r : Result Bool Refusal) → Gives double_speed tt (s, tt) r → Answered s query.DoubleSpeed (says flag_values r)
  by_cpu_steps_per_dot :
      (r : Result ℕ Refusal) → Gives cpu_steps_per_dot tt (s, tt) r → Answered s query.CpuStepsPerDot (says byte_values r)
  by_wram_bank :
      (r : Result ℕ Refusal) → Gives wram_bank tt (s, tt) r → Answered s query.WramBank (says byte_values r)
  by_svbk_register :
      (r : Result ℕ Refusal) → Gives svbk_register tt (s, tt) r → Answered s query.SvbkRegister (says byte_values r)
  by_object_dma :
      (r : Result ObjectDmaTally Refusal) → Gives object_dma tt (s, tt) r → Answered s query.ObjectDma (says object_dma_values r)
