-- An upward switch starts the blind of 6 (specs, `SwitchBlind`). Assumes nothing.
use mathlib.Core.Path.{ap, ◌∙◌}
use Rattle.console.specs.declared.vram_dma.VramDma.{VramDma}
use Rattle.speed_switch.specs.Switch.{switched_of}
use Rattle.cut.proofs.CutSteps.{cut_steps}
use Rattle.speed_switch.proofs.Steps.{switch_steps}
use Rattle.fall_stages.specs.Windows.{by_call}
use Rattle.engine.specs.SwitchBlind.{SwitchBlind}

pub switch_blind : SwitchBlind
switch_blind i s single =
    by_call (switched_of i s).state.vram_dma
    (ap (λ (d : VramDma). d.arb.wake_pend_blind) ((switch_steps.switches i s).upward single).1
    ∙ (cut_steps.every s.vram_dma).1)
