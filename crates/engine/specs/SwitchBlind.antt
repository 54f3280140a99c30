-- The blind of 6 from the switch on that arms it (document 01, section 4: "Every upward switch drops the pend and arms the
-- blind of 6"): how long it lasts, and which entries it passes over, is `Windows` of `fall_stages`.
use Rattle.std.specs.Prelude.{◌≡◌, false}
use Rattle.console.specs.declared.Cgb.{Cgb}
use Rattle.speed_switch.specs.Switch.{switched_of}
use Rattle.speed_switch.specs.declared.switch.SwitchInput.{SwitchInput}
use Rattle.fall_stages.specs.Windows.{blind_of_6, Since}

-- upward is from single speed; no fall of the window lies behind
abbrev pub SwitchBlind : Type 0
SwitchBlind =
    (i : SwitchInput) (s : Cgb) → s.double_speed ≡ false → Since blind_of_6 0 (switched_of i s).state.vram_dma
