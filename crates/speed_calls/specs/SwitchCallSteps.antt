-- What is shown of the order in which a switch is declined (document 01, "Declined by input", "Declined by state": "Order: 7 first
-- wherever a state is given; .. a switch 3, 5, 11, 12, 13"): a number comes exactly where its reason holds and none in front of it,
-- the reasons as facts about fields and numbers.
use Rattle.std.specs.Prelude.{◌<◌, ◌≤◌, ◌≡◌, true, false, None}
use Rattle.console.specs.Reached.{unreached}
use Rattle.console.specs.Refusals.{Numbered}
use Rattle.console.specs.declared.Cgb.{Cgb}
use Rattle.console.specs.declared.refusal.Refusal.TheVariants.{State, Phase, Held, Blackout, Unarmed, Deferred}
use Rattle.cut.specs.CutSteps.{ReadyBlock}
use Rattle.speed_switch.specs.declared.switch.SwitchInput.{SwitchInput}
use Rattle.speed_calls.specs.Speed.{switch_refusal}

-- a switch that 7, 3 and 5 leave
pub record Attempted (s : Cgb) (i : SwitchInput) : Type 0 where
  pub reached : unreached s ≡ false
  pub phase : i.dot_phase ≤ 4
  pub unheld : i.hold ≡ false

pub record SwitchRefusals (s : Cgb) (i : SwitchInput) : Type 0 where
  pub first_7 : unreached s ≡ true → Numbered (switch_refusal s i) State 7
  pub then_3 : unreached s ≡ false → 4 < i.dot_phase → Numbered (switch_refusal s i) Phase 3
  pub then_5 : unreached s ≡ false → i.dot_phase ≤ 4 → i.hold ≡ true → Numbered (switch_refusal s i) Held 5
  -- "11 blackout running. 12 KEY1 not armed. 13 downward with a ready block"
  pub then_11 : Attempted s i → 0 < s.speed_switch_blackout → Numbered (switch_refusal s i) Blackout 11
  pub then_12 : Attempted s i → s.speed_switch_blackout ≡ 0 → s.key1_armed ≡ false → Numbered (switch_refusal s i) Unarmed 12
  pub then_13 :
      Attempted s i → s.speed_switch_blackout ≡ 0 → s.key1_armed ≡ true → s.double_speed ≡ true →
      ReadyBlock s.vram_dma → Numbered (switch_refusal s i) Deferred 13
  -- upward, and downward without a ready block, it is not declined
  pub upward :
      Attempted s i → s.speed_switch_blackout ≡ 0 → s.key1_armed ≡ true → s.double_speed ≡ false → switch_refusal s i ≡ None
  pub downward :
      Attempted s i → s.speed_switch_blackout ≡ 0 → s.key1_armed ≡ true → s.double_speed ≡ true →
      (ReadyBlock s.vram_dma → ⊥) → switch_refusal s i ≡ None
