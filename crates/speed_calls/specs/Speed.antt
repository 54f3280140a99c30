-- The switch, the blackout drain and the wake intake as calls (document 01, section 4). "Order: 7 first .. a switch 3, 5, 11,
-- 12, 13"; "5 and 11–13 are the Rust's false, now numbered".
use Rattle.std.specs.Prelude.{ℕ, Bool, not, ◌&&◌, [], ◌∷◌, Option, ltb}
use Rattle.console.specs.Reached.{unreached, state_refusal}
use Rattle.console.specs.Refusals.{◌⇒◌, first_of}
use Rattle.console.specs.declared.Cgb.{Cgb}
use Rattle.console.specs.declared.refusal.Refusal.{Refusal}
use Rattle.console.specs.declared.refusal.Refusal.TheVariants.{State, Phase, Held, Blackout, Unarmed, Deferred}
use Rattle.blackout.specs.Blackout.{drained_of, woken_of, blackout_active}
use Rattle.blackout.specs.declared.Flagged.{Flagged}
use Rattle.cut.specs.Cut.{ready_block}
use Rattle.cut.specs.declared.SwitchOutcome.{SwitchOutcome}
use Rattle.speed_switch.specs.Switch.{switched_of}
use Rattle.speed_switch.specs.declared.switch.SwitchInput.{SwitchInput}
use Rattle.answers.specs.Answers.{Said, saying, outcome, bit_of, switch_values}
use Rattle.answers.specs.declared.Outcome.{Outcome}

-- 13: "downward with a ready block"
unfoldable pub defers : Cgb → Bool
defers s = s.double_speed && ready_block s.vram_dma

-- why a switch is declined
unfoldable pub switch_refusal : Cgb → SwitchInput → Option Refusal
switch_refusal s i =
    first_of ((unreached s ⇒ State) ∷
    (ltb 4 i.dot_phase ⇒ Phase) ∷
    (i.hold ⇒ Held) ∷
    (blackout_active s.speed_switch_blackout ⇒ Blackout) ∷
    (not s.key1_armed ⇒ Unarmed) ∷
    (defers s ⇒ Deferred) ∷ [])

unfoldable pub switch_call_of : Cgb → SwitchInput → Outcome SwitchOutcome
switch_call_of s i = outcome (switch_refusal s i) s (switched_of i s).outcome (switched_of i s).state

unfoldable pub switch_said : Cgb → SwitchInput → Said
switch_said s i = saying (switch_refusal s i) (switch_values (switched_of i s).outcome)

-- a call that answers a flag and hands back a state
abbrev pub flagged_of : Cgb → Flagged → Outcome Bool
flagged_of s r = outcome (state_refusal s) s r.flag r.state

unfoldable pub blackout_call_of : Cgb → ℕ → Outcome Bool
blackout_call_of s elapsed = flagged_of s (drained_of elapsed s)

unfoldable pub blackout_said : Cgb → ℕ → Said
blackout_said s elapsed = saying (state_refusal s) (bit_of (drained_of elapsed s).flag ∷ [])

unfoldable pub wake_call_of : Cgb → Bool → Outcome Bool
wake_call_of s boundary = flagged_of s (woken_of boundary s)

unfoldable pub wake_said : Cgb → Bool → Said
wake_said s boundary = saying (state_refusal s) (bit_of (woken_of boundary s).flag ∷ [])
