-- What is shown of the switch, in document 01's words (section 4).
use Rattle.std.specs.Prelude.{◌≡◌, true, false, not}
use Rattle.console.specs.Set.{with_vram_dma, with_double_speed, with_key1_armed, with_speed_switch_blackout, with_switch_relock_debit, with_console_state}
use Rattle.console.specs.Set.{with_console_blackout_anchor}
use Rattle.console.specs.declared.Cgb.{Cgb}
use Rattle.blackout.specs.Blackout.{divider_active}
use Rattle.cut.specs.Cut.{outcome_of, upward_of}
use Rattle.cut.specs.declared.SwitchOutcome.TheVariants.{None}
use Rattle.speed_switch.specs.Speed.{steps_per_dot}
use Rattle.speed_switch.specs.Switch.{switched_of}
use Rattle.speed_switch.specs.declared.switch.SwitchInput.{SwitchInput}

-- the state after a switch
abbrev pub state_after : SwitchInput → Cgb → Cgb
state_after i s = (switched_of i s).state

-- The switch itself: upward from single speed, downward from double.
pub record Switches (i : SwitchInput) (s : Cgb) : Type 0 where
  -- it changes the speed, clears KEY1's bit and notes the edge
  pub speed : (state_after i s).double_speed ≡ not s.double_speed
  pub key1 : (state_after i s).key1_armed ≡ false
  pub anchor : (state_after i s).console_state.blackout_anchor ≡ i.master_edge
  -- "without a latched block, and downward, it is none"
  pub upward :
      s.double_speed ≡ false →
      ((switched_of i s).outcome ≡ outcome_of true s.vram_dma) × ((state_after i s).vram_dma ≡ upward_of s.vram_dma)
  pub downward : s.double_speed ≡ true → ((switched_of i s).outcome ≡ None) × ((state_after i s).vram_dma ≡ s.vram_dma)
  -- "131,077 edges upward, .. changed by the relock debit": 2 more
  pub edges_up :
      s.double_speed ≡ false → i.interrupt_ready ≡ false →
      (s.switch_relock_debit ≡ false → (state_after i s).speed_switch_blackout ≡ 131077) ×
      (s.switch_relock_debit ≡ true → (state_after i s).speed_switch_blackout ≡ 131079)
  -- "262,146 downward, changed by the relock debit": 2 fewer
  pub edges_down :
      s.double_speed ≡ true → i.interrupt_ready ≡ false →
      (s.switch_relock_debit ≡ false → (state_after i s).speed_switch_blackout ≡ 262146) ×
      (s.switch_relock_debit ≡ true → (state_after i s).speed_switch_blackout ≡ 262144)
  -- "interrupt ready leaves 5 or 2", whatever the debit
  pub edges_ready :
      i.interrupt_ready ≡ true →
      (s.double_speed ≡ false → (state_after i s).speed_switch_blackout ≡ 5) ×
      (s.double_speed ≡ true → (state_after i s).speed_switch_blackout ≡ 2)
  -- the debit: set upward at phase 3 without one, spent by the next upward switch, kept downward
  pub debit_set :
      s.double_speed ≡ false → s.switch_relock_debit ≡ false → i.dot_phase ≡ 3 →
      (state_after i s).switch_relock_debit ≡ true
  pub debit_not_set : s.double_speed ≡ false → (i.dot_phase ≡ 3 → ⊥) → (state_after i s).switch_relock_debit ≡ false
  pub debit_spent : s.double_speed ≡ false → s.switch_relock_debit ≡ true → (state_after i s).switch_relock_debit ≡ false
  pub debit_kept : s.double_speed ≡ true → (state_after i s).switch_relock_debit ≡ s.switch_relock_debit
  -- nothing else of the state changes
  pub rest :
      state_after i s ≡
      with_vram_dma (state_after i s).vram_dma
      (with_double_speed (state_after i s).double_speed
      (with_key1_armed (state_after i s).key1_armed
      (with_speed_switch_blackout (state_after i s).speed_switch_blackout
      (with_switch_relock_debit (state_after i s).switch_relock_debit
      (with_console_state (with_console_blackout_anchor (state_after i s).console_state.blackout_anchor s.console_state) s)))))
  -- "interrupt ready leaves 5 or 2", the relock alone: then the divider rests from the switch on, else it runs
  pub divider_ready :
      i.interrupt_ready ≡ true → divider_active (state_after i s).double_speed (state_after i s).speed_switch_blackout ≡ false
  pub divider_held :
      i.interrupt_ready ≡ false → divider_active (state_after i s).double_speed (state_after i s).speed_switch_blackout ≡ true

pub record SwitchSteps : Type 0 where
  -- `steps_per_dot`
  pub steps : (steps_per_dot true ≡ 2) × (steps_per_dot false ≡ 1)
  pub switches : (i : SwitchInput) (s : Cgb) → Switches i s
