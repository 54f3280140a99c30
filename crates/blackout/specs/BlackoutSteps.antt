-- What is shown of a blackout's questions, of its drain and of the wake intake (speed_switch.rs; document 01, section 4:
-- "blackout and wake intake act as the Rust methods"). `⊎` is "or".
use Rattle.std.specs.Prelude.{ℕ, ◌+◌, ◌-◌, ◌<◌, ◌≤◌, ◌≡◌, Bool, true, false, ◌↔◌, ◌⊎◌, None, Some, eqb}
use Rattle.console.specs.Set.{with_speed_switch_blackout, with_speed_switch_wake_latency}
use Rattle.console.specs.declared.Cgb.{Cgb}
use Rattle.blackout.specs.Blackout.{blackout_active, divider_active, drained_of, woken_of}

-- `blackout_divider_active`: "The divider runs through the hold but freezes during the relock tail": the last 5 edges after a
-- switch to double speed, the last 2 after one to single
abbrev pub DividerRuns : Bool → ℕ → Type 0
DividerRuns double blackout = ((double ≡ true) × (5 < blackout)) ⊎ ((double ≡ false) × (2 < blackout))

pub record BlackoutSteps : Type 0 where
  -- `blackout_active`
  pub active : (blackout : ℕ) → (blackout_active blackout ≡ true) ↔ (0 < blackout)
  pub divider : (double : Bool) (blackout : ℕ) → (divider_active double blackout ≡ true) ↔ DividerRuns double blackout
  -- at the relock's first edge and in front of it
  pub divider_limits :
      (divider_active true 6 ≡ true) × (divider_active true 5 ≡ false) × (divider_active false 3 ≡ true) × (divider_active false 2 ≡ false)

-- `drain_blackout`
pub record DrainSteps (elapsed : ℕ) (s : Cgb) : Type 0 where
  -- the edges that are left, not below 0; the answer is whether none is
  pub left : (drained_of elapsed s).state.speed_switch_blackout ≡ s.speed_switch_blackout - elapsed
  pub ends : ((drained_of elapsed s).flag ≡ true) ↔ (s.speed_switch_blackout ≤ elapsed)
  -- at the end a wake in flight is forgotten, and only there
  pub forgets : s.speed_switch_blackout ≤ elapsed → (drained_of elapsed s).state.speed_switch_wake_latency ≡ None
  pub remembers :
      elapsed < s.speed_switch_blackout →
      (drained_of elapsed s).state.speed_switch_wake_latency ≡ s.speed_switch_wake_latency
  -- nothing else changes
  pub only :
      (drained_of elapsed s).state ≡
      with_speed_switch_blackout (drained_of elapsed s).state.speed_switch_blackout
      (with_speed_switch_wake_latency (drained_of elapsed s).state.speed_switch_wake_latency s)

-- `wake_intake_ready`: the answer is whether the latency is 0, and nothing but the latency changes
pub record WakeSteps (s : Cgb) : Type 0 where
  -- "First IF-set edge: arm the WakeIntake M-cycle"
  pub arms :
      (boundary : Bool) → s.speed_switch_wake_latency ≡ None →
      woken_of boundary s ≡ record { flag = false; state = with_speed_switch_wake_latency (Some 1) s }
  -- one less at an M-cycle boundary, not below 0
  pub counts :
      (n : ℕ) → s.speed_switch_wake_latency ≡ Some (n + 1) →
      woken_of true s ≡ record { flag = eqb n 0; state = with_speed_switch_wake_latency (Some n) s }
  pub ready :
      (boundary : Bool) → s.speed_switch_wake_latency ≡ Some 0 →
      woken_of boundary s ≡ record { flag = true; state = with_speed_switch_wake_latency (Some 0) s }
  -- off the boundary it stays
  pub waits :
      (n : ℕ) → s.speed_switch_wake_latency ≡ Some n →
      woken_of false s ≡ record { flag = eqb n 0; state = with_speed_switch_wake_latency (Some n) s }
