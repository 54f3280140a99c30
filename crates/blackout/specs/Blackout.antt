-- Blackout and wake intake (speed_switch.rs; document 01, section 4: "blackout and wake intake act as the Rust methods").
use Rattle.std.specs.Prelude.{ℕ, ◌-◌, Bool, cond, Option, None, Some, ltb, eqb}
use Rattle.console.specs.Set.{with_speed_switch_blackout, with_speed_switch_wake_latency}
use Rattle.console.specs.declared.Cgb.{Cgb}
use Rattle.blackout.specs.declared.Flagged.{Flagged}

-- section 4: "5 or 2", by the new speed
abbrev pub relock_edges : Bool → ℕ
relock_edges double = cond double 5 2

abbrev pub blackout_active : ℕ → Bool
blackout_active blackout = ltb 0 blackout

abbrev pub divider_active : Bool → ℕ → Bool
divider_active double blackout = ltb (relock_edges double) blackout

-- edges left, not below 0
abbrev pub drained : ℕ → ℕ → ℕ
drained elapsed blackout = blackout - elapsed

-- at 0 the wake in flight is forgotten
abbrev pub latency_after_drain : Bool → Option ℕ → Option ℕ
latency_after_drain ended latency = cond ended None latency

-- the flag: now 0
unfoldable pub drained_of : ℕ → Cgb → Flagged
drained_of elapsed s =
    let left = drained elapsed s.speed_switch_blackout in
    record {
      flag = eqb left 0;
      state =
          with_speed_switch_blackout left
          (with_speed_switch_wake_latency (latency_after_drain (eqb left 0) s.speed_switch_wake_latency) s);
    }

-- none in flight: 1; else one less at an M-cycle boundary, not below 0
abbrev pub latency_after_wake : Bool → Option ℕ → ℕ
latency_after_wake boundary None = 1
latency_after_wake boundary (Some n) = cond boundary (n - 1) n

-- the flag: the latency is 0
unfoldable pub woken_of : Bool → Cgb → Flagged
woken_of boundary s =
    let n = latency_after_wake boundary s.speed_switch_wake_latency in
    record { flag = eqb n 0; state = with_speed_switch_wake_latency (Some n) s }
