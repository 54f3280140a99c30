-- A blackout's questions, its drain and the wake intake act as the Rust methods (specs, `BlackoutSteps`, `DrainSteps`,
-- `WakeSteps`). Assumes nothing.
use Prim.Native.Nat.{ℕ, ◌+◌, ◌-◌, ◌<◌, ◌≤◌}
use native.Mathlib.Omega.{arith}
use mathlib.Core.Path.{◌≡◌, refl, sym}
use mathlib.Core.Bool.{Bool, true, false, false≢true}
use mathlib.Core.Logic.{◌↔◌, inl, inr, ⊎_elim}
use Rattle.std.specs.Prelude.{Some}
use borrow.Author.Tests.{ltb-true, lt-ltb, eqb-true, eq-eqb, ne_eqb}
use Rattle.console.specs.Set.{with_speed_switch_wake_latency}
use Rattle.console.specs.declared.Cgb.{Cgb}
use Rattle.blackout.specs.Blackout.{divider_active, drained_of, woken_of}
use Rattle.blackout.specs.BlackoutSteps.{DividerRuns, BlackoutSteps, DrainSteps, WakeSteps}

divider : (double : Bool) (blackout : ℕ) → (divider_active double blackout ≡ true) ↔ DividerRuns double blackout
divider true blackout =
    (λ e. inl (refl, ltb-true 5 blackout e), ⊎_elim (λ h. lt-ltb 5 blackout h.1) (λ h. absurd (false≢true (sym h.0))))
divider false blackout =
    (λ e. inr (refl, ltb-true 2 blackout e), ⊎_elim (λ h. absurd (false≢true h.0)) (λ h. lt-ltb 2 blackout h.1))

pub blackout_steps : BlackoutSteps
blackout_steps =
    record {
      active = λ blackout. (ltb-true 0 blackout, lt-ltb 0 blackout);
      divider = divider;
      divider_limits = (refl, refl, refl, refl);
    }

none_left : (blackout elapsed : ℕ) → blackout ≤ elapsed → blackout - elapsed ≡ 0
none_left blackout elapsed h = omega arith

some_left : (blackout elapsed : ℕ) → elapsed < blackout → blackout - elapsed ≡ 0 → ⊥
some_left blackout elapsed h e = omega arith

all_gone : (blackout elapsed : ℕ) → blackout - elapsed ≡ 0 → blackout ≤ elapsed
all_gone blackout elapsed e = omega arith

pub drain_steps : (elapsed : ℕ) (s : Cgb) → DrainSteps elapsed s
unfolding drained_of
drain_steps elapsed s =
    let blackout : ℕ = s.speed_switch_blackout in
    record {
      left = refl;
      ends =
          (λ e. all_gone blackout elapsed (eqb-true (blackout - elapsed) 0 e), λ h. eq-eqb (blackout - elapsed) 0 (none_left blackout elapsed h));
      forgets = λ h. rw (eq-eqb (blackout - elapsed) 0 (none_left blackout elapsed h));
      remembers = λ h. rw (ne_eqb (blackout - elapsed) 0 (some_left blackout elapsed h));
      only = refl;
    }

less_one : (n : ℕ) → (n + 1) - 1 ≡ n
less_one n = omega arith

pub wake_steps : (s : Cgb) → WakeSteps s
unfolding woken_of
wake_steps s =
    record {
      arms = λ boundary none. rw none;
      counts = λ n some. rw (some, less_one n);
      ready = ready;
      waits = λ n some. rw some;
    }
  where
    ready :
        (boundary : Bool) → s.speed_switch_wake_latency ≡ Some 0 →
        woken_of boundary s ≡ record { flag = true; state = with_speed_switch_wake_latency (Some 0) s }
    ready true none = rw none
    ready false none = rw none
