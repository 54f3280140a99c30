-- The switch does what document 01 says of it (specs, `SwitchSteps`). Assumes nothing.
use mathlib.Core.Path.{◌≡◌, refl}
use mathlib.Core.Bool.{Bool, true, false, not, and-false}
use borrow.Author.Tests.{eq-eqb, ne_eqb}
use Rattle.console.specs.declared.Cgb.{Cgb}
use Rattle.blackout.specs.Blackout.{divider_active}
use Rattle.cut.specs.Cut.{outcome_of, engine_after}
use Rattle.speed_switch.specs.Switch.{blackout_of, switched_of}
use Rattle.speed_switch.specs.Steps.{state_after, Switches, SwitchSteps}
use Rattle.speed_switch.specs.declared.switch.SwitchInput.{SwitchInput}

-- after a switch, by its direction and by the debit
counted : (up debit ready : Bool) → divider_active up (blackout_of up debit ready) ≡ not ready
unfolding blackout_of
counted true debit true = refl
counted false debit true = refl
counted true true false = refl
counted true false false = refl
counted false true false = refl
counted false false false = refl

after_switch :
    (i : SwitchInput) (s : Cgb) →
    divider_active (state_after i s).double_speed (state_after i s).speed_switch_blackout ≡ not i.interrupt_ready
unfolding switched_of
after_switch i s = counted (not s.double_speed) s.switch_relock_debit i.interrupt_ready

pub switches : (i : SwitchInput) (s : Cgb) → Switches i s
unfolding switched_of outcome_of engine_after blackout_of
switches i s =
    record {
      speed = refl;
      key1 = refl;
      anchor = refl;
      upward = λ single. (rw single, rw single);
      downward = λ double. (rw double, rw double);
      edges_up = λ single calm. (λ none. rw (single, calm, none), λ one. rw (single, calm, one));
      edges_down = λ double calm. (λ none. rw (double, calm, none), λ one. rw (double, calm, one));
      edges_ready = λ ready. (λ single. rw (single, ready), λ double. rw (double, ready));
      debit_set = λ single none third. rw (single, none, eq-eqb _ _ third);
      debit_not_set = λ single other. rw (single, ne_eqb _ _ other, and-false);
      debit_spent = λ single one. rw (single, one);
      debit_kept = λ double. rw double;
      rest = refl;
      divider_ready = λ ready. rw (after_switch i s, ready);
      divider_held = λ held. rw (after_switch i s, held);
    }

pub switch_steps : SwitchSteps
switch_steps = record { steps = (refl, refl); switches = switches }
