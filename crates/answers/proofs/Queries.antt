-- A query of a state that passes 7 gives its value, and answers yes exactly when its conditions hold (specs, `Asks`). Assumes nothing.
use Prim.Native.Nat.{ℕ}
use mathlib.Core.Path.{◌≡◌, refl, sym, ap, ◌∙◌}
use mathlib.Core.Bool.{Bool, true, false}
use mathlib.Core.List.{List}
use mathlib.Core.Logic.Iff
use mathlib.Core.Logic.{◌↔◌}
use Rattle.std.proofs.Common.{Result, Ok, Err}
use Rattle.console.specs.Reached.{unreached, state_refusal}
use Rattle.console.specs.declared.Cgb.{Cgb}
use Rattle.console.specs.declared.refusal.Refusal.{Refusal}
use Rattle.transfer.proofs.Conditions.{when_false}
use Rattle.answers.specs.Queries.{asked, query_said, Asked, Asks}
use Rattle.answers.specs.Answers.{says}
use Rattle.answers.proofs.Numbers.{state_passes, told, answers}

pub asked_told : {A : Type 0} (values : A → List ℕ) (s : Cgb) (value : A) → says values (asked s value) ≡ query_said s (values value)
unfolding asked query_said
asked_told values s value = told values (state_refusal s) value

-- a query's promises, from what it returned
pub asked_is : {A : Type 0} (values : A → List ℕ) (s : Cgb) (value : A) (r : Result A Refusal) → r ≡ asked s value → Asked values s value r
asked_is values s value r is = answers (asked_told values s value) is

flag_is : (a b : Bool) → ◌≡◌ {A = Result Bool Refusal} (Ok a) (Ok b) ↔ (a ≡ b)
flag_is a b = (λ e. cc, λ e. ap Ok e)

module _ (s : Cgb) (reached : unreached s ≡ false) where
  pub given : {A : Type 0} (value : A) → asked s value ≡ Ok value
  unfolding asked
  given value = rw (state_passes s reached)

  pub asks : {P : Type 0} (flag : Bool) → (flag ≡ true) ↔ P → Asks s flag P
  asks flag e =
      record {
        yes = Iff.trans (λ f. (flag_is flag true).0 (sym (given flag) ∙ f), λ f. given flag ∙ (flag_is flag true).1 f) e;
        no = Iff.trans (λ f. (flag_is flag false).0 (sym (given flag) ∙ f), λ f. given flag ∙ (flag_is flag false).1 f) (when_false flag e);
      }
