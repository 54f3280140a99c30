-- What the refusal of a call decides: its answer, the state that it leaves, and what it says. Laws for every call, which callers
-- cite in place of `answered`, `kept` and `state_refusal`. Assumes nothing.
use Prim.Native.Nat.{ℕ}
use mathlib.Core.Path.{◌≡◌, refl, sym, ap, ◌∙◌}
use mathlib.Core.Bool.{true, false}
use mathlib.Core.List.{List}
use Rattle.std.proofs.Common.{Option, Some, None, Result, Ok, Err}
use Rattle.console.specs.Reached.{unreached, state_refusal}
use Rattle.console.specs.Refusals.{number_of, answered, kept}
use Rattle.console.specs.declared.Cgb.{Cgb}
use Rattle.console.specs.declared.refusal.Refusal.{Refusal}
use Rattle.console.specs.declared.refusal.Refusal.TheVariants.{State}
use Rattle.answers.specs.Answers.{Said, saying, says, Answers}

-- the refusal of a call that 7 alone declines
pub state_7 : (s : Cgb) → unreached s ≡ true → state_refusal s ≡ Some State
unfolding state_refusal
state_7 s seven = rw seven

pub state_passes : (s : Cgb) → unreached s ≡ false → state_refusal s ≡ None
unfolding state_refusal
state_passes s reached = rw reached

-- an answer says its number, and its values where it is accepted
pub told : {A : Type 0} (values : A → List ℕ) (k : Option Refusal) (value : A) → says values (answered k value) ≡ saying k (values value)
told values None value = refl
told values (Some r) value = refl

-- what a result says follows from what it is
pub answers : {A : Type 0} {says : A → Said} {answer : A} {said : Said} {r : A} → says answer ≡ said → r ≡ answer → Answers says answer said r
answers {says = says} law is = record { is = is; says = ap says is ∙ law }
