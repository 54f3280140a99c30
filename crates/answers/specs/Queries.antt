-- The form of a query: 7 or its value, and no state handed back. "7 first wherever a state is given" (document 01).
use Rattle.std.specs.Prelude.{ℕ, ◌≡◌, Bool, true, false, List, ◌↔◌, Result, Ok}
use Rattle.console.specs.Reached.{state_refusal}
use Rattle.console.specs.Refusals.{answered}
use Rattle.console.specs.declared.Cgb.{Cgb}
use Rattle.console.specs.declared.refusal.Refusal.{Refusal}
use Rattle.answers.specs.Answers.{Said, saying, says, Answers, flag_values, byte_values}

-- a query's answer: 7, or the value that it asks for
unfoldable pub asked : {A : Type 0} → Cgb → A → Result A Refusal
asked s value = answered (state_refusal s) value

-- what it says
unfoldable pub query_said : Cgb → List ℕ → Said
query_said s values = saying (state_refusal s) values

-- the promises of a query: its answer, and what that says
abbrev pub Asked : {A : Type 0} → (A → List ℕ) → Cgb → A → Result A Refusal → Type 0
Asked values s value = Answers (says values) (asked s value) (query_said s (values value))

-- such a query answers yes exactly when P holds, and no exactly when it does not
pub record Asks (s : Cgb) (flag : Bool) (P : Type 0) : Type 0 where
  pub yes : (asked s flag ≡ Ok true) ↔ P
  pub no : (asked s flag ≡ Ok false) ↔ (P → ⊥)
