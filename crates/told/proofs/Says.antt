-- What an answer says by its refusal. Assumes nothing.
use Prim.Native.Nat.{ℕ}
use mathlib.Core.Path.{◌≡◌, refl, ap, ◌∙◌, sym}
use mathlib.Core.List.{List}
use Rattle.std.proofs.Common.{Option, Some, None}
use Rattle.console.specs.declared.refusal.Refusal.{Refusal}
use Rattle.answers.specs.Answers.{Said, saying}

-- whatever values it would give, they are those that it says
pub says_own : (said : Said) (k : Option Refusal) (values : List ℕ) → said ≡ saying k values → said ≡ saying k said.values
says_own said k values is = is ∙ by k ∙ ap (λ (x : Said). saying k x.values) (sym is)
  where
    by : (k : Option Refusal) → saying k values ≡ saying k (saying k values).values
    by None = refl
    by (Some r) = refl
