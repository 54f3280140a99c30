-- The values of a byte, a flag and a bus call, each in its place ("the promises use a definition that states this paper's number and
-- values"): beside the definitions that a call's answer and what it says both cite, so that one with other values has no proof of this.
use Rattle.std.specs.Prelude.{ℕ, ◌≡◌, true, false, [], ◌∷◌}
use Rattle.answers.specs.Answers.{byte_values, flag_values, moved_values}

pub record ValuesTold : Type 0 where
  pub byte : (n : ℕ) → byte_values n ≡ n ∷ []
  pub yes : flag_values true ≡ 1 ∷ []
  pub no : flag_values false ≡ 0 ∷ []
  -- how many pairs, then whether a set-up cell was used
  pub setup : moved_values (record { count = 0; setup_cell = true }) ≡ 0 ∷ 1 ∷ []
  pub moved : (n : ℕ) → moved_values (record { count = n; setup_cell = false }) ≡ n ∷ 0 ∷ []
