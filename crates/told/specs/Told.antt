-- What an answer says, as numbers for a caller in another language: its number, then its values in the order of
-- answers/specs/Answers, the spare ones 0.
use Rattle.std.specs.Prelude.{ℕ, [], ◌∷◌}
use Rattle.answers.specs.Answers.{Said, four_of, declined}
use Rattle.bus.specs.Deposit.{no_pair}
use Rattle.console.specs.declared.Cgb.{Cgb}
use Rattle.told.specs.declared.Performed.{Performed}
use Rattle.told.specs.declared.Told.{Told}

abbrev pub told_of : Said → Told
told_of said =
    record {
      refusal = said.number;
      values = four_of said.values;
    }

-- a declined call's: the number, and no value
abbrev pub told_refused : ℕ → Told
told_refused n = told_of (declined n)

-- a call that hands out no bytes
abbrev pub quietly : Told → Cgb → Performed
quietly told s = record { told = told; pairs = no_pair ∷ no_pair ∷ []; causes = 0 ∷ 0 ∷ []; bytes = 0 ∷ 0 ∷ []; state = s }

abbrev pub telling : Said → Cgb → Performed
telling said s = quietly (told_of said) s
