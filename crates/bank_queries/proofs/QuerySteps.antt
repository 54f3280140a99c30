-- The queries of FF70 answer what their fields say (specs, `BankQuerySteps`). Assumes nothing.
use mathlib.Core.Path.{◌≡◌}
use mathlib.Core.Bool.{false}
use borrow.Author.Tests.{eq-eqb, ne_eqb}
use Rattle.console.specs.Reached.{unreached}
use Rattle.console.specs.declared.Cgb.{Cgb}
use Rattle.answers.proofs.Queries.{given}
use Rattle.bank_queries.specs.QuerySteps.{BankQuerySteps, BankQueries}

query_steps : (s : Cgb) → unreached s ≡ false → BankQuerySteps s
query_steps s reached =
    record {
      bank = λ some. rw (ne_eqb s.svbk 0 some) (given s reached s.svbk);
      bank_one = λ none. rw (eq-eqb s.svbk 0 none) (given s reached 1);
      written = given s reached s.svbk;
    }

pub bank_queries : BankQueries
bank_queries = record { steps = query_steps }
