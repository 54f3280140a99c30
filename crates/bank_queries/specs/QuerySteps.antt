-- What is shown of the queries of FF70, of each state that passes 7.
use Rattle.std.specs.Prelude.{◌≡◌, false, Ok}
use Rattle.console.specs.Reached.{unreached}
use Rattle.console.specs.declared.Cgb.{Cgb}
use Rattle.answers.specs.Queries.{asked}
use Rattle.bank_queries.specs.Queries.{bank_selected, svbk_written}

pub record BankQuerySteps (s : Cgb) : Type 0 where
  -- `wram_bank`: "bank FF70 (0 means 1)"; `svbk_register`: FF70 as written
  pub bank : (s.svbk ≡ 0 → ⊥) → asked s (bank_selected s) ≡ Ok s.svbk
  pub bank_one : s.svbk ≡ 0 → asked s (bank_selected s) ≡ Ok 1
  pub written : asked s (svbk_written s) ≡ Ok s.svbk

pub record BankQueries : Type 0 where
  pub steps : (s : Cgb) → unreached s ≡ false → BankQuerySteps s
