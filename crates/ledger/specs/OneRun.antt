-- That demand 3 speaks of something: every list of calls, from power-on with or without compat, has exactly one run.
use Rattle.std.specs.Prelude.{◌≡◌, List, [], ◌∷◌}
use Rattle.console.specs.declared.Cgb.{Cgb}
use Rattle.ledger.specs.Calls.{Call}
use Rattle.ledger.specs.LedgerInput.{Configuration}
use Rattle.ledger.specs.Demand3.{History, from_power_on, then, RunsTo}

abbrev pub configuration_of : History → Configuration
configuration_of (from_power_on k) = k
configuration_of (then h e) = configuration_of h

-- the calls of a history, newest first
abbrev pub calls_of : History → List Call
calls_of (from_power_on k) = []
calls_of (then h e) = e.call ∷ calls_of h

-- a run of these calls
pub record RunOf (k : Configuration) (calls : List Call) : Type 0 where
  pub history : History
  pub state : Cgb
  pub runs : RunsTo history state
  pub fixed : configuration_of history ≡ k
  pub list : calls_of history ≡ calls

pub record OneRun : Type 0 where
  pub some : (k : Configuration) (calls : List Call) → RunOf k calls
  pub only : (k : Configuration) (calls : List Call) (a b : RunOf k calls) → (a.history ≡ b.history) × (a.state ≡ b.state)
