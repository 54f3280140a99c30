-- What the ledger and demand 3 read of power-on, of a call and of its answer: document 01, section 5, "It reads only power-on's
-- compat flag, calls and answers".
use Rattle.std.specs.Prelude.{ℕ, Bool, true, false, List, eqb}
use Rattle.transfer.specs.declared.pair.BytePair.{BytePair}
use Rattle.transfer.specs.declared.pair.Cause.{Cause}

-- of power-on: what it fixes until the next one
pub record Configuration : Type 0 where
  pub compat : Bool

-- of a call: a write's address and value, and whether it is a fall, a switch attempt or an escape drain
pub data LedgerInput : Type 0 where
  a_write : (address value : ℕ) → LedgerInput
  a_fall a_switch a_drain another : LedgerInput

-- of an answer: the number of a declined call or 0, the pairs handed out in order, whether a switch said cut; and, for which the
-- ledger has no use, whether a fall said that it committed, and the cause of each pair (document 02, A3)
pub record Reply : Type 0 where
  pub number : ℕ
  pub pairs : List BytePair
  pub cut : Bool
  pub committed : Bool
  pub causes : List Cause

-- "An accepted call gets no number"
abbrev pub accepts : Reply → Bool
accepts r = eqb r.number 0

abbrev pub is_fall : LedgerInput → Bool
is_fall (a_write address value) = false
is_fall a_fall = true
is_fall a_switch = false
is_fall a_drain = false
is_fall another = false

abbrev pub is_drain : LedgerInput → Bool
is_drain (a_write address value) = false
is_drain a_fall = false
is_drain a_switch = false
is_drain a_drain = true
is_drain another = false
