-- How the run goes on (document 02, A3), of every list of calls from power-on: each pair's cause is the one that the ledger gives in
-- front of it. Beside demand 3, whose pairs are sources and destinations alone.
use Rattle.std.specs.Prelude.{◌<◌, ◌≡◌, true, false, cond, not, ◌&&◌, List, [], ◌∷◌, ◌↔◌, eqb}
use Rattle.console.specs.declared.Cgb.{Cgb}
use Rattle.answers.specs.Answers.{cause_number}
use Rattle.transfer.specs.declared.pair.BytePair.{BytePair}
use Rattle.transfer.specs.declared.pair.Cause.{Cause}
use Rattle.transfer.specs.declared.pair.Cause.TheVariants.{GoingOn, CountedOut, Carried}
use Rattle.ledger.specs.LedgerInput.{Configuration, accepts}
use Rattle.ledger.specs.Ledger.{Ledger, after_pair, effect}
use Rattle.ledger.specs.Calls.{ledger_input}
use Rattle.ledger.specs.Demand3.{Event, History, then, RunsTo, running, ledger_of}

-- of the ledger's next pair: "carried (past FFFFh), this also where left would have reached 0 anyway"; else "counted out (left fell to
-- 0)", by a pair that is not free and takes the last; else "going on"
abbrev pub cause_in : Ledger → Cause
cause_in l = cond (eqb l.dest 0xFFFF) Carried (cond (not l.free && eqb l.left 1) CountedOut GoingOn)

-- "each pair with its own": each comes while something is left (demand 3), so that `last_pair` below speaks of each of them
pub data CausesFollow : Ledger → List BytePair → List Cause → Type 0 where
  no_cause : {l : Ledger} → CausesFollow l [] []
  one_cause :
      {l : Ledger} {p : BytePair} {ps : List BytePair} {k : Cause} {ks : List Cause} → 0 < l.left → k ≡ cause_in l →
      CausesFollow (after_pair l) ps ks →
      CausesFollow l (p ∷ ps) (k ∷ ks)

pub record CausesOfLedger : Type 0 where
  pub cause_of_ledger :
      (h : History) (e : Event) (s : Cgb) → RunsTo (then h e) s → (k : Configuration) (l : Ledger) → ledger_of h ≡ running k l →
      accepts e.reply ≡ true → CausesFollow (effect k (ledger_input e.call) e.reply l) e.reply.pairs e.reply.causes
  -- a refused call has no pair, and so none
  pub refused_none :
      (h : History) (e : Event) (s : Cgb) → RunsTo (then h e) s → accepts e.reply ≡ false → e.reply.causes ≡ []
  -- of every ledger that has something left: its next pair's cause is above 0 exactly where left is 0 after it ("if a pair was the last")
  pub last_pair : (l : Ledger) → 0 < l.left → (0 < cause_number (cause_in l)) ↔ ((after_pair l).left ≡ 0)
