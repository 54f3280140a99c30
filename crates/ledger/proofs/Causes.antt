-- Each pair's cause is the one that the ledger gives in front of it, for every list of calls (specs, `CausesOfLedger`). Assumes nothing.
use Prim.Native.Nat.{ℕ, ◌-◌, ◌<◌}
use native.Mathlib.Omega.{arith}
use mathlib.Core.Path.{◌≡◌, refl, sym, ap, subst}
use mathlib.Core.Bool.{Bool, true, false, cond, not, ◌&&◌}
use mathlib.Core.List.{[]}
use mathlib.Core.Logic.{◌↔◌}
use lib.Dec.{eqb, lit<}
use borrow.Author.Tests.{eqb-true, eqb-false}
use Rattle.console.specs.declared.Cgb.{Cgb}
use Rattle.answers.specs.Answers.{cause_number}
use Rattle.transfer.specs.declared.pair.Cause.TheVariants.{GoingOn, CountedOut, Carried}
use Rattle.ledger.specs.LedgerInput.{Configuration, accepts}
use Rattle.ledger.specs.Ledger.{Ledger, after_pair, effect}
use Rattle.ledger.specs.Calls.{Outcome, ledger_input}
use Rattle.ledger.specs.Causes.{cause_in, CausesFollow, CausesOfLedger}
use Rattle.ledger.specs.Demand3.{Event, History, then, RunsTo, called, running, ledger_of, pairs_since_fall}
use Rattle.ledger.proofs.AcceptedOrDeclined as answer
use Rattle.ledger.proofs.Invariant.{keeps}
use Rattle.ledger.proofs.Tied.{returned_step}
use Rattle.ledger.proofs.Theorem.{invariant, speaks}

follow :
    (h : History) (e : Event) (s : Cgb) → RunsTo (then h e) s → (k : Configuration) (l : Ledger) → ledger_of h ≡ running k l →
    accepts e.reply ≡ true → CausesFollow (effect k (ledger_input e.call) e.reply l) e.reply.pairs e.reply.causes
follow h e s (called {s = t} c o r returned) k l p =
    subst
    (λ (x : Outcome). accepts x.reply ≡ true →
    CausesFollow (effect k (ledger_input c) x.reply l) x.reply.pairs x.reply.causes)
    (sym (returned_step returned))
    (keeps k t l (pairs_since_fall h) (record { agree = speaks r k l p; budget = (invariant r).budget }) c).caused

none : (h : History) (e : Event) (s : Cgb) → RunsTo (then h e) s → accepts e.reply ≡ false → e.reply.causes ≡ []
none h e s (called {s = t} c o r returned) =
    subst (λ (x : Outcome). accepts x.reply ≡ false → x.reply.causes ≡ []) (sym (returned_step returned))
    (λ refused. ap (λ (x : Outcome). x.reply.causes) (answer.refused t c refused))

-- by the ledger's two tests
last_by :
    (carries free : Bool) (left : ℕ) → 0 < left →
    (0 < cause_number (cond carries Carried (cond (not free && eqb left 1) CountedOut GoingOn))) ↔
    (cond carries 0 (cond free left (left - 1)) ≡ 0)
last_by true free left some = (λ e. refl, λ e. lit< tt)
last_by false true left some = (λ e. absurd (omega (arith, e)), λ z. absurd (omega (arith, z, some)))
last_by false false left some = by (eqb left 1) refl
  where
    by : (b : Bool) → eqb left 1 ≡ b → (0 < cause_number (cond b CountedOut GoingOn)) ↔ (left - 1 ≡ 0)
    by true e = let one = eqb-true left 1 e in (λ h. omega (arith, one), λ z. lit< tt)
    by false e = (λ h. absurd (omega (arith, h)), λ z. absurd (eqb-false left 1 e (omega (arith, z, some))))

last_pair : (l : Ledger) → 0 < l.left → (0 < cause_number (cause_in l)) ↔ ((after_pair l).left ≡ 0)
unfolding after_pair
last_pair l some = last_by (eqb l.dest 0xFFFF) l.free l.left some

pub causes_of_ledger : CausesOfLedger
causes_of_ledger = record { cause_of_ledger = follow; refused_none = none; last_pair = last_pair }
