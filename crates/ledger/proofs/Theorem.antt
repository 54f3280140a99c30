-- Demand 3 (specs, `Demand3`). Assumes nothing.
use Prim.Native.Nat.{ℕ, ◌+◌, ◌≤◌, ◌<◌}
use native.Mathlib.Omega.{arith}
use mathlib.Core.Path.{◌≡◌, refl, sym, ap, subst, ◌∙◌}
use mathlib.Core.Bool.{Bool, true, false, ◌&&◌}
use mathlib.Core.List.{List, []}
use lib.Dec.{eqb, lit<}
use lib.ListN.{length}
use borrow.Author.Tests.{eqb-true}
use Rattle.std.proofs.Common.{None, Ok}
use Rattle.std.proofs.lemmas.Bool.{and_parts}
use Rattle.console.specs.PowerOn.{power_on_of, dma_at_rest}
use Rattle.console.specs.Reached.{unreached}
use Rattle.console.specs.Refusals.{number_of}
use Rattle.console.specs.declared.Cgb.{Cgb}
use Rattle.console.proofs.Refusals.{number_none}
use Rattle.bus.specs.Commit.{holds_bus, setup_stands}
use Rattle.bus.specs.declared.commit.BusInput.{BusInput}
use Rattle.bus.specs.declared.hold.HoldInput.{HoldInput}
use Rattle.transfer.specs.Pair.{moving_of, quota_of}
use Rattle.transfer.specs.declared.VramDmaStatus.TheVariants as dma
use Rattle.transfer.specs.declared.pair.BytePair.{BytePair}
use Rattle.engine.specs.Calls.{Lengths, bus_refusal, asked, engine_status, inside_bus}
use Rattle.ledger.specs.LedgerInput.{Configuration, accepts, is_fall}
use Rattle.ledger.specs.Ledger.{Ledger, empty, effect}
use Rattle.ledger.specs.Calls.{Call, Outcome, bus_call, bus_call_inside, BusCall, from_outside, from_inside, step, ledger_input}
use Rattle.ledger.specs.Code.{Returned}
use Rattle.ledger.specs.Demand3.{Event, History, then, RunsTo, at_power_on, called, Standing, running, enters, ledger_of}
use Rattle.ledger.specs.Demand3.{accepted_fall, pairs_since_fall, NextPairs, Balanced, general_pairs, Demand3}
use Rattle.ledger.proofs.Core.{core_of, quota}
use Rattle.ledger.proofs.AcceptedOrDeclined as answer
use Rattle.ledger.proofs.PairsMatch.{Match}
use Rattle.ledger.proofs.Invariant.{since, CallLaws, keeps}
use Rattle.ledger.proofs.Keeps.{step_keeps}
use Rattle.ledger.proofs.General.{mode_of, general_count, held_pairs}
use Rattle.ledger.proofs.Tied.{returned_step}
use Rattle.ledger.proofs.OneRun.{same_state}

-- the ledger speaks of the engine
abbrev pub Speaks : Cgb → Standing → Type 0
Speaks s (running k l) = Match k (core_of s) l

-- what holds of a state, its ledger and the pairs since the last accepted fall, at every place of a run
pub record RunInvariant (s : Cgb) (w : Standing) (n : ℕ) : Type 0 where
  pub speaks : Speaks s w
  pub budget : n + quota s ≤ 2
  pub reached : unreached s ≡ false

abbrev event : Call → Outcome → Event
event c o = record { call = c; reply = o.reply }

pub at_start : (k : Configuration) → RunInvariant (power_on_of k.compat) (running k empty) 0
unfolding power_on_of dma_at_rest empty Balanced unreached
at_start k =
    record {
      speaks = record {
        locked = refl;
        source = refl;
        dest = refl;
        left = refl;
        free = refl;
        source_bound = lit< tt;
        dest_bound = lit< tt;
        balance = refl;
      };
      budget = omega arith;
      reached = refl;
    }

-- the laws of one call, wherever the ledger stands
laws :
    (s : Cgb) (k : Configuration) (l : Ledger) (n : ℕ) → RunInvariant s (running k l) n → (c : Call) →
    CallLaws k l n (ledger_input c) (step s c)
laws s k l n i c = keeps k s l n (record { agree = i.speaks; budget = i.budget }) c

pub after_call :
    (s : Cgb) (w : Standing) (n : ℕ) → RunInvariant s w n → (c : Call) →
    RunInvariant (step s c).state (enters w (event c (step s c))) (since n (ledger_input c) (step s c).reply)
after_call s (running k l) n i c =
    let held = (laws s k l n i c).holds in
    record { speaks = held.agree; budget = held.budget; reached = step_keeps s i.reached c }

refilled :
    (s : Cgb) (w : Standing) (n : ℕ) → RunInvariant s w n → (c : Call) → is_fall (ledger_input c) ≡ true →
    accepts (step s c).reply ≡ true →
    quota (step s c).state ≡ quota_of (moving_of (step s c).state.vram_dma) (step s c).state.double_speed
refilled s (running k l) n i c = (laws s k l n i c).refill

pub invariant : {h : History} {s : Cgb} → RunsTo h s → RunInvariant s (ledger_of h) (pairs_since_fall h)
unfolding ledger_of pairs_since_fall
invariant (at_power_on k s g) = subst (λ (x : Cgb). RunInvariant x (running k empty) 0) (sym g.told) (at_start k)
invariant (called {h = h} {s = s} c o r returned) =
    subst
    (λ (x : Outcome). RunInvariant x.state (enters (ledger_of h) (event c x)) (since (pairs_since_fall h) (ledger_input c) x.reply))
    (sym (returned_step returned)) (after_call s (ledger_of h) (pairs_since_fall h) (invariant r) c)

-- the same of a ledger that is written out
pub speaks : {h : History} {s : Cgb} → RunsTo h s → (k : Configuration) (l : Ledger) → ledger_of h ≡ running k l → Match k (core_of s) l
speaks {s = s} r k l p = subst (Speaks s) p (invariant r).speaks

next :
    (h : History) (e : Event) (s : Cgb) → RunsTo (then h e) s → (k : Configuration) (l : Ledger) → ledger_of h ≡ running k l →
    accepts e.reply ≡ true → NextPairs (effect k (ledger_input e.call) e.reply l) e.reply.pairs
next h e s (called {s = t} c o r returned) k l p =
    subst (λ (x : Outcome). accepts x.reply ≡ true → NextPairs (effect k (ledger_input c) x.reply l) x.reply.pairs)
    (sym (returned_step returned))
    (keeps k t l (pairs_since_fall h) (record { agree = speaks r k l p; budget = (invariant r).budget }) c).next

none : (h : History) (e : Event) (s : Cgb) → RunsTo (then h e) s → accepts e.reply ≡ false → e.reply.pairs ≡ []
none h e s (called {s = t} c o r returned) =
    subst (λ (x : Outcome). accepts x.reply ≡ false → x.reply.pairs ≡ []) (sym (returned_step returned))
    (λ refused. ap (λ (x : Outcome). x.reply.pairs) (answer.refused t c refused))

-- the run's own state in front of the call, which is the history's
stays :
    (h : History) (e : Event) (before after : Cgb) → RunsTo h before → RunsTo (then h e) after → accepts e.reply ≡ false →
    after ≡ before
stays h e before after front (called {s = t} c o r returned) refused =
    subst (λ (x : Outcome). accepts x.reply ≡ false → x.state ≡ t) (sym (returned_step returned))
    (λ no_pair_lem. ap (λ (x : Outcome). x.state) (answer.refused t c no_pair_lem)) refused ∙ same_state r front

-- an accepted fall has refilled the quota
pub fresh :
    (h : History) (f : Event) (s : Cgb) → RunsTo (then h f) s → accepted_fall f ≡ true →
    quota s ≡ quota_of (moving_of s.vram_dma) s.double_speed
fresh h f s (called {s = t} c o r returned) =
    subst
    (λ (x : Outcome). (accepts x.reply && is_fall (ledger_input c)) ≡ true →
    quota x.state ≡ quota_of (moving_of x.state.vram_dma) x.state.double_speed)
    (sym (returned_step returned))
    (λ both.
    let parts = and_parts accepted is_fall_here both in
    refilled t (ledger_of h) (pairs_since_fall h) (invariant r) c parts.1 parts.0)
  where
    accepted : Bool
    accepted = accepts (step t c).reply

    is_fall_here : Bool
    is_fall_here = is_fall (ledger_input c)

-- the pairs of a bus call, by what it gives
of_bus :
    (s : Cgb) → unreached s ≡ false → quota s ≡ quota_of (moving_of s.vram_dma) s.double_speed →
    (i : BusInput) (n : Lengths) (o : Outcome) → o ≡ step s (bus_call i n) → accepts o.reply ≡ true →
    holds_bus i ≡ true → (left : ℕ) → asked s (engine_status s) ≡ Ok (dma.General left) → setup_stands s.vram_dma ≡ false →
    length o.reply.pairs ≡ general_pairs s
unfolding step
of_bus s passes q i n o is accepted held left general no_cell =
    let a : eqb (number_of (bus_refusal s n)) 0 ≡ true = sym (ap (λ (x : Outcome). accepts x.reply) is) ∙ accepted in
    let none : bus_refusal s n ≡ None = number_none (bus_refusal s n) (eqb-true (number_of (bus_refusal s n)) 0 a) in
    ap (λ (x : Outcome). length x.reply.pairs) is
    ∙ ap (λ (ps : List BytePair). length ps) (held_pairs s i n none held no_cell)
    ∙ general_count s passes q (mode_of s left general)

-- a bus call from inside is the bus call with the state's start edge
inside_is : (s : Cgb) (i : HoldInput) (n : Lengths) → step s (bus_call_inside i n) ≡ step s (bus_call (inside_bus s i) n)
unfolding step
inside_is s i n = refl

pub at_bus :
    (s : Cgb) → unreached s ≡ false → quota s ≡ quota_of (moving_of s.vram_dma) s.double_speed →
    (c : Call) (i : BusInput) → BusCall s c i → (o : Outcome) → Returned s c o → accepts o.reply ≡ true →
    holds_bus i ≡ true → (left : ℕ) → asked s (engine_status s) ≡ Ok (dma.General left) → setup_stands s.vram_dma ≡ false →
    length o.reply.pairs ≡ general_pairs s
at_bus s passes q c i (from_outside j n) o r = of_bus s passes q j n o (returned_step r)
at_bus s passes q c i (from_inside j n) o r = of_bus s passes q (inside_bus s j) n o (returned_step r ∙ inside_is s j n)

-- each pointer is the ledger's, whose width is kept
widths : (s : Cgb) (w : Standing) → Speaks s w → (s.vram_dma.cursor.source < 65536) × (s.vram_dma.cursor.dest < 65536)
widths s (running k l) m = (omega (arith, m.source, m.source_bound), omega (arith, m.dest, m.dest_bound))

never : (h : History) (e : Event) (s : Cgb) → RunsTo (then h e) s → e.reply.number ≡ 7 → ⊥
never h e s (called {s = t} c o r returned) =
    subst (λ (x : Outcome). x.reply.number ≡ 7 → ⊥) (sym (returned_step returned)) (answer.never_7 t (invariant r).reached c)

pub demand3 : Demand3
demand3 =
    record {
      next_of_ledger = next;
      refused_none = none;
      refused_state = stays;
      same_left = λ h s r k l p. (speaks r k l p).left;
      balance = λ h s r k l p. (speaks r k l p).balance;
      at_most_two = λ h s r. omega (arith, (invariant r).budget);
      general = λ h f s r a. at_bus s (invariant r).reached (fresh h f s r a);
      same_pointers = λ h s r k l p. let m = speaks r k l p in (m.source, m.dest, m.free);
      pointer_widths = λ h s r. widths s (ledger_of h) (invariant r).speaks;
      never_7 = never;
    }
