-- Rounds in which each bus call that has something left serves, counted along the ledger (demand 3 says how many pairs each hands out).
-- Assumes nothing.
use Prim.Native.Nat.{ℕ, suc, ◌+◌, ◌-◌, ◌*◌, ◌<◌, min}
use native.Mathlib.Omega.{arith}
use mathlib.Core.Path.{◌≡◌, refl, sym, ap, subst, ◌∙◌}
use mathlib.Core.Bool.{Bool, true, false, cond}
use mathlib.Core.List.{List, [], ◌++◌}
use mathlib.Core.Logic.{⊎_elim}
use native.Mathlib.Nat.{eq-zero-or-pos}
use lib.ListN.{length}
use Rattle.console.specs.declared.Cgb.{Cgb}
use Rattle.bus.specs.Commit.{holds_bus}
use Rattle.bus.specs.declared.commit.BusInput.{BusInput}
use Rattle.fall_stages.specs.declared.FallInput.{FallInput}
use Rattle.transfer.specs.declared.pair.BytePair.{BytePair}
use Rattle.transfer.proofs.PairsLeft.{pairs_left_lem}
use Rattle.engine.specs.Calls.{fallen_state}
use Rattle.ledger.specs.LedgerInput.{Configuration, Reply, accepts}
use Rattle.ledger.specs.Ledger.{Ledger, after_pairs, after_call, effect}
use Rattle.ledger.specs.Calls.{Call, Outcome, fall, bus_call, bus_call_inside, BusCall, from_outside, from_inside, step, ledger_input}
use Rattle.ledger.specs.Code.{Returned}
use Rattle.ledger.specs.Demand3.{Event, History, then, RunsTo, called, Standing, running, enters, ledger_of, accepted_fall, general_pairs, NextPairs}
use Rattle.ledger.proofs.AcceptedOrDeclined.{either_way}
use Rattle.ledger.proofs.OneRun.{same_state}
use Rattle.ledger.proofs.Theorem.{demand3}
use Rattle.ledger.proofs.Tied.{returned_step}
use Rattle.general_time.specs.Rounds.{Rounds, none, fall_alone, round, InWords}
use Rattle.general_time.specs.GeneralTime.{left}
use Rattle.general_time.proofs.Behind.{owing, Behind, behind, none_left}
use Rattle.general_time.proofs.Count.{rate, more}

-- ---- the last call of a run
pub record Last (h : History) (e : Event) (s : Cgb) : Type 0 where
  pub before : Cgb
  pub runs : RunsTo h before
  pub reply : e.reply ≡ (step before e.call).reply
  pub state : s ≡ (step before e.call).state
  pub outcome : Outcome
  pub returned : Returned before e.call outcome
  pub answered : outcome.reply ≡ e.reply

pub last : {h : History} {e : Event} {s : Cgb} → RunsTo (then h e) s → Last h e s
last (called {s = t} c o r returned) =
    let is = returned_step returned in
    record {
      before = t;
      runs = r;
      reply = ap (λ (x : Outcome). x.reply) is;
      state = ap (λ (x : Outcome). x.state) is;
      outcome = o;
      returned = returned;
      answered = refl;
    }

-- ---- what a fall and a bus call leave alone
same_either : {A : Type 0} (b : Bool) (x : A) → cond b x x ≡ x
same_either true x = refl
same_either false x = refl

no_pairs : (s : Cgb) (i : FallInput) → (step s (fall i)).reply.pairs ≡ []
unfolding step
no_pairs s i = refl

fall_keeps : (k : Configuration) (r : Reply) (l : Ledger) (i : FallInput) → r.pairs ≡ [] → after_call k (ledger_input (fall i)) r l ≡ l
unfolding after_call after_pairs ledger_input
fall_keeps k r l i e = ap (λ (ps : List BytePair). cond (accepts r) (after_pairs ps l) l) e ∙ same_either (accepts r) l

-- the ledger after a fall is the one in front of it
pub fall_ledger :
    (g : History) (f : Event) (i : FallInput) (s : Cgb) → f.call ≡ fall i → RunsTo (then g f) s →
    (k : Configuration) (l : Ledger) → ledger_of g ≡ running k l → ledger_of (then g f) ≡ running k l
unfolding ledger_of
fall_ledger g f i s is r k l stands =
    let e = last r in
    let none : f.reply.pairs ≡ [] =
    ap (λ (x : Reply). x.pairs) e.reply ∙ ap (λ (c : Call). (step e.before c).reply.pairs) is ∙ no_pairs e.before i in
    ap (λ (x : Standing). enters x f) stands
    ∙ ap (λ (c : Call). running k (after_call k (ledger_input c) f.reply l)) is
    ∙ ap (running k) (fall_keeps k f.reply l i none)

bus_effect : {s : Cgb} {c : Call} {j : BusInput} → BusCall s c j → (k : Configuration) (r : Reply) (l : Ledger) → effect k (ledger_input c) r l ≡ l
unfolding ledger_input
bus_effect (from_outside j n) k r l = refl
bus_effect (from_inside j n) k r l = refl

bus_enters :
    {s : Cgb} {c : Call} {j : BusInput} → BusCall s c j → (k : Configuration) (r : Reply) (l : Ledger) → accepts r ≡ true →
    after_call k (ledger_input c) r l ≡ after_pairs r.pairs l
unfolding after_call
bus_enters bus k r l ok = rw (ok, bus_effect bus k r l)

pub fall_speed : (s : Cgb) (i : FallInput) → (step s (fall i)).state.double_speed ≡ s.double_speed
unfolding fallen_state
fall_speed s i = either_way s (λ (o : Outcome). o.state.double_speed ≡ s.double_speed) (fall i) (λ n. refl) (λ n. refl)

bus_speed : (s : Cgb) {c : Call} {j : BusInput} → BusCall s c j → (step s c).state.double_speed ≡ s.double_speed
bus_speed s (from_outside j n) =
    either_way s (λ (o : Outcome). o.state.double_speed ≡ s.double_speed) (bus_call j n) (λ n. refl) (λ n. refl)
bus_speed s (from_inside j n) =
    either_way s (λ (o : Outcome). o.state.double_speed ≡ s.double_speed) (bus_call_inside j n) (λ n. refl) (λ n. refl)

pub fell_speed :
    (g : History) (f : Event) (i : FallInput) (s : Cgb) → f.call ≡ fall i → (r : RunsTo (then g f) s) →
    s.double_speed ≡ (last r).before.double_speed
fell_speed g f i s is r =
    let e = last r in
    ap (λ (x : Cgb). x.double_speed) e.state
    ∙ ap (λ (c : Call). (step e.before c).state.double_speed) is
    ∙ fall_speed e.before i

-- ---- how many pairs a bus call hands out
least_one : (left dest : ℕ) → 0 < left → dest < 65536 → 1 ≡ min 1 (min left (65536 - dest))
least_one left dest some bound = omega arith

none_owed : (double : Bool) (left dest : ℕ) → left ≡ 0 → 0 ≡ min (rate double) (min left (65536 - dest))
none_owed true left dest z = omega arith
none_owed false left dest z = omega arith

general_count :
    (s : Cgb) (double : Bool) (l : Ledger) → s.double_speed ≡ double → left s ≡ l.left → s.vram_dma.cursor.dest ≡ l.dest →
    s.vram_dma.cursor.escape_byte ≡ false → 0 < l.left → l.dest < 65536 → general_pairs s ≡ min (rate double) (owing l)
general_count s true l speed same dest unowed some bound = rw speed (least_one l.left l.dest some bound)
general_count s false l speed same dest unowed some bound =
    let d = s.vram_dma in
    let low : d.cursor.dest < 65536 = omega (arith, dest, bound) in
    let more : 0 < d.cursor.remaining = omega (arith, same, some) in
    rw speed
    (sym ((pairs_left_lem d low).of_two more)
    ∙ ap (min 2) ((pairs_left_lem d low).unowed unowed)
    ∙ ap (λ (x : ℕ). min 2 (min x (65536 - d.cursor.dest))) same
    ∙ ap (λ (x : ℕ). min 2 (min l.left (65536 - x))) dest)

-- ---- rounds
-- a bus call that has something left serves
abbrev pub Serving : ℕ → Cgb → Type 0
Serving k s = 0 < left s → InWords k s

-- k rounds behind the ledger l0
pub record Reaches (l0 : Ledger) (double : Bool) (k : ℕ) (ps : List BytePair) (g : History) (u : Cgb) : Type 0 where
  pub configuration : Configuration
  pub ledger : Ledger
  pub stands : ledger_of g ≡ running configuration ledger
  pub n : ℕ
  pub behind : Behind l0 n ps ledger
  pub count : n ≡ min (rate double * k) (owing l0)
  pub speed : u.double_speed ≡ double

-- one round: at s a fall was, and the bus call leaves u
module _
    (l0 : Ledger) (double : Bool) (k : ℕ) (ps : List BytePair) (g : History) (t : Cgb) (w : Reaches l0 double k ps g t)
    (i : FallInput) (f : Event) (is_fall_here : f.call ≡ fall i) (ok : accepts f.reply ≡ true) (s : Cgb) (run : RunsTo (then g f) s)
    (same : s.double_speed ≡ t.double_speed) (at : Serving k s) where
  stands : ledger_of (then g f) ≡ running w.configuration w.ledger
  stands = fall_ledger g f i s is_fall_here run w.configuration w.ledger w.stands

  fell : accepted_fall f ≡ true
  unfolding ledger_input
  fell = rw (is_fall_here, ok)

  module _ (j : BusInput) (b : Event) (bus : BusCall s b.call j) (taken : accepts b.reply ≡ true) (held : holds_bus j ≡ true) where
    abbrev Rated : Type 0
    Rated = length b.reply.pairs ≡ min (rate double) (owing w.ledger)

    -- demand 3's General clause
    pairs : (o : Outcome) → Returned s b.call o → o.reply ≡ b.reply → 0 < w.ledger.left → Rated
    pairs o returned is some =
        let l = w.ledger in
        let k = w.configuration in
        let same_left = demand3.same_left (then g f) s run k l stands in
        let pointers = demand3.same_pointers (then g f) s run k l stands in
        let words = at (omega (arith, same_left, some)) in
        let status = words.general in
        let accepted = ap accepts is ∙ taken in
        ap (λ (r : Reply). length r.pairs) (sym is)
        ∙ demand3.general g f s run fell b.call j bus o returned accepted held status.left status.status words.no_cell
        ∙ general_count s double l (same ∙ w.speed) same_left pointers.1 (pointers.2 ∙ w.behind.unowed) some w.behind.bound

    next : (u : Cgb) → RunsTo (then (then g f) b) u → Reaches l0 double (suc k) (ps ++ b.reply.pairs) (then (then g f) b) u
    unfolding ledger_of
    next u r =
        let e = last r in
        let here : e.before ≡ s = same_state e.runs run in
        let l = w.ledger in
        let c = w.configuration in
        let returned : Returned s b.call e.outcome = subst (λ (x : Cgb). Returned x b.call e.outcome) here e.returned in
        let next_pairs : NextPairs l b.reply.pairs =
        subst (λ (x : Ledger). NextPairs x b.reply.pairs) (bus_effect bus c b.reply l)
        (demand3.next_of_ledger (then g f) b u r c l stands taken) in
        let rated : Rated = ⊎_elim (λ z. none z next_pairs) (pairs e.outcome returned e.answered) (eq-zero-or-pos l.left) in
        let moved = e.state ∙ ap (λ (x : Cgb). (step x b.call).state) here in
        record {
          configuration = c;
          ledger = after_pairs b.reply.pairs l;
          stands = ap (λ (x : Standing). enters x b) stands ∙ ap (running c) (bus_enters bus c b.reply l taken);
          n = w.n + length b.reply.pairs;
          behind = behind l0 w.n ps l b.reply.pairs w.behind next_pairs;
          count = more double (owing l0) k w.n (owing l) _ (record { come = w.count; owed = w.behind.owed }) rated;
          speed = ap (λ (x : Cgb). x.double_speed) moved ∙ bus_speed s bus ∙ same ∙ w.speed;
        }
      where
        none : w.ledger.left ≡ 0 → NextPairs w.ledger b.reply.pairs → Rated
        none z ps = ap length (none_left w.ledger b.reply.pairs z ps) ∙ none_owed double w.ledger.left w.ledger.dest z

pub reaches :
    {h g : History} {k : ℕ} {ps : List BytePair} (l0 : Ledger) (double : Bool) → ((s : Cgb) → RunsTo h s → Reaches l0 double 0 [] h s) →
    Rounds Serving h k ps g → (u : Cgb) → RunsTo g u → Reaches l0 double k ps g u
reaches l0 double start none u r = start u r
reaches l0 double start (fall_alone {k = k} {ps = ps} {g = g} before i f is_fall_here ok) u r =
    let t = (last r).before in
    let w : Reaches l0 double k ps g t = reaches l0 double start before t (last r).runs in
    record {
      configuration = w.configuration;
      ledger = w.ledger;
      stands = fall_ledger g f i u is_fall_here r w.configuration w.ledger w.stands;
      n = w.n;
      behind = w.behind;
      count = w.count;
      speed = fell_speed g f i u is_fall_here r ∙ w.speed;
    }
reaches l0 double start (round {k = k} {ps = ps} {g = g} before i f is_fall_here ok s run at j b bus taken held) u r =
    let t = (last run).before in
    let w : Reaches l0 double k ps g t = reaches l0 double start before t (last run).runs in
    next l0 double k ps g t w i f is_fall_here ok s run (fell_speed g f i s is_fall_here run) at j b bus taken held u r
