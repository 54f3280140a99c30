-- What a General transfer takes (specs, `Exactly`, `Takes`), of every run. Assumes nothing.
use Prim.Native.Nat.{ℕ, ◌+◌, ◌-◌, ◌*◌, ◌%◌, ◌≤◌, ◌<◌, min}
use native.Mathlib.Omega.{arith}
use mathlib.Core.Path.{◌≡◌, sym, ap, subst, ◌∙◌}
use mathlib.Core.Bool.{Bool, true, false}
use mathlib.Core.List.{List}
use mathlib.Core.Logic.{⊎_elim}
use native.Mathlib.Nat.{eq-zero-or-pos}
use Rattle.console.specs.Modes.{is_hblank}
use Rattle.console.specs.Reached.{unreached}
use Rattle.console.specs.declared.Cgb.{Cgb}
use Rattle.bus.specs.Commit.{setup_stands}
use Rattle.fall_stages.specs.declared.FallInput.{FallInput}
use Rattle.transfer.specs.declared.pair.BytePair.{BytePair}
use Rattle.ledger.specs.LedgerInput.{accepts}
use Rattle.ledger.specs.Ledger.{Ledger, after_length}
use Rattle.ledger.specs.Calls.{Call, Outcome, fall, step}
use Rattle.ledger.specs.Code.{Returned}
use Rattle.ledger.specs.Demand3.{Event, History, then, RunsTo}
use Rattle.ledger.proofs.OneRun.{same_state}
use Rattle.ledger.proofs.Theorem.{invariant, demand3}
use Rattle.ledger.proofs.Tied.{returned_step}
use Rattle.general_time.specs.Rounds.{Starts, Rounds, none, fall_alone, round, InWords, FirstClear, in_order}
use Rattle.general_time.specs.GeneralTime.{left, transfer_bytes, transfer_cycles, Exactly, Takes}
use Rattle.general_time.proofs.Behind.{owing}
use Rattle.general_time.proofs.Count.{Count, done, needed}
use Rattle.general_time.proofs.Going.{Going, in_general, in_idle, going_in, some_left, unarmed}
use Rattle.general_time.proofs.Going.{fell_going, fell_cell, fall_accepted, moved_going, moved_cell}
use Rattle.general_time.proofs.Rounds.{last, fall_ledger, Serving, Reaches, reaches}
use Rattle.general_time.proofs.Started.{at_start}

-- what holds of the state at a bus call holds of another's
map_rounds :
    {A B : ℕ → Cgb → Type 0} {h g : History} {k : ℕ} {ps : List BytePair} → ((j : ℕ) (s : Cgb) → A j s → B j s) → Rounds A h k ps g →
    Rounds B h k ps g
map_rounds f none = none
map_rounds f (fall_alone before i e is_fall_here ok) = fall_alone (map_rounds f before) i e is_fall_here ok
map_rounds f (round {k = k} before i e is_fall_here ok s run at j b bus taken held) =
    round (map_rounds f before) i e is_fall_here ok s run (f k s at) j b bus taken held

-- ---- no set-up cell at the first bus call: none at any, and the mode is General while something is left
record Passing (k : ℕ) (s : Cgb) : Type 0 where
  passes : unreached s ≡ false
  going : Going s.vram_dma
  clear : setup_stands s.vram_dma ≡ false

record Kept (h : History) (k : ℕ) (ps : List BytePair) (g : History) (u : Cgb) : Type 0 where
  rounds : Rounds Passing h k ps g
  going : Going u.vram_dma
  clear : 0 < k → setup_stands u.vram_dma ≡ false

module _
    {k : ℕ} {g : History} (t : Cgb) (runs : RunsTo g t) (going : Going t.vram_dma) (clear : 0 < k → setup_stands t.vram_dma ≡ false)
    (i : FallInput) (f : Event) (s : Cgb) (is : s ≡ (step t (fall i)).state) (run : RunsTo (then g f) s) (first : FirstClear k s) where
  at_bus : Passing k s
  at_bus =
      record {
        passes = (invariant run).reached;
        going = subst (λ (x : Cgb). Going x.vram_dma) (sym is) (fell_going t i going);
        clear = ⊎_elim first (λ later. ap (λ (x : Cgb). setup_stands x.vram_dma) is ∙ fell_cell t i free (clear later)) (eq-zero-or-pos k);
      }
    where
      free : is_hblank t.vram_dma.cursor.mode ≡ false
      free = unarmed t (invariant runs).reached going

kept :
    {h g : History} {k : ℕ} {ps : List BytePair} → ((s : Cgb) → RunsTo h s → Going s.vram_dma) → Rounds FirstClear h k ps g →
    (u : Cgb) → RunsTo g u → Kept h k ps g u
kept start none u r = record { rounds = none; going = start u r; clear = λ some. absurd (omega (arith, some)) }
kept {h = h} start (fall_alone {k = k} {ps = ps} {g = g} before i f is_fall_here ok) u r =
    let e = last r in
    let x : Kept h k ps g e.before = kept start before e.before e.runs in
    let fell = e.state ∙ ap (λ (c : Call). (step e.before c).state) is_fall_here in
    let free = unarmed e.before (invariant e.runs).reached x.going in
    record {
      rounds = fall_alone x.rounds i f is_fall_here ok;
      going = subst (λ (y : Cgb). Going y.vram_dma) (sym fell) (fell_going e.before i x.going);
      clear = λ some. ap (λ (y : Cgb). setup_stands y.vram_dma) fell ∙ fell_cell e.before i free (x.clear some);
    }
kept {h = h} start (round {k = k} {ps = ps} {g = g} before i f is_fall_here ok s run first j b bus taken held) u r =
    let e = last run in
    let x : Kept h k ps g e.before = kept start before e.before e.runs in
    let fell = e.state ∙ ap (λ (c : Call). (step e.before c).state) is_fall_here in
    let at : Passing k s = at_bus e.before e.runs x.going x.clear i f s fell run first in
    let moved = (last r).state ∙ ap (λ (y : Cgb). (step y b.call).state) (same_state (last r).runs run) in
    record {
      rounds = round x.rounds i f is_fall_here ok s run at j b bus taken held;
      going = subst (λ (y : Cgb). Going y.vram_dma) (sym moved) (moved_going s bus at.going);
      clear = λ some. ap (λ (y : Cgb). setup_stands y.vram_dma) moved ∙ moved_cell s bus at.clear;
    }

serves : (k : ℕ) (s : Cgb) → Passing k s → Serving k s
serves k s p some = record { general = in_general s p.passes p.going some; no_cell = p.clear }

-- ---- left is 0 exactly where nothing is owed
owed_zero : (r d : ℕ) → r ≡ 0 → min r (65536 - d) ≡ 0
owed_zero r d z = omega arith

left_zero : (r d : ℕ) → d < 65536 → min r (65536 - d) ≡ 0 → r ≡ 0
left_zero r d h z = omega arith

module _ {h : History} {l : Ledger} {double : Bool} {v : ℕ} {w : Event} (b : Starts h l double v w) where
  -- the transfer goes on from the write
  started_going : (s : Cgb) → RunsTo (then h w) s → Going s.vram_dma
  started_going s r = subst (λ (x : Cgb). Going x.vram_dma) (same_state b.started r) (going_in b.after b.general)

  module _ {k : ℕ} {ps : List BytePair} {g : History} (rounds : Rounds FirstClear (then h w) k ps g) (u : Cgb) (r : RunsTo g u) where
    along : Kept (then h w) k ps g u
    along = kept started_going rounds u r

    there : Reaches (after_length (16 * (v % 128 + 1)) l) double k ps g u
    there = reaches _ double (at_start b) (map_rounds serves along.rounds) u r

    counted : Count double (transfer_bytes l v) k there.n (owing there.ledger)
    counted = record { come = there.count; owed = there.behind.owed }

    same : left u ≡ there.ledger.left
    same = demand3.same_left g u r there.configuration there.ledger there.stands

    ends : transfer_cycles l double v ≤ k → left u ≡ 0
    ends h =
        let none = done double (transfer_bytes l v) k there.n (owing there.ledger) counted h in
        same ∙ left_zero there.ledger.left there.ledger.dest there.behind.bound none

    not_before : left u ≡ 0 → transfer_cycles l double v ≤ k
    not_before z =
        needed double (transfer_bytes l v) k there.n (owing there.ledger) counted
        (owed_zero there.ledger.left there.ledger.dest (sym same ∙ z))

    pairs_all : left u ≡ 0 → ps ≡ in_order (transfer_bytes l v) l.source l.dest
    pairs_all z =
        let whole = there.behind.owed in
        let over = owed_zero there.ledger.left there.ledger.dest (sym same ∙ z) in
        let n : there.n ≡ transfer_bytes l v = omega (arith, whole, over) in
        there.behind.pairs ∙ ap (λ (n : ℕ). in_order n l.source l.dest) n

    -- before the end something is left
    more : k < transfer_cycles l double v → 0 < left u
    more early = ⊎_elim (λ z. let over = not_before z in absurd (omega (arith, over, early))) (λ some. some) (eq-zero-or-pos (left u))

    pub takes : Takes l double v k ps u
    takes =
        record {
          over = (not_before, ends);
          so_far = there.behind.pairs ∙ ap (λ (n : ℕ). in_order n l.source l.dest) there.count;
          all = pairs_all;
          speed = there.speed;
          general = λ early. in_general u (invariant r).reached along.going (more early);
          idle = λ over. in_idle u (invariant r).reached (ends over);
        }

    -- what is left at the next bus call is what was left in front of its fall
    left_at_bus : (i : FallInput) (f : Event) (s : Cgb) → f.call ≡ fall i → RunsTo (then g f) s → left s ≡ left u
    left_at_bus i f s is run =
        demand3.same_left (then g f) s run there.configuration there.ledger
        (fall_ledger g f i s is run there.configuration there.ledger there.stands)
        ∙ sym same

    pub falls_accepted : (i : FallInput) → i.mode ≤ 3 → (o : Outcome) → Returned u (fall i) o → accepts o.reply ≡ true
    falls_accepted i mode o returned =
        let passes = (invariant r).reached in
        ap (λ (x : Outcome). accepts x.reply) (returned_step returned) ∙ fall_accepted u i passes (unarmed u passes along.going) mode

  -- ---- A5's words
  first_clear : {k : ℕ} {ps : List BytePair} {g : History} → Rounds InWords (then h w) k ps g → Rounds FirstClear (then h w) k ps g
  first_clear = map_rounds (λ k s at first. at.no_cell)

  -- a bus call in status General has something left, so that no round comes after the last
  no_more : {k : ℕ} {ps : List BytePair} {g : History} → Rounds InWords (then h w) k ps g → k ≤ transfer_cycles l double v
  no_more none = omega arith
  no_more (fall_alone before i f is_fall_here ok) = no_more before
  no_more (round {k = k} before i f is_fall_here ok s run at j e bus taken held) =
      let t = last run in
      let some = some_left s (invariant run).reached at.general in
      let same = left_at_bus (first_clear before) t.before t.runs i f s is_fall_here run in
      let early : transfer_cycles l double v ≤ k → ⊥ =
      λ over. let z = ends (first_clear before) t.before t.runs over in omega (arith, z, same, some) in
      omega (arith, early)

  pub exactly : {k : ℕ} {ps : List BytePair} {g : History} → Rounds InWords (then h w) k ps g → (u : Cgb) → RunsTo g u → Exactly l double v k ps u
  exactly rounds u r =
      let x = takes (first_clear rounds) u r in
      let most = no_more rounds in
      record {
        over = (λ z. let least = x.over.0 z in omega (arith, least, most), λ is. x.over.1 (omega (arith, is)));
        pairs = x.all;
      }

  -- and they follow
  pub in_words :
      {k : ℕ} {ps : List BytePair} {g : History} → Rounds FirstClear (then h w) k ps g → k ≤ transfer_cycles l double v →
      Rounds InWords (then h w) k ps g
  in_words none most = none
  in_words (fall_alone before i f is_fall_here ok) most = fall_alone (in_words before most) i f is_fall_here ok
  in_words (round {k = k} before i f is_fall_here ok s run first j e bus taken held) most =
      let t = last run in
      let x = along before t.before t.runs in
      let fell = t.state ∙ ap (λ (c : Call). (step t.before c).state) is_fall_here in
      let at : Passing k s = at_bus t.before t.runs x.going x.clear i f s fell run first in
      let some = more before t.before t.runs (omega (arith, most)) in
      let same = left_at_bus before t.before t.runs i f s is_fall_here run in
      round (in_words before (omega (arith, most))) i f is_fall_here ok s run (serves k s at (omega (arith, same, some))) j e bus taken held
