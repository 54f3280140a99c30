-- Pairs, in the engine and in the ledger: each pair is the ledger's next, and both go on alike. Assumes nothing.
use Prim.Native.Nat.{ℕ, zero, suc, ◌+◌, ◌-◌, ◌%◌, ◌<◌}
use native.Mathlib.Omega.{arith}
use mathlib.Core.Path.{◌≡◌, refl, sym, ap, subst, ◌∙◌}
use mathlib.Core.Bool.{Bool, true, false, cond, not, ◌&&◌, false≢true}
use mathlib.Core.List.{List, [], ◌∷◌}
use mathlib.Core.Logic.{◌⊎◌, inl, inr, ⊎_elim}
use native.Mathlib.Nat.{eq-zero-or-pos}
use lib.Dec.{ltb, eqb, lit<}
use lib.ListN.{length}
use borrow.Author.Tests.{ltb-true, ltb-false, eqb-true, eqb-false, eq-eqb, ne_eqb}
use Rattle.std.specs.Prelude.{Some, None}
use Rattle.console.specs.declared.vram_dma.VramDma.{VramDma}
use Rattle.bus.specs.Commit.{Taken, after_answer, taken_of, pairs_of, bus_taken}
use Rattle.bus.specs.declared.commit.BusInput.{BusInput}
use Rattle.transfer.specs.Pair.{NextAnswer, moving_of, pair_of, cause_if, cause_of, advanced_of, next_byte_of, with_quota, drain_of}
use Rattle.transfer.specs.PairSteps.{Ready, Moved}
use Rattle.transfer.specs.declared.pair.BytePair.{BytePair}
use Rattle.transfer.specs.declared.pair.Cause.{Cause}
use Rattle.transfer.specs.declared.pair.Cause.TheVariants.{GoingOn, CountedOut, Carried}
use Rattle.transfer.specs.declared.pair.NextByte.{NextByte}
use Rattle.transfer.proofs.PairSteps.{pair_steps, steps, drained}
use Rattle.ledger.specs.LedgerInput.{Configuration}
use Rattle.ledger.specs.Ledger.{Ledger, IsNext, after_pair, after_pairs}
use Rattle.ledger.specs.Causes.{cause_in, CausesFollow, no_cause, one_cause}
use Rattle.ledger.specs.Demand3.{NextPairs, no_more, one_more, Balanced}
use Rattle.ledger.proofs.AcceptedOrDeclined as answer
use Rattle.ledger.proofs.BusKinds.{of_each}
use Rattle.ledger.proofs.Core.{Core, under}

-- the ledger speaks of the engine as it stands, and balances; source and destination are 16-bit registers
pub record Match (k : Configuration) (c : Core) (l : Ledger) : Type 0 where
  pub locked : c.locked ≡ k.compat
  pub source : c.source ≡ l.source
  pub dest : c.dest ≡ l.dest
  pub left : c.left ≡ l.left
  pub free : c.free ≡ l.free
  pub source_bound : l.source < 65536
  pub dest_bound : l.dest < 65536
  pub balance : Balanced l

-- these pairs, handed out at a quota of q with these causes, were the ledger's; the engine is then at e
pub record PairsMatch (k : Configuration) (locked : Bool) (l : Ledger) (q : ℕ) (ps : List BytePair) (ks : List Cause) (e : VramDma) : Type 0 where
  pub next : NextPairs l ps
  pub caused : CausesFollow l ps ks
  pub agree : Match k (under locked e.cursor) (after_pairs ps l)
  pub quota : length ps + e.cursor.quota ≡ q

-- the pair's part of the balance, by its two tests
balance_pair :
    (free carries : Bool) (lengths frees pairs over off left : ℕ) → 0 < left → lengths + frees ≡ pairs + over + off + left →
    lengths + (frees + cond free 1 0) ≡ (pairs + 1) + over + (off + cond carries (cond free left (left - 1)) 0) + cond carries 0 (cond free left (left - 1))
balance_pair true true lengths frees pairs over off left h e = omega arith
balance_pair true false lengths frees pairs over off left h e = omega arith
balance_pair false true lengths frees pairs over off left h e = omega arith
balance_pair false false lengths frees pairs over off left h e = omega arith

-- the engine takes a pair, or there is none and nothing changes
decide : (d : VramDma) → Ready d ⊎ (next_byte_of d ≡ record { answer = None; dma = d })
decide d = by (ltb 0 d.cursor.quota) (moving_of d) refl refl
  where
    by : (q m : Bool) → ltb 0 d.cursor.quota ≡ q → moving_of d ≡ m → Ready d ⊎ (next_byte_of d ≡ record { answer = None; dma = d })
    by true true q m = inl (record { quota = ltb-true _ _ q; moving = m })
    by false m q h = inr (pair_steps.no_quota d (let none = ltb-false 0 d.cursor.quota q in omega arith))
    by true false q h = inr (pair_steps.not_moving d h)

-- a pair that counts takes the last exactly where 1 is left
last_one : (n : ℕ) → 0 < n → eqb (n - 1) 0 ≡ eqb n 1
last_one n some = by (eqb n 1) refl
  where
    by : (b : Bool) → eqb n 1 ≡ b → eqb (n - 1) 0 ≡ b
    by true e = eq-eqb (n - 1) 0 (let one = eqb-true n 1 e in omega arith)
    by false e = ne_eqb (n - 1) 0 (λ z. eqb-false n 1 e (omega (arith, z, some)))

-- the engine's cause and the ledger's, by their tests
cause_tests :
    (carries free : Bool) (left : ℕ) → 0 < left →
    cause_if carries (cond carries 0 (cond free left (left - 1))) ≡ cond carries Carried (cond (not free && eqb left 1) CountedOut GoingOn)
cause_tests true free left some = refl
cause_tests false true left some = rw (ne_eqb left 0 (λ z. omega (arith, z, some)))
cause_tests false false left some = rw (last_one left some)

small : (d : ℕ) → d < 65536 → (d ≡ 0xFFFF → ⊥) → (d + 1) % 65536 ≡ d + 1
small d h inside = omega arith

module _ (k : Configuration) (locked : Bool) (d : VramDma) (l : Ledger) (m : Match k (under locked d.cursor) l) where
  some_left : Ready d → 0 < l.left
  some_left r = ⊎_elim
      (λ none. absurd (false≢true (sym (pair_steps.never d (m.left ∙ none)) ∙ r.moving)))
      (λ some. some)
      (eq-zero-or-pos l.left)

  moved_left : (e : VramDma) → Moved d e → Ready d → e.cursor.remaining ≡ (after_pair l).left
  unfolding after_pair
  moved_left e v r = by l.free (eqb l.dest 0xFFFF) refl refl
    where
      by : (f c : Bool) → l.free ≡ f → eqb l.dest 0xFFFF ≡ c → e.cursor.remaining ≡ cond c 0 (cond f l.left (l.left - 1))
      by f true h c = (v.carried (m.dest ∙ eqb-true l.dest 0xFFFF c)).1
      by true false h c = v.escaped (m.free ∙ h) (λ at. eqb-false _ _ c (sym m.dest ∙ at)) ∙ m.left
      by false false h c =
          let fell = v.counted (m.free ∙ h) (λ at. eqb-false _ _ c (sym m.dest ∙ at)) in
          let left = m.left in
          omega arith

  moved_dest : (e : VramDma) → Moved d e → e.cursor.dest ≡ (after_pair l).dest
  unfolding after_pair
  moved_dest e v = v.dest ∙ ap (λ (x : ℕ). (x + 1) % 65536) m.dest ∙ by (eqb l.dest 0xFFFF) refl
    where
      by : (c : Bool) → eqb l.dest 0xFFFF ≡ c → (l.dest + 1) % 65536 ≡ cond c 0 (l.dest + 1)
      by true c = let at = eqb-true l.dest 0xFFFF c in omega arith
      by false c = small l.dest m.dest_bound (eqb-false _ _ c)

  dest_after : (after_pair l).dest < 65536
  unfolding after_pair
  dest_after = by (eqb l.dest 0xFFFF) refl
    where
      by : (c : Bool) → eqb l.dest 0xFFFF ≡ c → cond c 0 (l.dest + 1) < 65536
      by true c = lit< tt
      by false c = let inside = eqb-false l.dest 0xFFFF c in let bound = m.dest_bound in omega arith

  moved_match : (e : VramDma) → Moved d e → Ready d → Match k (under locked e.cursor) (after_pair l)
  unfolding after_pair Balanced
  moved_match e v r =
      record {
        locked = m.locked;
        source = v.source ∙ ap (λ (x : ℕ). (x + 1) % 65536) m.source;
        dest = moved_dest e v;
        left = moved_left e v r;
        free = v.paid;
        source_bound = omega arith;
        dest_bound = dest_after;
        balance = balance_pair l.free (eqb l.dest 0xFFFF) _ _ _ _ _ _ (some_left r) m.balance;
      }

  is_next : IsNext l (pair_of d.cursor)
  is_next = record { source = m.source; dest = ap (λ (x : ℕ). 0x8000 + x % 8192) m.dest }

  -- the cause that the ledger gives
  cause_is : Ready d → cause_of d.cursor ≡ cause_in l
  cause_is r =
      ap (λ (x : ℕ). cause_if (eqb x 0xFFFF) (cond (eqb x 0xFFFF) 0 (cond d.cursor.escape_byte d.cursor.remaining (d.cursor.remaining - 1))))
      m.dest
      ∙ ap (λ (x : ℕ). cause_if (eqb l.dest 0xFFFF) (cond (eqb l.dest 0xFFFF) 0 (cond d.cursor.escape_byte x (x - 1)))) m.left
      ∙ ap (λ (f : Bool). cause_if (eqb l.dest 0xFFFF) (cond (eqb l.dest 0xFFFF) 0 (cond f l.left (l.left - 1)))) m.free
      ∙ cause_tests (eqb l.dest 0xFFFF) l.free l.left (some_left r)

  -- what the engine's answer is to the ledger, one pair if one comes
  abbrev pub Matches : ℕ → NextByte → Type 0
  Matches q x = PairsMatch k locked l q (answer.pair_of x.answer) (answer.cause_of x.answer) x.dma

  pub next_match : Matches d.cursor.quota (next_byte_of d)
  unfolding after_pairs
  next_match = ⊎_elim moves rests (decide d)
    where
      moves : Ready d → Matches d.cursor.quota (next_byte_of d)
      moves r =
          let v = pair_steps.moves d r in
          subst (Matches d.cursor.quota) (sym (steps d r))
          (record {
            next = one_more is_next (some_left r) no_more;
            caused = one_cause (some_left r) (cause_is r) no_cause;
            agree = moved_match (advanced_of d) (subst (λ (x : NextByte). Moved d x.dma) (steps d r) v) r;
            quota = let fell = (subst (λ (x : NextByte). Moved d x.dma) (steps d r) v).quota in omega arith;
          })

      rests : next_byte_of d ≡ record { answer = None; dma = d } → Matches d.cursor.quota (next_byte_of d)
      rests is =
          subst (Matches d.cursor.quota) (sym is)
          (record { next = no_more; caused = no_cause; agree = m; quota = omega arith })

-- the escape drain: one pair at a quota of 1 where an escape is owed and the engine moves
pub drain_match :
    (k : Configuration) (locked : Bool) (d : VramDma) (l : Ledger) (m : Match k (under locked d.cursor) l) →
    d.cursor.escape_byte ≡ true → moving_of d ≡ true → Matches k locked d l m 1 (drain_of d)
drain_match k locked d l m owed moving =
    subst (Matches k locked d l m 1) (sym (drained d owed moving)) (next_match k locked (with_quota 1 d) l m)

-- one pair, then more
then_next : {l : Ledger} {p : BytePair} {ps : List BytePair} → NextPairs l (p ∷ []) → NextPairs (after_pair l) ps → NextPairs l (p ∷ ps)
then_next (one_more is some rest) more = one_more is some more

then_cause :
    {l : Ledger} {p : BytePair} {ps : List BytePair} {k : Cause} {ks : List Cause} → CausesFollow l (p ∷ []) (k ∷ []) →
    CausesFollow (after_pair l) ps ks → CausesFollow l (p ∷ ps) (k ∷ ks)
then_cause (one_cause some is rest) more = one_cause some is more

-- pairs until none comes
pub taken_match :
    (n : ℕ) (k : Configuration) (locked : Bool) (d : VramDma) (l : Ledger) → Match k (under locked d.cursor) l →
    PairsMatch k locked l d.cursor.quota (taken_of n d).pairs (taken_of n d).causes (taken_of n d).dma
unfolding taken_of after_pairs
taken_match zero k locked d l m = record { next = no_more; caused = no_cause; agree = m; quota = omega arith }
taken_match (suc n) k locked d l m =
    by (next_byte_of d).answer (next_match k locked d l m) (λ agree. taken_match n k locked (next_byte_of d).dma (after_pair l) agree)
  where
    by :
        (a : NextAnswer) → PairsMatch k locked l d.cursor.quota (answer.pair_of a) (answer.cause_of a) (next_byte_of d).dma →
        (let t = taken_of n (next_byte_of d).dma in
        Match k (under locked (next_byte_of d).dma.cursor) (after_pair l) →
        PairsMatch k locked (after_pair l) (next_byte_of d).dma.cursor.quota t.pairs t.causes t.dma) →
        (let t = after_answer d a (taken_of n (next_byte_of d).dma) in
        PairsMatch k locked l d.cursor.quota t.pairs t.causes t.dma)
    by (Some (p, j)) one rest =
        let more = rest one.agree in
        let q1 = one.quota in
        let q2 = more.quota in
        record {
          next = then_next one.next more.next;
          caused = then_cause one.caused more.caused;
          agree = more.agree;
          quota = omega arith;
        }
    by None one rest = record { next = no_more; caused = no_cause; agree = m; quota = omega arith }

-- a bus call, of whichever kind
pub bus_match :
    (k : Configuration) (locked : Bool) (i : BusInput) (d : VramDma) (l : Ledger) → Match k (under locked d.cursor) l →
    PairsMatch k locked l d.cursor.quota (bus_taken i d).pairs (bus_taken i d).causes (bus_taken i d).dma
unfolding pairs_of after_pairs
bus_match k locked i d l m =
    of_each (λ (t : Taken). PairsMatch k locked l d.cursor.quota t.pairs t.causes t.dma) i d
    (record { next = no_more; caused = no_cause; agree = m; quota = omega arith })
    (record { next = no_more; caused = no_cause; agree = m; quota = omega arith })
    (taken_match d.cursor.quota k locked d l m)
