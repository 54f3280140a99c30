-- The ledger along pairs where no escape is owed: their order, and how many are still to come. Assumes nothing.
use Prim.Native.Nat.{ℕ, suc, ◌+◌, ◌-◌, ◌%◌, ◌<◌, min}
use native.Mathlib.Omega.{arith}
use mathlib.Core.Path.{◌≡◌, refl, sym, ap, subst, ◌∙◌}
use mathlib.Core.Bool.{Bool, true, false}
use mathlib.Core.List.{List, [], ◌∷◌, ◌++◌, append-nil, append_assoc}
use lib.Dec.{eqb}
use lib.ListN.{length}
use borrow.Author.Tests.{eqb-true, eqb-false}
use Rattle.transfer.specs.declared.pair.BytePair.{BytePair}
use Rattle.ledger.specs.Ledger.{Ledger, IsNext, after_pair, after_pairs}
use Rattle.ledger.specs.Demand3.{NextPairs, no_more, one_more}
use Rattle.general_time.specs.Rounds.{pair_at, in_order}

-- what is still to come
abbrev pub owing : Ledger → ℕ
owing l = min l.left (65536 - l.dest)

-- the ledger l, n pairs behind the ledger l0
pub record Behind (l0 : Ledger) (n : ℕ) (ps : List BytePair) (l : Ledger) : Type 0 where
  pub pairs : ps ≡ in_order n l0.source l0.dest
  pub owed : n + owing l ≡ owing l0
  pub unowed : l.free ≡ false
  pub bound : l.dest < 65536
  pub source : l.source ≡ (l0.source + n) % 65536
  pub dest : 0 < l.left → l.dest ≡ l0.dest + n

pub at_first : (l : Ledger) → l.free ≡ false → l.source < 65536 → l.dest < 65536 → Behind l 0 [] l
at_first l unowed source bound =
    record { pairs = refl; owed = omega arith; unowed = unowed; bound = bound; source = omega (arith, source); dest = λ some. omega arith }

-- the ledger after a pair: it carries past FFFFh, or both registers and left go on by one
pub record Goes (l m : Ledger) : Type 0 where
  pub unowed : m.free ≡ false
  pub source : m.source ≡ (l.source + 1) % 65536
  pub carries : l.dest ≡ 0xFFFF → (m.dest ≡ 0) × (m.left ≡ 0)
  pub on : (l.dest ≡ 0xFFFF → ⊥) → (m.dest ≡ l.dest + 1) × (m.left ≡ l.left - 1)

pub goes : (l : Ledger) → l.free ≡ false → Goes l (after_pair l)
unfolding after_pair
goes l unowed = by (eqb l.dest 0xFFFF) refl
  where
    by : (c : Bool) → eqb l.dest 0xFFFF ≡ c → Goes l (after_pair l)
    by true c =
        record {
          unowed = refl;
          source = refl;
          carries = λ e. (rw c, rw c);
          on = λ ne. absurd (ne (eqb-true l.dest 0xFFFF c));
        }
    by false c =
        record {
          unowed = refl;
          source = refl;
          carries = λ e. absurd (eqb-false l.dest 0xFFFF c e);
          on = λ ne. (rw c, rw (c, unowed));
        }

next_source : (a b n c : ℕ) → b ≡ (a + n) % 65536 → c ≡ (b + 1) % 65536 → c ≡ (a + suc n) % 65536
next_source a b n c e f = omega arith

owed_on :
    (n left dest left' dest' whole : ℕ) → n + min left (65536 - dest) ≡ whole → dest < 65536 → 0 < left → left' ≡ left - 1 →
    dest' ≡ dest + 1 → suc n + min left' (65536 - dest') ≡ whole
owed_on n left dest left' dest' whole h bound some e f = omega arith

owed_carried :
    (n left dest left' dest' whole : ℕ) → n + min left (65536 - dest) ≡ whole → dest ≡ 65535 → 0 < left → left' ≡ 0 →
    suc n + min left' (65536 - dest') ≡ whole
owed_carried n left dest left' dest' whole h bound some e = omega arith

module _ (l0 : Ledger) (n : ℕ) (ps : List BytePair) (l : Ledger) (b : Behind l0 n ps l) (some : 0 < l.left) where
  step : Goes l (after_pair l)
  step = goes l b.unowed

  is_pair : (p : BytePair) → IsNext l p → p ≡ pair_at n l0.source l0.dest
  is_pair p is =
      let source = is.source ∙ b.source in
      let dest = is.dest ∙ ap (λ (d : ℕ). 0x8000 + d % 8192) (b.dest some) in
      λ i. record { source = source i; dest = dest i }

  next : (p : BytePair) → IsNext l p → Behind l0 (suc n) (ps ++ (p ∷ [])) (after_pair l)
  next p is = by (eqb l.dest 0xFFFF) refl
    where
      list : ps ++ (p ∷ []) ≡ in_order (suc n) l0.source l0.dest
      list =
          ap (λ (qs : List BytePair). qs ++ (p ∷ [])) b.pairs
          ∙ ap (λ (q : BytePair). in_order n l0.source l0.dest ++ (q ∷ [])) (is_pair p is)

      by : (c : Bool) → eqb l.dest 0xFFFF ≡ c → Behind l0 (suc n) (ps ++ (p ∷ [])) (after_pair l)
      by true c =
          let at = eqb-true l.dest 0xFFFF c in
          let after = step.carries at in
          record {
            pairs = list;
            owed = owed_carried n l.left l.dest _ _ _ b.owed at some after.1;
            unowed = step.unowed;
            bound = omega (arith, after.0);
            source = next_source _ _ n _ b.source step.source;
            dest = λ more. absurd (omega (arith, more, after.1));
          }
      by false c =
          let ne = eqb-false l.dest 0xFFFF c in
          let after = step.on ne in
          let low = b.bound in
          record {
            pairs = list;
            owed = owed_on n l.left l.dest _ _ _ b.owed low some after.1 after.0;
            unowed = step.unowed;
            bound = omega (arith, after.0, ne, low);
            source = next_source _ _ n _ b.source step.source;
            dest = λ more. let d = b.dest some in let e = after.0 in omega (arith, d, e);
          }

-- a call's pairs
pub behind :
    (l0 : Ledger) (n : ℕ) (ps : List BytePair) (l : Ledger) (qs : List BytePair) → Behind l0 n ps l → NextPairs l qs →
    Behind l0 (n + length qs) (ps ++ qs) (after_pairs qs l)
unfolding after_pairs
behind l0 n ps l qs b no_more =
    let count : n ≡ n + 0 = omega arith in
    subst (λ (x : ℕ). Behind l0 x (ps ++ []) l) count (subst (λ (xs : List BytePair). Behind l0 n xs l) (sym (append-nil ps)) b)
behind l0 n ps l qs b (one_more {p = p} {ps = rs} is some rest) =
    let on = behind l0 (suc n) (ps ++ (p ∷ [])) (after_pair l) rs (next l0 n ps l b some p is) rest in
    let count : suc n + length rs ≡ n + suc (length rs) = omega arith in
    subst (λ (xs : List BytePair). Behind l0 (n + suc (length rs)) xs (after_pairs rs (after_pair l))) (append_assoc ps (p ∷ []) rs)
    (subst (λ (x : ℕ). Behind l0 x (ps ++ (p ∷ []) ++ rs) (after_pairs rs (after_pair l))) count on)

-- while the ledger's left is 0 none comes
pub none_left : (l : Ledger) (qs : List BytePair) → l.left ≡ 0 → NextPairs l qs → qs ≡ []
none_left l qs z no_more = refl
none_left l qs z (one_more is some rest) = absurd (omega (arith, z, some))
