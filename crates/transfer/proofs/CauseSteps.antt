-- A pair's cause tells what document 02, A3, says (specs, `CauseSteps`). Assumes nothing.
use Prim.Native.Nat.{ℕ, ◌<◌, ◌-◌}
use native.Mathlib.Omega.{arith}
use mathlib.Core.Path.{◌≡◌, refl, sym, ap, ◌∙◌}
use mathlib.Core.Bool.{Bool, true, false, cond, false≢true}
use mathlib.Core.Logic.{⊎_elim}
use native.Mathlib.Nat.{eq-zero-or-pos}
use lib.Dec.{eqb}
use borrow.Author.Tests.{eqb-true, eqb-false, ne_eqb}
use Rattle.std.specs.Prelude.{Some}
use Rattle.console.specs.declared.vram_dma.TransferCursor.{TransferCursor}
use Rattle.console.specs.declared.vram_dma.VramDma.{VramDma}
use Rattle.transfer.specs.CauseSteps.{Caused, CauseSteps}
use Rattle.transfer.specs.Pair.{NextAnswer, moving_of, left_after, cursor_after, cause_if, cause_of, advanced_of, next_byte_of, with_quota, drain_of}
use Rattle.transfer.specs.declared.pair.BytePair.{BytePair}
use Rattle.transfer.specs.declared.pair.Cause.{Cause}
use Rattle.transfer.specs.declared.pair.Cause.TheVariants.{GoingOn, CountedOut, Carried}
use Rattle.transfer.specs.declared.pair.NextByte.{NextByte}
use Rattle.transfer.proofs.PairSteps.{pair_steps, some_left, steps, drained, is_ready, no_pair_lem}

-- the three are different
pub counted_not_going : CountedOut ≡ GoingOn → ⊥
counted_not_going e = cc

pub counted_not_carried : CountedOut ≡ Carried → ⊥
counted_not_carried e = cc

pub going_not_carried : GoingOn ≡ Carried → ⊥
going_not_carried e = cc

-- what the cause tells, by its two tests; where the destination carries nothing is left
module _ (dest left : ℕ) where
  by_tests :
      (carries out : Bool) → eqb dest 0xFFFF ≡ carries → eqb left 0 ≡ out → (carries ≡ true → left ≡ 0) →
      Caused dest left (cond carries Carried (cond out CountedOut GoingOn))
  by_tests true out at zero ends =
      let edge = eqb-true dest 0xFFFF at in
      let none = ends refl in
      record {
        carried = (λ e. edge, λ e. refl);
        counted_out = (λ e. absurd (counted_not_carried (sym e)), λ h. absurd (h.0 edge));
        going_on = (λ e. absurd (going_not_carried (sym e)), λ some. absurd (omega (arith, some, none)));
      }
  by_tests false true at zero ends =
      let none = eqb-true left 0 zero in
      record {
        carried = (λ e. absurd (counted_not_carried e), λ edge. absurd (eqb-false dest 0xFFFF at edge));
        counted_out = (λ e. (eqb-false dest 0xFFFF at, none), λ h. refl);
        going_on = (λ e. absurd (counted_not_going e), λ some. absurd (omega (arith, some, none)));
      }
  by_tests false false at zero ends =
      let some = eqb-false left 0 zero in
      record {
        carried = (λ e. absurd (going_not_carried e), λ edge. absurd (eqb-false dest 0xFFFF at edge));
        counted_out = (λ e. absurd (counted_not_going (sym e)), λ h. absurd (some h.1));
        going_on = (λ e. ⊎_elim (λ none. absurd (some none)) (λ more. more) (eq-zero-or-pos left), λ more. refl);
      }

  pub caused_if : (eqb dest 0xFFFF ≡ true → left ≡ 0) → Caused dest left (cause_if (eqb dest 0xFFFF) left)
  caused_if ends = by_tests (eqb dest 0xFFFF) (eqb left 0) refl refl ends

caused : (c : TransferCursor) → Caused c.dest (left_after c) (cause_of c)
caused c = caused_if c.dest (left_after c) (λ at. rw at)

pub left_after_lem : (d : VramDma) → (advanced_of d).cursor.remaining ≡ left_after d.cursor
unfolding advanced_of cursor_after
left_after_lem d = refl

same_cause : (p q : BytePair) (j k : Cause) → ◌≡◌ {A = NextAnswer} (Some (p, j)) (Some (q, k)) → j ≡ k
same_cause p q j k e = let same : ◌≡◌ {A = BytePair × Cause} (p, j) (q, k) = cc in ap (λ (x : BytePair × Cause). x.1) same

-- a pair that is answered has the cursor's cause, and the engine has gone on
module _ (d : VramDma) (p : BytePair) (k : Cause) (came : (next_byte_of d).answer ≡ Some (p, k)) where
  taken : (next_byte_of d).dma.cursor.remaining ≡ left_after d.cursor
  taken = ap (λ (x : NextByte). x.dma.cursor.remaining) (steps d (is_ready d p k came)) ∙ left_after_lem d

  cause_is : cause_of d.cursor ≡ k
  cause_is = same_cause _ p _ k (sym (ap (λ (x : NextByte). x.answer) (steps d (is_ready d p k came))) ∙ came)

  pair : Caused d.cursor.dest (next_byte_of d).dma.cursor.remaining k
  pair = rw (taken, ← cause_is) (caused d.cursor)

  none_after : (k ≡ GoingOn → ⊥) → moving_of (next_byte_of d).dma ≡ false
  none_after ends =
      pair_steps.never (next_byte_of d).dma
      (⊎_elim (λ none. none) (λ some. absurd (ends (pair.going_on.1 some))) (eq-zero-or-pos (next_byte_of d).dma.cursor.remaining))

-- which pairs count out
last_byte : (left : ℕ) (carries owed : Bool) → 0 < left → carries ≡ false → cond carries 0 (cond owed left (left - 1)) ≡ 0 → (left ≡ 1) × (owed ≡ false)
last_byte left true owed some inside e = absurd (false≢true (sym inside))
last_byte left false true some inside e = absurd (omega (arith, some, e))
last_byte left false false some inside e = (omega (arith, some, e), refl)

from_one :
    (d : VramDma) (p : BytePair) → (next_byte_of d).answer ≡ Some (p, CountedOut) →
    (d.cursor.remaining ≡ 1) × (d.cursor.escape_byte ≡ false)
from_one d p came =
    let out = (pair d p CountedOut came).counted_out.0 refl in
    last_byte d.cursor.remaining (eqb d.cursor.dest 0xFFFF) d.cursor.escape_byte (some_left d (is_ready d p CountedOut came))
    (ne_eqb _ _ out.0) (sym (taken d p CountedOut came) ∙ out.1)

-- a drain answers with a pair where an escape is owed and the engine moves: the pair of a quota of 1
drain_owes : (d : VramDma) (p : BytePair) (k : Cause) → (drain_of d).answer ≡ Some (p, k) → (d.cursor.escape_byte ≡ true) × (moving_of d ≡ true)
drain_owes d p k came = by d.cursor.escape_byte (moving_of d) refl refl
  where
    by : (e m : Bool) → d.cursor.escape_byte ≡ e → moving_of d ≡ m → (e ≡ true) × (m ≡ true)
    by true true e m = (refl, refl)
    by false b e m = absurd (no_pair_lem p k (sym (ap (λ (x : NextByte). x.answer) (pair_steps.none_owed d e)) ∙ came))
    by true false e m = absurd (no_pair_lem p k (sym (ap (λ (x : NextByte). x.answer) (pair_steps.owed_still d m)) ∙ came))

module _ (d : VramDma) (p : BytePair) (k : Cause) (came : (drain_of d).answer ≡ Some (p, k)) where
  drain_is : drain_of d ≡ next_byte_of (with_quota 1 d)
  drain_is = let owes = drain_owes d p k came in drained d owes.0 owes.1

  came_there : (next_byte_of (with_quota 1 d)).answer ≡ Some (p, k)
  came_there = sym (ap (λ (x : NextByte). x.answer) drain_is) ∙ came

  drain : Caused d.cursor.dest (drain_of d).dma.cursor.remaining k
  drain = rw drain_is (pair (with_quota 1 d) p k came_there)

drain_not_counted : (d : VramDma) (p : BytePair) → (drain_of d).answer ≡ Some (p, CountedOut) → ⊥
drain_not_counted d p came =
    false≢true (sym (from_one (with_quota 1 d) p (came_there d p CountedOut came)).1 ∙ (drain_owes d p CountedOut came).0)

pub cause_steps : CauseSteps
cause_steps =
    record {
      pair = pair;
      none_after = none_after;
      from_one = from_one;
      drain = drain;
      drain_not_counted = drain_not_counted;
    }
