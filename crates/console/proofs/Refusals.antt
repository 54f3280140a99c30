-- "The first reason that holds" taken apart, for every list of reasons: no refusal exactly where none holds, the first that holds
-- gives its own, and none comes that the list has not. What a call answers and leaves, by its refusal. Assumes nothing.
use Prim.Native.Nat.{ℕ}
use mathlib.Core.Path.{◌≡◌, refl, sym, ap, ◌∙◌}
use mathlib.Core.Bool.{Bool, true, false, cond, not, ◌&&◌, false≢true}
use mathlib.Core.List.{List, [], ◌∷◌, ◌++◌}
use lib.Dec.{eqb}
use borrow.Author.Tests.{eq-eqb}
use Rattle.std.proofs.Common.{Option, Some, None}
use Rattle.console.specs.Refusals.{Reason, first_of, number_of, refusal_number, Numbered}
use Rattle.console.specs.declared.refusal.Refusal.{Refusal}
use Rattle.console.specs.declared.refusal.Refusal.TheVariants.{Mode, Length, Phase, Address, Held, Record, State, Blackout, Unarmed, Deferred, Granted, Page}

-- no reason of the list holds
abbrev pub NoneHolds : List Reason → Type 0
NoneHolds [] = Unit {0}
NoneHolds (r ∷ rs) = (r.holds ≡ false) × NoneHolds rs

-- no refusal has the number 0
pub some_number : (r : Refusal) → eqb (refusal_number r) 0 ≡ false
some_number Mode = refl
some_number Length = refl
some_number Phase = refl
some_number Address = refl
some_number Held = refl
some_number Record = refl
some_number State = refl
some_number Blackout = refl
some_number Unarmed = refl
some_number Deferred = refl
some_number Granted = refl
some_number Page = refl

pub not_zero : (r : Refusal) → refusal_number r ≡ 0 → ⊥
not_zero r zero = absurd (false≢true (sym (some_number r) ∙ eq-eqb (refusal_number r) 0 zero))

-- declined for a reason, and with its number
pub numbered : {k : Option Refusal} {r : Refusal} → k ≡ Some r → Numbered k r (refusal_number r)
numbered is = record { reason = is; number = ap number_of is }

-- no number: accepted
pub number_none : (k : Option Refusal) → number_of k ≡ 0 → k ≡ None
number_none None zero = refl
number_none (Some r) zero = absurd (not_zero r zero)

-- accepted: no reason holds
pub none_holds : (rs : List Reason) → number_of (first_of rs) ≡ 0 → NoneHolds rs
none_holds [] accepted = tt
none_holds (r ∷ rs) accepted = by r.holds refl (none_holds rs) accepted
  where
    by :
        (b : Bool) → r.holds ≡ b → (number_of (first_of rs) ≡ 0 → NoneHolds rs) →
        number_of (cond b (Some r.refusal) (first_of rs)) ≡ 0 → (r.holds ≡ false) × NoneHolds rs
    by true e rest h = absurd (not_zero r.refusal h)
    by false e rest h = (e, rest h)

-- no reason holds: accepted
pub accepted_where : (rs : List Reason) → NoneHolds rs → first_of rs ≡ None
accepted_where [] none = refl
accepted_where (r ∷ rs) none = rw none.0 (accepted_where rs none.1)

-- the first that holds gives its refusal
pub first_holds :
    (before : List Reason) (r : Reason) (after : List Reason) → NoneHolds before → r.holds ≡ true →
    first_of (before ++ (r ∷ after)) ≡ Some r.refusal
first_holds [] r after none holds = rw holds
first_holds (b ∷ bs) r after none holds = rw none.0 (first_holds bs r after none.1 holds)

-- no reason of the list has the number n: a test, which computes for a list that is written out
abbrev pub without : ℕ → List Reason → Bool
without n [] = true
without n (r ∷ rs) = not (eqb (refusal_number r.refusal) n) && without n rs

both : (a b : Bool) → (a && b) ≡ true → (a ≡ true) × (b ≡ true)
both true b h = (refl, h)
both false b h = absurd (false≢true h)

-- a number that the test has passed is another
other : (m n : ℕ) → not (eqb m n) ≡ true → m ≡ n → ⊥
other m n passed same = absurd (false≢true (sym (ap not (eq-eqb m n same)) ∙ passed))

-- and no number comes that no reason has
pub never_first : (n : ℕ) (rs : List Reason) → (n ≡ 0 → ⊥) → without n rs ≡ true → number_of (first_of rs) ≡ n → ⊥
never_first n [] some lacks is = some (sym is)
never_first n (r ∷ rs) some lacks is =
    let own = both (not (eqb (refusal_number r.refusal) n)) (without n rs) lacks in by r.holds own.0 (never_first n rs some own.1) is
  where
    by :
        (b : Bool) → not (eqb (refusal_number r.refusal) n) ≡ true → (number_of (first_of rs) ≡ n → ⊥) →
        number_of (cond b (Some r.refusal) (first_of rs)) ≡ n → ⊥
    by true own rest h = other (refusal_number r.refusal) n own h
    by false own rest h = rest h
