-- A number outside a table gets the default; and what holds of each entry and of the default holds of what is looked up.
-- Assumes nothing.
use Prim.Native.Nat.{ℕ, ◌<◌, ◌≤◌}
use native.Mathlib.Omega.{arith}
use mathlib.Core.Path.{◌≡◌, refl}
use mathlib.Core.Bool.{Bool, true, false, cond}
use Rattle.std.proofs.lemmas.Bool.{and_parts}
use mathlib.Core.List.{List, [], ◌∷◌}
use lib.Dec.{eqb, leb}
use borrow.Author.Tests.{eqb-true, ne_eqb, leb-true}
use Rattle.table.specs.Table.{Entry, look, keys_of, keys, NoneAfter, NoneOf, Each, from, every}

-- what held before the numbers of a list were passed by
earlier : (before : Type 0) (a : ℕ) (ks : List ℕ) → NoneAfter before a ks → before
earlier before a [] n = n
earlier before a (k ∷ ks) n = (earlier (before × (a ≡ k → ⊥)) a ks n).0

-- a choice by a key
choice : {A : Type 0} (P : A → Type 0) (a k : ℕ) (x y : A) → (a ≡ k → P x) → P y → P (cond (eqb a k) x y)
choice P a k x y here else = by (eqb a k) refl
  where
    by : (b : Bool) → eqb a k ≡ b → P (cond b x y)
    by true e = here (eqb-true a k e)
    by false e = else

pub each : {A : Type 0} (P : A → Type 0) (a : ℕ) (t : List (Entry A)) (default : A) → Each P a t → P default → P (look t default a)
each P a [] default h d = d
each P a (e ∷ es) default h d = choice P a e.key e.value (look es default a) h.0 (each P a es default h.1 d)

-- one entry: passed by where its value passes the test, since then its key is among the numbers
entry :
    {A : Type 0} (test : A → Bool) (a k : ℕ) (v rest : A) (before : Type 0) (ks : List ℕ) (b : Bool) → test v ≡ b →
    ((before : Type 0) → NoneAfter before a ks → test rest ≡ false) →
    NoneAfter before a (cond b (k ∷ ks) ks) → test (cond (eqb a k) v rest) ≡ false
entry test a k v rest before ks true p later n =
    rw (ne_eqb a k (earlier (before × (a ≡ k → ⊥)) a ks n).1) (later (before × (a ≡ k → ⊥)) n)
entry test a k v rest before ks false p later n =
    choice (λ x. test x ≡ false) a k v rest (λ here. p) (later before n)

module _ {A : Type 0} (test : A → Bool) (a : ℕ) (default : A) (fails : test default ≡ false) where
  outside_after : (t : List (Entry A)) (before : Type 0) → NoneAfter before a (keys_of test t) → test (look t default a) ≡ false
  outside_after [] before n = fails
  outside_after (e ∷ es) before n =
      entry test a e.key e.value (look es default a) before (keys_of test es) (test e.value) refl (outside_after es) n

  -- a number that is the key of no entry whose value passes a test has a value that fails it
  pub outside : (t : List (Entry A)) → NoneOf a (keys_of test t) → test (look t default a) ≡ false
  outside t n = outside_after t (Unit {0}) n

module _ {A : Type 0} (default : A) (a : ℕ) where
  miss_after : (t : List (Entry A)) (before : Type 0) → NoneAfter before a (keys t) → look t default a ≡ default
  miss_after [] before n = refl
  miss_after (e ∷ es) before n =
      rw (ne_eqb a e.key (earlier (before × (a ≡ e.key → ⊥)) a (keys es) n).1)
      (miss_after es (before × (a ≡ e.key → ⊥)) n)

  -- a number that is no key has the default
  pub miss : (t : List (Entry A)) → NoneOf a (keys t) → look t default a ≡ default
  miss t n = miss_after t (Unit {0}) n

-- a number below every key is none of them
pub each_under : {A : Type 0} (P : A → Type 0) (low a : ℕ) (t : List (Entry A)) → from low t ≡ true → a < low → Each P a t
each_under P low a [] h p = tt
each_under P low a (e ∷ es) h p =
    let k : low ≤ e.key = leb-true low e.key (and_parts (leb low e.key) (from low es) h).0 in
    (λ here. absurd (omega (arith, here)), each_under P low a es (and_parts (leb low e.key) (from low es) h).1 p)

-- what every entry and the default pass, whatever is looked up passes
pub passes :
    {A : Type 0} (test : A → Bool) (a : ℕ) (t : List (Entry A)) (default : A) →
    every test t ≡ true → test default ≡ true → test (look t default a) ≡ true
passes test a [] default h d = d
passes test a (e ∷ es) default h d =
    let two = and_parts (test e.value) (every test es) h in
    choice (λ x. test x ≡ true) a e.key e.value (look es default a) (λ here. two.0) (passes test a es default two.1 d)
