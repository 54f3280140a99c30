-- A table by number: what stands at a key, and a default for every other number. Of two entries with one key the first counts.
use Rattle.std.specs.Prelude.{ℕ, ◌≡◌, Bool, true, cond, ◌&&◌, List, [], ◌∷◌, eqb, leb}

pub record Entry (A : Type 0) : Type 0 where
  pub key : ℕ
  pub value : A

infixr 60 ◌⟼◌
abbrev pub ◌⟼◌ : {A : Type 0} → ℕ → A → Entry A
k ⟼ v = record { key = k; value = v }

-- what stands at a number, or the default
abbrev pub look : {A : Type 0} → List (Entry A) → A → ℕ → A
look [] default a = default
look (e ∷ es) default a = cond (eqb a e.key) e.value (look es default a)

-- the keys of the entries whose value passes a test, in their order
abbrev pub keys_of : {A : Type 0} → (A → Bool) → List (Entry A) → List ℕ
keys_of test [] = []
keys_of test (e ∷ es) = cond (test e.value) (e.key ∷ keys_of test es) (keys_of test es)

-- all keys
abbrev pub keys : {A : Type 0} → List (Entry A) → List ℕ
keys t = keys_of (λ x. true) t

-- none of the numbers, as the last arm of a `match` over them knows it
abbrev pub NoneAfter : Type 0 → ℕ → List ℕ → Type 0
NoneAfter before a [] = before
NoneAfter before a (k ∷ ks) = NoneAfter (before × (a ≡ k → ⊥)) a ks

abbrev pub NoneOf : ℕ → List ℕ → Type 0
NoneOf a ks = NoneAfter (Unit {0}) a ks

-- what holds of each entry's value where its key is the number
abbrev pub Each : {A : Type 0} → (A → Type 0) → ℕ → List (Entry A) → Type 0
Each P a [] = Unit {0}
Each P a (e ∷ es) = (a ≡ e.key → P e.value) × Each P a es

-- `x ▸ y ▸ .. ▸ tt` writes it, entry by entry
infixr 20 ◌▸◌
abbrev pub ◌▸◌ : {A : Type 0} {B : Type 0} → A → B → A × B
x ▸ y = (x, y)

-- whether no key is below a number
abbrev pub from : {A : Type 0} → ℕ → List (Entry A) → Bool
from low [] = true
from low (e ∷ es) = leb low e.key && from low es

-- whether every value passes a test
abbrev pub every : {A : Type 0} → (A → Bool) → List (Entry A) → Bool
every test [] = true
every test (e ∷ es) = test e.value && every test es
