-- Text stored piece by piece is the whole text stored. Assumes nothing.
use Prim.Native.Nat.{ℕ, suc, ◌+◌, ◌≤◌, ◌<◌}
use mathlib.Core.Path.{◌≡◌, refl, sym, subst, ◌∙◌}
use mathlib.Core.List.{List, [], ◌∷◌, ◌++◌}
use mathlib.Core.Logic.{⊎_elim}
use native.Mathlib.Omega.{arith}
use Rattle.std.proofs.lemmas.Bool.{cases_lt}
use lib.ListN.{length, set, length-append, length-set}
use lib.Seq.{sets, set_out, length-sets, sets-eq}
use Rattle.text.specs.Text.{past, Put, Pushed, Fitting}
use Rattle.text.specs.declared.Text.{Text}

-- past the end nothing is stored
sets_out : (l : List ℕ) (at : ℕ) (text : List ℕ) → length l ≤ at → sets l at text ≡ l
sets_out l at [] h = refl
sets_out l at (x ∷ text) h = rw (set_out l at x h) (sets_out l (suc at) text (omega arith))

past_none : (size at : ℕ) → past size at 0 ≡ at
past_none size at = omega arith

past_one : (size at n : ℕ) → at < size → past size at (suc n) ≡ past size (suc at) n
past_one size at n h = omega arith

past_end : (size at n : ℕ) → size ≤ at → past size at n ≡ at
past_end size at n h = omega arith

past_past : (size at n m : ℕ) → past size (past size at n) m ≡ past size at (n + m)
past_past size at n m = omega arith

abbrev Joined : List ℕ → ℕ → List ℕ → List ℕ → Type 0
Joined l at xs ys = sets (sets l at xs) (past (length l) at (length xs)) ys ≡ sets l at (xs ++ ys)

join_inside : (l : List ℕ) (at x : ℕ) (xs ys : List ℕ) → at < length l → Joined (set l at x) (suc at) xs ys → Joined l at (x ∷ xs) ys
join_inside l at x xs ys h rest = rw (past_one (length l) at (length xs) h, ← length-set l at x) rest

join_outside : (l : List ℕ) (at x : ℕ) (xs ys : List ℕ) → length l ≤ at → Joined l at (x ∷ xs) ys
join_outside l at x xs ys h =
    rw (past_end (length l) at (suc (length xs)) h, sets_out l at (x ∷ xs) h, sets_out l at ys h) (sym (sets_out l at (x ∷ (xs ++ ys)) h))

join_step : (l : List ℕ) (at x : ℕ) (xs ys : List ℕ) → Joined (set l at x) (suc at) xs ys → Joined l at (x ∷ xs) ys
join_step l at x xs ys rest = ⊎_elim (λ h. join_inside l at x xs ys h rest) (λ h. join_outside l at x xs ys h) (cases_lt at (length l))

joined : (l : List ℕ) (at : ℕ) (xs ys : List ℕ) → Joined l at xs ys
joined l at [] ys = rw (past_none (length l) at)
joined l at (x ∷ xs) ys = join_step l at x xs ys (joined (set l at x) (suc at) xs ys)

pub nothing : (l : List ℕ) (at : ℕ) → Put l at [] at l
nothing l at = record { place = sym (past_none (length l) at); bytes = refl }

-- a text, and then another behind it: in a buffer that is any list, and of a `Text`
pub put_then :
    {l : List ℕ} {at : ℕ} {xs : List ℕ} {r : ℕ} {m ys : List ℕ} {s : ℕ} {k : List ℕ} → Put l at xs r m → Put m r ys s k →
    Put l at (xs ++ ys) s k
put_then {l} {at} {xs} {r} {m} {ys} {s} {k} p q =
    record {
      place =
          q.place
          ∙ rw (p.bytes, length-sets l at xs, p.place, past_past (length l) at (length xs) (length ys), length-append xs ys);
      bytes = q.bytes ∙ rw (p.bytes, p.place) (joined l at xs ys);
    }

pub then : {a : Text} {xs : List ℕ} {b : Text} {ys : List ℕ} {c : Text} → Pushed a xs b → Pushed b ys c → Pushed a (xs ++ ys) c
then p q = record { buffer = q.buffer ∙ p.buffer; put = put_then p.put q.put }

-- the same text in other words
pub put_reworded : {l : List ℕ} {at : ℕ} {xs ys : List ℕ} {r : ℕ} {m : List ℕ} → xs ≡ ys → Put l at xs r m → Put l at ys r m
put_reworded {l} {at} {xs} {ys} {r} {m} e p = subst (λ (text : List ℕ). Put l at text r m) e p

pub reworded : {a : Text} {xs ys : List ℕ} {b : Text} → xs ≡ ys → Pushed a xs b → Pushed a ys b
reworded e p = record { buffer = p.buffer; put = put_reworded e p.put }

within_size : (size at n : ℕ) → at + n ≤ size → past size at n ≡ at + n
within_size size at n h = omega arith

pub fitting : Fitting
fitting =
    record {
      place = λ before at text r after p h. p.place ∙ within_size (length before) at (length text) h;
      bytes = λ before at text r after p h. p.bytes ∙ sets-eq text before at h;
    }
