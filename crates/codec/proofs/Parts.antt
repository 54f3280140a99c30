-- Parts of known sizes, one after another: stored into zeros they stand so, and each is found again at its offset. Assumes nothing.
use Prim.Native.Nat.{ℕ, zero, suc, ◌+◌}
use native.Mathlib.Nat.{add-suc}
use native.Mathlib.Omega.{arith}
use mathlib.Core.Path.{◌≡◌, refl, sym, ap, ◌∙◌}
use mathlib.Core.List.{List, [], ◌∷◌, ◌++◌, append_assoc}
use lib.ListN.{length, set, drop, replicate, length-append, length-replicate, replicate-append-replicate}
use lib.Seq.{sets, get_or-drop, drop_at}
use Rattle.arithmetic.specs.Number.{byte_at, bytes_at}

pub record Part : Type 0 where
  pub size : ℕ
  pub bytes : List ℕ
  pub is : length bytes ≡ size

abbrev pub bytes_of : List Part → List ℕ
bytes_of [] = []
bytes_of (p ∷ ps) = p.bytes ++ bytes_of ps

abbrev pub total : List Part → ℕ
total [] = 0
total (p ∷ ps) = p.size + total ps

-- each part stored behind the one before it, from offset n on
abbrev pub stores : ℕ → List Part → List ℕ → List ℕ
stores n [] l = l
stores n (p ∷ ps) l = stores (n + p.size) ps (sets l n p.bytes)

-- the part with this number, from 0, and the offset where it begins
abbrev pub part_at : List Part → ℕ → Part
part_at [] k = record { size = 0; bytes = []; is = refl }
part_at (p ∷ ps) zero = p
part_at (p ∷ ps) (suc k) = part_at ps k

abbrev pub offset : List Part → ℕ → ℕ
offset [] k = 0
offset (p ∷ ps) zero = 0
offset (p ∷ ps) (suc k) = p.size + offset ps k

-- ---- stored

-- stores past the first byte leave it
kept : (x : ℕ) (l : List ℕ) (i : ℕ) (part : List ℕ) → sets (x ∷ l) (suc i) part ≡ x ∷ sets l i part
kept x l i [] = refl
kept x l i (a ∷ part) = kept x (set l i a) (suc i) part

-- a part stored over as many zeros, at the start and after a front
over : (part rest : List ℕ) → sets (replicate (length part) 0 ++ rest) 0 part ≡ part ++ rest
over [] rest = refl
over (a ∷ part) rest = kept a (replicate (length part) 0 ++ rest) 0 part ∙ ap (λ (l : List ℕ). a ∷ l) (over part rest)

behind : (front part rest : List ℕ) → sets (front ++ (replicate (length part) 0 ++ rest)) (length front) part ≡ front ++ (part ++ rest)
behind [] part rest = over part rest
behind (x ∷ front) part rest =
    kept x (front ++ (replicate (length part) 0 ++ rest)) (length front) part ∙ ap (λ (l : List ℕ). x ∷ l) (behind front part rest)

-- the same by numbers: k bytes stored behind a front of n, with m zeros left
lay :
    (front part : List ℕ) (n k m : ℕ) → length front ≡ n → length part ≡ k →
    sets (front ++ replicate (k + m) 0) n part ≡ front ++ (part ++ replicate m 0)
lay front part n k m ef ep =
    rw (← ef, ← ep, ← replicate-append-replicate {A = ℕ} (length part) m 0) (behind front part (replicate m 0))

longer : (a b : List ℕ) (n k : ℕ) → length a ≡ n → length b ≡ k → length (a ++ b) ≡ n + k
longer a b n k ea eb = simp length-append (omega arith)

pub laid :
    (front : List ℕ) (ps : List Part) (n m : ℕ) → length front ≡ n →
    stores n ps (front ++ replicate (total ps + m) 0) ≡ front ++ (bytes_of ps ++ replicate m 0)
laid front [] n m e = let none : 0 + m ≡ m = omega arith in ap (λ (k : ℕ). front ++ replicate k 0) none
laid front (p ∷ ps) n m e =
    let z : List ℕ = replicate m 0 in
    let sum : p.size + total ps + m ≡ p.size + (total ps + m) = omega arith in
    ap (λ (k : ℕ). stores (n + p.size) ps (sets (front ++ replicate k 0) n p.bytes)) sum
    ∙ ap (stores (n + p.size) ps)
    (lay front p.bytes n p.size (total ps + m) e p.is ∙ sym (append_assoc front p.bytes (replicate (total ps + m) 0)))
    ∙ laid (front ++ p.bytes) ps (n + p.size) m (longer front p.bytes n p.size e p.is)
    ∙ append_assoc front p.bytes (bytes_of ps ++ z)
    ∙ ap (λ (l : List ℕ). front ++ l) (sym (append_assoc p.bytes (bytes_of ps) z))

bytes_length : (ps : List Part) → length (bytes_of ps) ≡ total ps
bytes_length [] = refl
bytes_length (p ∷ ps) = longer p.bytes (bytes_of ps) p.size (total ps) p.is (bytes_length ps)

pub padded_length : (ps : List Part) (m : ℕ) → length (bytes_of ps ++ replicate m 0) ≡ total ps + m
padded_length ps m = longer (bytes_of ps) (replicate m 0) (total ps) m (bytes_length ps) (length-replicate m 0)

-- ---- found again

-- what stands past the first m bytes
bytes_past : (l : List ℕ) (m n k : ℕ) → bytes_at l (m + k) n ≡ bytes_at (drop m l) k n
bytes_past l m zero k = refl
bytes_past l m (suc n) k =
    let next : bytes_at l (suc (m + k)) n ≡ bytes_at (drop m l) (suc k) n = rw (← add-suc m k) (bytes_past l m n (suc k)) in
    λ i. sym (get_or-drop m l k 0) i ∷ next i

-- what stands at the front
bytes_front : (x : ℕ) (l : List ℕ) (n k : ℕ) → bytes_at (x ∷ l) (suc k) n ≡ bytes_at l k n
bytes_front x l zero k = refl
bytes_front x l (suc n) k = λ i. byte_at l k ∷ bytes_front x l n (suc k) i

bytes_all : (l t : List ℕ) → bytes_at (l ++ t) 0 (length l) ≡ l
bytes_all [] t = refl
bytes_all (x ∷ l) t = λ i. x ∷ (bytes_front x (l ++ t) (length l) 0 ∙ bytes_all l t) i

pub stands :
    (ps : List Part) (rest : List ℕ) (k : ℕ) →
    bytes_at (bytes_of ps ++ rest) (offset ps k) (part_at ps k).size ≡ (part_at ps k).bytes
stands [] rest k = refl
stands (p ∷ ps) rest zero =
    ap (λ (l : List ℕ). bytes_at l 0 p.size) (append_assoc p.bytes (bytes_of ps) rest)
    ∙ ap (bytes_at (p.bytes ++ (bytes_of ps ++ rest)) 0) (sym p.is)
    ∙ bytes_all p.bytes (bytes_of ps ++ rest)
stands (p ∷ ps) rest (suc k) =
    bytes_past (p.bytes ++ bytes_of ps ++ rest) p.size (part_at ps k).size (offset ps k)
    ∙ ap (λ (l : List ℕ). bytes_at l (offset ps k) (part_at ps k).size)
    (ap (drop p.size) (append_assoc p.bytes (bytes_of ps) rest) ∙ drop_at p.bytes (bytes_of ps ++ rest) p.size p.is)
    ∙ stands ps rest k
