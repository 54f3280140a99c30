-- Fields of a part: what is read at an offset inside a part that stands in b from offset n on. Assumes nothing.
use Prim.Native.Nat.{ℕ, zero, suc, ◌+◌, ◌^◌, ◌<◌, ◌≤◌}
use native.Mathlib.Nat.{add-suc}
use native.Mathlib.Omega.{arith}
use mathlib.Core.Path.{◌≡◌, refl, sym, ap, ◌∙◌}
use mathlib.Core.Bool.{Bool, true, false}
use mathlib.Core.List.{List, ◌∷◌}
use lib.Dec.{eqb}
use mir.Val.{bool_byte}
use Rattle.arithmetic.proofs.Digits.{digits_back}
use Rattle.arithmetic.specs.Number.{digits, number, byte_at, bytes_at, flag_at, number_at}
use Rattle.codec.proofs.Runs.{part_byte}

told : (f : Bool) → eqb (bool_byte f) 1 ≡ f
told true = refl
told false = refl

part_bytes : (b : List ℕ) (n len j m : ℕ) → j + m ≤ len → bytes_at (bytes_at b n len) j m ≡ bytes_at b (n + j) m
part_bytes b n len j zero h = refl
part_bytes b n len j (suc m) h =
    let next : bytes_at (bytes_at b n len) (suc j) m ≡ bytes_at b (suc (n + j)) m
    = part_bytes b n len (suc j) m (omega arith) ∙ ap (λ (k : ℕ). bytes_at b k m) (add-suc n j) in
    λ i. part_byte b n len j (omega arith) i ∷ next i

-- The field at offset j of the part: a byte, a flag, a number of w bytes. Each is what the part's own bytes say.
pub record Field (b : List ℕ) (n len : ℕ) (part : List ℕ) : Type 0 where
  pub byte : (j x : ℕ) → j < len → byte_at part j ≡ x → byte_at b (n + j) ≡ x
  pub flag : (j : ℕ) (f : Bool) → j < len → byte_at part j ≡ bool_byte f → flag_at b (n + j) ≡ f
  pub many : (j w x : ℕ) → j + w ≤ len → bytes_at part j w ≡ digits w x → x < 256 ^ w → number_at b (n + j) w ≡ x

pub field : (b : List ℕ) (n len : ℕ) (part : List ℕ) → bytes_at b n len ≡ part → Field b n len part
field b n len part e =
    let at : (j x : ℕ) → j < len → byte_at part j ≡ x → byte_at b (n + j) ≡ x
    = λ j x h is. sym (part_byte b n len j h) ∙ ap (λ (l : List ℕ). byte_at l j) e ∙ is in
    record {
      byte = at;
      flag = λ j f h is. ap (λ (x : ℕ). eqb x 1) (at j (bool_byte f) h is) ∙ told f;
      many =
          λ j w x h is small.
          ap number (sym (part_bytes b n len j w h) ∙ ap (λ (l : List ℕ). bytes_at l j w) e ∙ is) ∙ digits_back w x small;
    }
