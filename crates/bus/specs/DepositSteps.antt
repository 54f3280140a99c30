-- What is shown of the byte that a contended bus call leaves in OAM (document 01, section 3).
use Rattle.std.specs.Prelude.{ℕ, ◌+◌, ◌-◌, ◌%◌, ◌^◌, ◌<◌, ◌≤◌, ◌≡◌, true, false, List, [], ◌∷◌}
use Rattle.transfer.specs.declared.pair.BytePair.{BytePair}
use Rattle.bus.specs.Deposit.{less64, deposited}
use Rattle.bus.specs.Store.{oam_with}

-- the deposit, of the pairs p and q with the bytes b and c
pub record Deposits (p q : BytePair) (b c phase : ℕ) (oam : List ℕ) : Type 0 where
  -- "In a contended bus call": else nothing is deposited
  pub uncontended : (n : ℕ) → deposited false n (p ∷ q ∷ []) (b ∷ c ∷ []) phase oam ≡ oam
  pub nothing : deposited true 0 (p ∷ q ∷ []) (b ∷ c ∷ []) phase oam ≡ oam
  -- "Phase 0 or 3 deposits the second byte if there is one, else the first; other phases the first; at FE00h + low byte of its
  -- source"
  pub only : deposited true 1 (p ∷ q ∷ []) (b ∷ c ∷ []) phase oam ≡ oam_with oam (0xFE00 + p.source % 256) b
  pub second_at_0 : phase ≡ 0 → deposited true 2 (p ∷ q ∷ []) (b ∷ c ∷ []) phase oam ≡ oam_with oam (0xFE00 + q.source % 256) c
  pub second_at_3 : phase ≡ 3 → deposited true 2 (p ∷ q ∷ []) (b ∷ c ∷ []) phase oam ≡ oam_with oam (0xFE00 + q.source % 256) c
  pub first_else : (phase ≡ 0 → ⊥) → (phase ≡ 3 → ⊥) → deposited true 2 (p ∷ q ∷ []) (b ∷ c ∷ []) phase oam ≡ oam_with oam (0xFE00 + p.source % 256) b

-- "both subtractions wrap at 64 bits"
pub record Wraps (a b : ℕ) : Type 0 where
  pub plain : b ≤ a → a < 2 ^ 64 → less64 a b ≡ a - b
  pub below : a < b → b ≤ 2 ^ 64 → less64 a b ≡ (a + 2 ^ 64) - b
