-- A pair's cause as its number (document 02, A3: "0, 1 or 2"), by what stands in front of the pair and after it.
use Rattle.std.specs.Prelude.{ℕ, ◌<◌, ◌≡◌, ◌↔◌}

-- n, of a pair in front of which the destination register is dest, and after which so much is left
pub record CauseTold (dest left n : ℕ) : Type 0 where
  -- "carried (past FFFFh), this also where left would have reached 0 anyway"
  pub two : (n ≡ 2) ↔ (dest ≡ 0xFFFF)
  -- "counted out (left fell to 0)"
  pub one : (n ≡ 1) ↔ ((dest ≡ 0xFFFF → ⊥) × (left ≡ 0))
  -- "going on"
  pub zero : (n ≡ 0) ↔ (0 < left)
  -- "if a pair was the last"
  pub above : (0 < n) ↔ (left ≡ 0)
