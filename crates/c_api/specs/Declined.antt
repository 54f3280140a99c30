-- What a refused call leaves in the caller's bytes, whatever the reason: "Each gives its number, no pair, and state and slices as
-- before" (document 01, "Declined by state").
use Rattle.std.specs.Prelude.{ℕ, ◌≡◌, List}
use Rattle.record.specs.Answer.{refused_bytes}

pub record DeclinedBytes (state wram vram oam : List ℕ) (r : ℕ) (last_state last_answer last_wram last_vram last_oam : List ℕ) : Type 0 where
  -- the number and zeros
  pub number_alone : last_answer ≡ refused_bytes r
  -- byte for byte
  pub same_state : last_state ≡ state
  pub same_wram : last_wram ≡ wram
  pub same_vram : last_vram ≡ vram
  pub same_oam : last_oam ≡ oam
