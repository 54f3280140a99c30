-- What a declined call leaves, whichever call it is: "Each gives its number, no pair, and state and slices as before" (document
-- 01, "Declined by state").
use Rattle.std.specs.Prelude.{ℕ, ◌≡◌, List, [], ◌∷◌}
use Rattle.console.specs.declared.Cgb.{Cgb}
use Rattle.bus.specs.Deposit.{no_pair}
use Rattle.told.specs.Told.{told_refused}
use Rattle.told.specs.declared.Performed.{Performed}

-- of a call at the state s with these slices, which gave r and left the last three
pub record Declined (s : Cgb) (wram vram oam : List ℕ) (r : Performed) (last_wram last_vram last_oam : List ℕ) : Type 0 where
  -- its number and no value
  pub number_alone : r.told ≡ told_refused r.told.refusal
  pub no_pair_lem : r.pairs ≡ no_pair ∷ no_pair ∷ []
  pub no_cause : r.causes ≡ 0 ∷ 0 ∷ []
  pub no_byte : r.bytes ≡ 0 ∷ 0 ∷ []
  pub same_state : r.state ≡ s
  pub same_wram : last_wram ≡ wram
  pub same_vram : last_vram ≡ vram
  pub same_oam : last_oam ≡ oam
