-- A record's call performed. One of no call gets 6 (document 01: "6 replay record of other kind or short") and leaves all as given.
use Rattle.std.specs.Prelude.{ℕ, ◌≡◌, List, Option, Some, None}
use Rattle.console.specs.declared.Cgb.{Cgb}
use Rattle.call.specs.declared.Call.{Call}
use Rattle.told.specs.Declined.{Declined}
use Rattle.told.specs.Told.{told_refused, quietly}
use Rattle.told.specs.declared.Performed.{Performed}
use Rattle.perform.specs.Perform.{perform_of, wram_left, vram_left, oam_left}

unfoldable pub record_performed : Cgb → Option Call → List ℕ → List ℕ → List ℕ → List ℕ → Performed
record_performed s (Some c) cartridge wram vram oam = perform_of s c cartridge wram vram oam
record_performed s None cartridge wram vram oam = quietly (told_refused 6) s

unfoldable pub record_wram : Cgb → Option Call → List ℕ → List ℕ
record_wram s (Some c) wram = wram_left s c wram
record_wram s None wram = wram

unfoldable pub record_vram : Cgb → Option Call → List ℕ → List ℕ → List ℕ → List ℕ → List ℕ
record_vram s (Some c) cartridge wram vram oam = vram_left s c cartridge wram vram oam
record_vram s None cartridge wram vram oam = vram

unfoldable pub record_oam : Cgb → Option Call → List ℕ → List ℕ → List ℕ → List ℕ → List ℕ
record_oam s (Some c) cartridge wram vram oam = oam_left s c cartridge wram vram oam
record_oam s None cartridge wram vram oam = oam

-- the whole outcome
pub record PerformsRecord (s : Cgb) (k : Option Call) (cartridge wram vram oam : List ℕ) (r : Performed) (last_wram last_vram last_oam : List ℕ) : Type 0 where
  pub result : r ≡ record_performed s k cartridge wram vram oam
  pub work : last_wram ≡ record_wram s k wram
  pub stored : last_vram ≡ record_vram s k cartridge wram vram oam
  pub deposit : last_oam ≡ record_oam s k cartridge wram vram oam
  -- with a number, whichever: the state and the slices are those given
  pub declined : (r.told.refusal ≡ 0 → ⊥) → Declined s wram vram oam r last_wram last_vram last_oam
