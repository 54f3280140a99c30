-- Refusal 2 (document 01, "Declined by input"): "a slice of other length than cartridge 40,960, WRAM 32,768, VRAM 16,384,
-- OAM 160".
use Rattle.std.specs.Prelude.{ℕ, Bool, not, ◌||◌, eqb}

abbrev pub cartridge_length : ℕ
cartridge_length = 40960

abbrev pub wram_length : ℕ
wram_length = 32768

abbrev pub vram_length : ℕ
vram_length = 16384

abbrev pub oam_length : ℕ
oam_length = 160

-- a slice of n bytes where `right` are asked for
abbrev pub wrong_length : ℕ → ℕ → Bool
wrong_length right n = not (eqb n right)

-- one of the four slices
unfoldable pub wrong_lengths : ℕ → ℕ → ℕ → ℕ → Bool
wrong_lengths cartridge wram vram oam =
    wrong_length cartridge_length cartridge || wrong_length wram_length wram || wrong_length vram_length vram || wrong_length oam_length oam
