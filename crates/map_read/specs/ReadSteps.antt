-- What is shown of reads by their addresses (document 01, section 1; registers.rs, `map_read_byte`), for every address.
-- `⊎` is "or".
use Rattle.std.specs.Prelude.{ℕ, ◌+◌, ◌-◌, ◌*◌, ◌/◌, ◌%◌, ◌≤◌, ◌≡◌, true, false, cond, List, Some, None, ◌⊎◌, get_or}
use Rattle.console.specs.Set.{with_dmg_compat}
use Rattle.console.specs.declared.Cgb.{Cgb}
use Rattle.hdma.specs.Hdma5.{status_byte}
use Rattle.registers.specs.Ram.{wram_index_of}
use Rattle.registers.specs.MapSteps.{Mapped}
use Rattle.map_read.specs.Read.{map_read_of}

pub record MapReads (s : Cgb) (wram : List ℕ) (a : ℕ) : Type 0 where
  -- 4: "address not in the call's map"
  pub unmapped : (Mapped a → ⊥) → map_read_of s wram a ≡ None
  -- the byte of work RAM at the address's index, of which `RamSteps` tells
  pub ram : (index : ℕ) → wram_index_of s.svbk a ≡ Some index → map_read_of s wram a ≡ Some (get_or wram index 0)
  -- "FEA0–FEFF is 24 bytes, index ((address / 32) mod 8 − 5) × 8 + address mod 8"
  pub extra : 0xFEA0 ≤ a → a ≤ 0xFEFF → map_read_of s wram a ≡ Some (get_or s.extra_oam ((a / 32 % 8 - 5) * 8 + a % 8) 0)

-- what each register reads where compat locks nothing
pub record RegisterReads (s : Cgb) (wram : List ℕ) : Type 0 where
  -- "KEY0: boot-locked; reads the latched mode ($00 = CGB)"
  pub ff4c : map_read_of s wram 0xFF4C ≡ Some 0x00
  -- "FF4D reads 7Eh + 128 × speed + armed"
  pub ff4d : map_read_of s wram 0xFF4D ≡ Some (0x7E + 128 * cond s.double_speed 1 0 + cond s.key1_armed 1 0)
  -- FE and the bank
  pub ff4f : s.vram.selected ≤ 1 → map_read_of s wram 0xFF4F ≡ Some (0xFE + s.vram.selected)
  -- "HDMA1-4 are write-only"
  pub ff51 : map_read_of s wram 0xFF51 ≡ Some 0xFF
  pub ff52 : map_read_of s wram 0xFF52 ≡ Some 0xFF
  pub ff53 : map_read_of s wram 0xFF53 ≡ Some 0xFF
  pub ff54 : map_read_of s wram 0xFF54 ≡ Some 0xFF
  -- of which `Reading` tells
  pub ff55 : map_read_of s wram 0xFF55 ≡ Some (status_byte s.vram_dma)
  -- F8 and the three bits as written, 0 too
  pub ff70 : s.svbk ≤ 7 → map_read_of s wram 0xFF70 ≡ Some (0xF8 + s.svbk)
  pub ff72 : map_read_of s wram 0xFF72 ≡ Some s.ff72
  pub ff73 : map_read_of s wram 0xFF73 ≡ Some s.ff73
  pub ff74 : map_read_of s wram 0xFF74 ≡ Some s.ff74
  -- 8F and bits 4 to 6
  pub ff75 : map_read_of s wram 0xFF75 ≡ Some (0x8F + s.ff75 / 16 % 8 * 16)

-- under compat "FF4C, FF4D, FF70 and FF74 read FF"
abbrev pub LocksRead : ℕ → Type 0
LocksRead a = (a ≡ 0xFF4C) ⊎ (a ≡ 0xFF4D) ⊎ (a ≡ 0xFF70) ⊎ (a ≡ 0xFF74)

-- these addresses and no other: every other read gives what it gives without compat
pub record CompatReads (s : Cgb) (wram : List ℕ) (a : ℕ) : Type 0 where
  pub locked : LocksRead a → map_read_of (with_dmg_compat true s) wram a ≡ Some 0xFF
  pub free : (LocksRead a → ⊥) → map_read_of (with_dmg_compat true s) wram a ≡ map_read_of (with_dmg_compat false s) wram a

pub record ReadSteps : Type 0 where
  pub by_address : (s : Cgb) (wram : List ℕ) (a : ℕ) → MapReads s wram a
  pub registers : (s : Cgb) (wram : List ℕ) → s.dmg_compat ≡ false → RegisterReads s wram
  pub compat : (s : Cgb) (wram : List ℕ) (a : ℕ) → CompatReads s wram a
