-- What is shown of the map by its addresses (document 01, section 1; registers.rs, `wram_index`, `extra_oam_index`): which
-- addresses a read and a write have in their map, which compat locks, and where each lies in memory, for every address.
-- `⊎` is "or".
use Rattle.std.specs.Prelude.{Some, None, ℕ, ◌+◌, ◌-◌, ◌*◌, ◌/◌, ◌%◌, ◌<◌, ◌≤◌, ◌≡◌, true, ◌↔◌, ◌⊎◌}
use Rattle.registers.specs.Map.{place_of, readable, writable, locks_at}
use Rattle.registers.specs.Ram.{wram_index_of}

-- the read's map: "WRAM reads and writes, and registers FEA0–FEFF, FF4C, FF4D, FF4F, FF51–FF55, FF70, FF72–FF75"; "WRAM answers at C000h–FDFFh"
abbrev pub Mapped : ℕ → Type 0
Mapped a =
    ((0xC000 ≤ a) × (a ≤ 0xFDFF)) ⊎
    ((0xFEA0 ≤ a) × (a ≤ 0xFEFF)) ⊎
    (a ≡ 0xFF4C) ⊎ (a ≡ 0xFF4D) ⊎ (a ≡ 0xFF4F) ⊎ ((0xFF51 ≤ a) × (a ≤ 0xFF55)) ⊎ (a ≡ 0xFF70) ⊎ ((0xFF72 ≤ a) × (a ≤ 0xFF75))

-- of a write besides, "A write to FF46 no longer gets 4, a read still does" (document 02, A1)
abbrev pub MappedWrite : ℕ → Type 0
MappedWrite a = (a ≡ 0xFF46) ⊎ Mapped a

-- "Under compat, writes to FF4D, FF51–FF55, FF70 and FF74 .. do nothing"
abbrev pub LocksWrite : ℕ → Type 0
LocksWrite a = (a ≡ 0xFF4D) ⊎ ((0xFF51 ≤ a) × (a ≤ 0xFF55)) ⊎ (a ≡ 0xFF70) ⊎ (a ≡ 0xFF74)

pub record MapSteps (a : ℕ) : Type 0 where
  -- 4: "address not in the call's map", of a read and of a write
  pub read_map : (readable (place_of a) ≡ true) ↔ Mapped a
  pub write_map : (writable (place_of a) ≡ true) ↔ MappedWrite a
  pub locks : (locks_at a ≡ true) ↔ LocksWrite a
  -- "E000h up repeating C000h up", to FDFFh: the place of the address 2000h lower
  pub echo : 0xE000 ≤ a → a ≤ 0xFDFF → place_of a ≡ place_of (a - 0x2000)
  -- "FEA0–FEFF is 24 bytes, index ((address / 32) mod 8 − 5) × 8 + address mod 8"
  pub extra_inside : 0xFEA0 ≤ a → a ≤ 0xFEFF → (a / 32 % 8 - 5) * 8 + a % 8 < 24

-- where an address lies in work RAM
pub record RamSteps (svbk a : ℕ) : Type 0 where
  -- C000h up, and "D000h up in bank FF70 (0 means 1)" (section 3)
  pub fixed : 0xC000 ≤ a → a ≤ 0xCFFF → wram_index_of svbk a ≡ Some (a - 0xC000)
  pub banked : 0xD000 ≤ a → a ≤ 0xDFFF → (svbk ≡ 0 → ⊥) → wram_index_of svbk a ≡ Some (svbk * 4096 + (a - 0xD000))
  pub bank_one : 0xD000 ≤ a → a ≤ 0xDFFF → svbk ≡ 0 → wram_index_of svbk a ≡ Some (4096 + (a - 0xD000))
  pub bank_inside : 0xD000 ≤ a → a ≤ 0xDFFF → svbk ≤ 7 → svbk * 4096 + (a - 0xD000) < 32768
  -- "E000h up repeating C000h up", to FDFFh
  pub echo : 0xE000 ≤ a → a ≤ 0xFDFF → wram_index_of svbk a ≡ wram_index_of svbk (a - 0x2000)
  pub elsewhere : (a < 0xC000) ⊎ (0xFDFF < a) → wram_index_of svbk a ≡ None
