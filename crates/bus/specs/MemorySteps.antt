-- What is shown of where a byte is read and stored (document 01, section 3 and the stand-ins).
use Rattle.std.specs.Prelude.{ℕ, ◌+◌, ◌-◌, ◌*◌, ◌<◌, ◌≤◌, ◌≡◌, cond, List, ◌⊎◌, eqb, set, get_or}
use Rattle.bus.specs.Source.{hdma_byte, object_byte}
use Rattle.bus.specs.Store.{vram_with, oam_with}
use Rattle.bus.specs.declared.commit.Banks.{Banks}

-- "Reading order: 8000h–9FFFh and E000h up give FF; C000h–DFFFh is WRAM, D000h up in bank FF70 (0 means 1); the rest is storage."
pub record ReadingOrder (cartridge wram : List ℕ) (svbk a : ℕ) : Type 0 where
  pub video : 0x8000 ≤ a → a ≤ 0x9FFF → hdma_byte cartridge wram svbk a ≡ 0xFF
  pub upper : 0xE000 ≤ a → hdma_byte cartridge wram svbk a ≡ 0xFF
  pub fixed : 0xC000 ≤ a → a ≤ 0xCFFF → hdma_byte cartridge wram svbk a ≡ get_or wram (a - 0xC000) 0
  pub banked : 0xD000 ≤ a → a ≤ 0xDFFF → hdma_byte cartridge wram svbk a ≡ get_or wram (cond (eqb svbk 0) 1 svbk * 4096 + (a - 0xD000)) 0
  -- "cartridge slice, index = address below 8000h, address − 2000h from A000h to BFFFh"
  pub low : a < 0x8000 → hdma_byte cartridge wram svbk a ≡ get_or cartridge a 0
  pub high : 0xA000 ≤ a → a ≤ 0xBFFF → hdma_byte cartridge wram svbk a ≡ get_or cartridge (a - 0x2000) 0

-- object DMA reads (document 02, A1) "through the same read rules and stand-ins, except that 8000h–9FFFh reads VRAM in the bank of FF4F";
-- its pages end at DFh
pub record ObjectSource (banks : Banks) (cartridge wram vram : List ℕ) (a : ℕ) : Type 0 where
  pub video : 0x8000 ≤ a → a ≤ 0x9FFF → object_byte banks cartridge wram vram a ≡ get_or vram (banks.vram * 8192 + (a - 0x8000)) 0
  pub other : (a < 0x8000) ⊎ (0x9FFF < a) → object_byte banks cartridge wram vram a ≡ hdma_byte cartridge wram banks.svbk a

-- "dma_commit: VRAM index = FF4F bank × 8192 + address − 8000h; OAM index = address − FE00h up to FE9Fh; above that nothing is
-- stored"
pub record Stored (memory : List ℕ) (a byte : ℕ) : Type 0 where
  pub vram : (bank : ℕ) → vram_with memory bank a byte ≡ set memory (bank * 8192 + (a - 0x8000)) byte
  pub oam : a ≤ 0xFE9F → oam_with memory a byte ≡ set memory (a - 0xFE00) byte
  pub above : 0xFE9F < a → oam_with memory a byte ≡ memory
