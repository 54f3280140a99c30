-- Where a source byte is read (document 01, section 3): "Reading order: 8000h–9FFFh and E000h up give FF; C000h–DFFFh is
-- WRAM, D000h up in bank FF70 (0 means 1); the rest is storage."
use Rattle.std.specs.Prelude.{ℕ, ◌+◌, ◌-◌, ◌*◌, cond, List, ltb, get_or}
use Rattle.memory.specs.Wram.{banked_index}
use Rattle.bus.specs.declared.commit.Banks.{Banks}

-- the byte at an address, where 8000h–9FFFh gives `video`; storage is the "cartridge slice, index = address below 8000h,
-- address − 2000h from A000h to BFFFh"
unfoldable pub source_byte : ℕ → List ℕ → List ℕ → ℕ → ℕ → ℕ
source_byte video cartridge wram svbk a =
    cond (ltb a 0x8000) (get_or cartridge a 0)
    (cond (ltb a 0xA000) video
    (cond (ltb a 0xC000) (get_or cartridge (a - 0x2000) 0)
    (cond (ltb a 0xD000) (get_or wram (a - 0xC000) 0)
    (cond (ltb a 0xE000) (get_or wram (banked_index svbk (a - 0xD000)) 0) 0xFF))))

-- as this engine reads: VRAM gives FF
abbrev pub hdma_byte : List ℕ → List ℕ → ℕ → ℕ → ℕ
hdma_byte cartridge wram svbk a = source_byte 0xFF cartridge wram svbk a

-- as object DMA reads (document 02, A1): "through the same read rules and stand-ins, except that 8000h–9FFFh reads VRAM in the bank
-- of FF4F"
abbrev pub object_byte : Banks → List ℕ → List ℕ → List ℕ → ℕ → ℕ
object_byte banks cartridge wram vram a =
    source_byte (get_or vram (banks.vram * 8192 + (a - 0x8000)) 0) cartridge wram banks.svbk a
