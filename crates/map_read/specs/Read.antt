-- Reads (document 01, section 1): what stands at each place of the map.
use Rattle.std.specs.Prelude.{ℕ, ◌+◌, ◌*◌, ◌/◌, ◌%◌, Bool, cond, List, Option, Some, None, [], get_or}
use Rattle.console.specs.declared.Cgb.{Cgb}
use Rattle.hdma.specs.Hdma5.{status_byte}
use Rattle.memory.specs.Wram.{banked_index}
use Rattle.registers.specs.Map.{Register, KEY0, KEY1, VBK, HDMA1, HDMA2, HDMA3, HDMA4, HDMA5, SVBK, FF72, FF73, FF74, FF75, Place, work_ram, banked_ram}
use Rattle.registers.specs.Map.{extra_oam, register, dma_start, unmapped, place_of, readable}
use Rattle.registers.specs.Ram.{in_ram}

-- "FF4D reads 7Eh + 128 × speed + armed"
abbrev pub key1_byte : Bool → Bool → ℕ
key1_byte double armed = 0x7E + 128 * cond double 1 0 + cond armed 1 0

-- under compat "FF4C, FF4D, FF70 and FF74 read FF"
abbrev pub locked_byte : Cgb → ℕ → ℕ
locked_byte s byte = cond s.dmg_compat 0xFF byte

-- the byte of each register: HDMA1 to HDMA4 are write-only and read FF, KEY0 reads 00, and of the others the bits that a
-- register lacks read 1
abbrev pub register_byte : Cgb → Register → ℕ
register_byte s KEY0 = locked_byte s 0x00
register_byte s KEY1 = locked_byte s (key1_byte s.double_speed s.key1_armed)
register_byte s VBK = 0xFE + s.vram.selected % 2
register_byte s HDMA1 = 0xFF
register_byte s HDMA2 = 0xFF
register_byte s HDMA3 = 0xFF
register_byte s HDMA4 = 0xFF
register_byte s HDMA5 = status_byte s.vram_dma
register_byte s SVBK = locked_byte s (0xF8 + s.svbk % 8)
register_byte s FF72 = s.ff72
register_byte s FF73 = s.ff73
register_byte s FF74 = locked_byte s s.ff74
register_byte s FF75 = 0x8F + s.ff75 / 16 % 8 * 16

-- the byte at each place
abbrev pub map_byte : Cgb → List ℕ → Place → ℕ
map_byte s wram (work_ram i) = get_or wram i 0
map_byte s wram (banked_ram i) = get_or wram (banked_index s.svbk i) 0
map_byte s wram (extra_oam i) = get_or s.extra_oam i 0
map_byte s wram (register r) = register_byte s r
map_byte s wram dma_start = 0
map_byte s wram unmapped = 0

unfoldable pub map_read_of : Cgb → List ℕ → ℕ → Option ℕ
map_read_of s wram a = cond (readable (place_of a)) (Some (map_byte s wram (place_of a))) None

-- what a read gives where work RAM does not answer
unfoldable pub register_read_of : Cgb → ℕ → Option ℕ
register_read_of s a = cond (in_ram (place_of a)) None (map_read_of s [] a)
