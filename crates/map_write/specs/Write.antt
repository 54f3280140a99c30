-- Writes (document 01, section 1): what a write to each place leaves.
use Rattle.std.specs.Prelude.{ℕ, ◌*◌, ◌/◌, ◌%◌, Bool, false, cond, ◌&&◌, List, Option, Some, None, eqb, set}
use Rattle.console.specs.Set.{with_cursor_source, with_cursor_dest, with_dma_cursor, with_vram_dma, with_svbk, with_key1_armed, with_vram, with_vram_selected}
use Rattle.console.specs.Set.{with_ff_72, with_ff_73, with_ff_74, with_ff_75, with_extra_oam, with_object_dma}
use Rattle.console.specs.declared.Cgb.{Cgb}
use Rattle.memory.specs.Wram.{banked_index}
use Rattle.hdma.specs.Pointers.{with_high, with_low}
use Rattle.hdma.specs.Hdma5.{hdma5_written}
use Rattle.object_dma.specs.ObjectDma.{started}
use Rattle.registers.specs.Map.{Register, KEY0, KEY1, VBK, HDMA1, HDMA2, HDMA3, HDMA4, HDMA5, SVBK, FF72, FF73, FF74, FF75, Place, work_ram, banked_ram}
use Rattle.registers.specs.Map.{extra_oam, register, dma_start, unmapped, place_of, writable, locks_at}
use Rattle.registers.specs.Ram.{in_ram}
use Rattle.map_write.specs.declared.WriteInput.{WriteInput}

abbrev pub with_source : ℕ → Cgb → Cgb
with_source x s = with_vram_dma (with_dma_cursor (with_cursor_source x s.vram_dma.cursor) s.vram_dma) s

abbrev pub with_dest : ℕ → Cgb → Cgb
with_dest x s = with_vram_dma (with_dma_cursor (with_cursor_dest x s.vram_dma.cursor) s.vram_dma) s

-- the state after a write to each register
abbrev pub register_written : Cgb → WriteInput → Register → Cgb
register_written s w KEY0 = s
register_written s w KEY1 = with_key1_armed (eqb (w.value % 2) 1) s
register_written s w VBK = with_vram (with_vram_selected (w.value % 2) s.vram) s
register_written s w HDMA1 = with_source (with_high w.value s.vram_dma.cursor.source) s
register_written s w HDMA2 = with_source (with_low w.value s.vram_dma.cursor.source) s
register_written s w HDMA3 = with_dest (with_high w.value s.vram_dma.cursor.dest) s
register_written s w HDMA4 = with_dest (with_low w.value s.vram_dma.cursor.dest) s
register_written s w HDMA5 = with_vram_dma (hdma5_written w.value w.lcd_on s.vram_dma) s
register_written s w SVBK = with_svbk (w.value % 8) s
register_written s w FF72 = with_ff_72 w.value s
register_written s w FF73 = with_ff_73 w.value s
register_written s w FF74 = with_ff_74 w.value s
register_written s w FF75 = with_ff_75 (w.value / 16 % 8 * 16) s

-- the state after a write to each place, where nothing is locked
abbrev pub state_at : Cgb → WriteInput → Place → Cgb
state_at s w (work_ram i) = s
state_at s w (banked_ram i) = s
state_at s w (extra_oam i) = with_extra_oam (set s.extra_oam i w.value) s
state_at s w (register r) = register_written s w r
state_at s w dma_start = with_object_dma (started w.value w.oam_start_edge) s
state_at s w unmapped = s

-- work RAM after a write of v to each place
abbrev pub wram_at : Cgb → List ℕ → ℕ → Place → List ℕ
wram_at s wram v (work_ram i) = set wram i v
wram_at s wram v (banked_ram i) = set wram (banked_index s.svbk i) v
wram_at s wram v (extra_oam i) = wram
wram_at s wram v (register r) = wram
wram_at s wram v dma_start = wram
wram_at s wram v unmapped = wram

-- what a write does: whether its address is in the map, and the state after it, which off the map is that of before
pub record MapWritten : Type 0 where
  pub mapped : Bool
  pub state : Cgb

-- what the code hands back of it
abbrev pub state_if_mapped : MapWritten → Option Cgb
state_if_mapped m = cond m.mapped (Some m.state) None

-- a write where nothing is locked: whether the address is mapped, and the state
unfoldable pub stored_of : Cgb → WriteInput → ℕ → MapWritten
stored_of s w a = record { mapped = writable (place_of a); state = state_at s w (place_of a) }

-- under compat a locked register's write is accepted and does nothing
abbrev pub locked : Cgb → ℕ → Bool
locked s a = s.dmg_compat && locks_at a

unfoldable pub map_write_of : Cgb → WriteInput → ℕ → MapWritten
map_write_of s w a = cond (locked s a) (record { mapped = writable (place_of a); state = s }) (stored_of s w a)

-- the same where work RAM does not answer
abbrev pub apart : Cgb → MapWritten → ℕ → MapWritten
apart s written a = cond (in_ram (place_of a)) (record { mapped = false; state = s }) written

unfoldable pub register_stored_of : Cgb → WriteInput → ℕ → MapWritten
register_stored_of s w a = apart s (stored_of s w a) a

unfoldable pub register_write_of : Cgb → WriteInput → ℕ → MapWritten
register_write_of s w a = apart s (map_write_of s w a) a

-- no register's write touches work RAM, so a lock makes no difference to it
unfoldable pub wram_after : Cgb → List ℕ → ℕ → ℕ → List ℕ
wram_after s wram v a = wram_at s wram v (place_of a)
