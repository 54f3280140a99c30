-- What is shown of writes by their addresses (document 01, section 1; registers.rs, `map_write_byte`), for every address.
use Rattle.std.specs.Prelude.{ℕ, ◌+◌, ◌-◌, ◌*◌, ◌/◌, ◌%◌, ◌≤◌, ◌≡◌, true, false, List, Some, None, set}
use Rattle.console.specs.Set.{with_dmg_compat, with_vram_dma, with_svbk, with_key1_armed, with_vram, with_vram_selected, with_ff_72}
use Rattle.console.specs.Set.{with_ff_73, with_ff_74, with_ff_75}
use Rattle.console.specs.Set.{with_extra_oam, with_object_dma}
use Rattle.console.specs.declared.Cgb.{Cgb}
use Rattle.hdma.specs.Pointers.{with_high, with_low}
use Rattle.hdma.specs.Hdma5.{hdma5_written}
use Rattle.registers.specs.Ram.{wram_index_of}
use Rattle.registers.specs.MapSteps.{MappedWrite, LocksWrite}
use Rattle.map_write.specs.Write.{MapWritten, with_source, with_dest, map_write_of, wram_after}
use Rattle.map_write.specs.declared.WriteInput.{WriteInput}

pub record MapWrites (s : Cgb) (wram : List ℕ) (w : WriteInput) (a : ℕ) : Type 0 where
  -- 4: "address not in the call's map"; there a write leaves everything
  pub unmapped : (MappedWrite a → ⊥) → map_write_of s w a ≡ record { mapped = false; state = s }
  -- the byte of work RAM at the address's index, of which `RamSteps` tells, is replaced, and nothing else
  pub ram : (index : ℕ) → wram_index_of s.svbk a ≡ Some index → wram_after s wram w.value a ≡ set wram index w.value
  pub ram_state : (index : ℕ) → wram_index_of s.svbk a ≡ Some index → map_write_of s w a ≡ record { mapped = true; state = s }
  -- no other write touches work RAM
  pub elsewhere : wram_index_of s.svbk a ≡ None → wram_after s wram w.value a ≡ wram
  -- "FEA0–FEFF is 24 bytes, index ((address / 32) mod 8 − 5) × 8 + address mod 8"
  pub extra :
      0xFEA0 ≤ a → a ≤ 0xFEFF →
      map_write_of s w a ≡ record { mapped = true; state = with_extra_oam (set s.extra_oam ((a / 32 % 8 - 5) * 8 + a % 8) w.value) s }

-- what a write to each register leaves where compat locks nothing (FF51 to FF54: `PointerWrites`)
pub record RegisterWrites (s : Cgb) (w : WriteInput) : Type 0 where
  -- "KEY0: boot-locked, ignore"
  pub ff4c : (map_write_of s w 0xFF4C).state ≡ s
  -- bit 0 arms the switch
  pub ff4d_arms : w.value % 2 ≡ 1 → (map_write_of s w 0xFF4D).state ≡ with_key1_armed true s
  pub ff4d_disarms : w.value % 2 ≡ 0 → (map_write_of s w 0xFF4D).state ≡ with_key1_armed false s
  -- bit 0 is the bank
  pub ff4f : (map_write_of s w 0xFF4F).state ≡ with_vram (with_vram_selected (w.value % 2) s.vram) s
  -- of which `LengthSteps` tells
  pub ff55 : (map_write_of s w 0xFF55).state ≡ with_vram_dma (hdma5_written w.value w.lcd_on s.vram_dma) s
  -- bits 0 to 2
  pub ff70 : (map_write_of s w 0xFF70).state ≡ with_svbk (w.value % 8) s
  pub ff72 : (map_write_of s w 0xFF72).state ≡ with_ff_72 w.value s
  pub ff73 : (map_write_of s w 0xFF73).state ≡ with_ff_73 w.value s
  pub ff74 : (map_write_of s w 0xFF74).state ≡ with_ff_74 w.value s
  -- bits 4 to 6
  pub ff75 : (map_write_of s w 0xFF75).state ≡ with_ff_75 (w.value / 16 % 8 * 16) s

-- FF51 to FF54
pub record PointerWrites (s : Cgb) (w : WriteInput) : Type 0 where
  -- "FF51 and FF53 replace the high byte of source and destination"; nothing else of the state changes
  pub ff51 : (map_write_of s w 0xFF51).state ≡ with_source (with_high w.value s.vram_dma.cursor.source) s
  pub ff53 : (map_write_of s w 0xFF53).state ≡ with_dest (with_high w.value s.vram_dma.cursor.dest) s
  -- "FF52 and FF54 the low byte"
  pub ff52 : (map_write_of s w 0xFF52).state ≡ with_source (with_low w.value s.vram_dma.cursor.source) s
  pub ff54 : (map_write_of s w 0xFF54).state ≡ with_dest (with_low w.value s.vram_dma.cursor.dest) s

-- FF46 (document 02, A1), with or without compat: object DMA starts, or starts over, with the write's page and edge, and nothing else of
-- the state changes
pub record DmaStart (s : Cgb) (w : WriteInput) : Type 0 where
  pub starts :
      map_write_of s w 0xFF46 ≡
      record {
        mapped = true;
        state = with_object_dma (record { running = true; page = w.value; counted = 0; start_edge = w.oam_start_edge }) s;
      }

-- what a write gives, with compat in the state after it
abbrev pub with_compat : MapWritten → MapWritten
with_compat m = record { mapped = m.mapped; state = with_dmg_compat true m.state }

-- "Under compat, writes to FF4D, FF51–FF55, FF70 and FF74 are accepted and do nothing": these addresses and no other
pub record CompatWrites (s : Cgb) (wram : List ℕ) (w : WriteInput) (a : ℕ) : Type 0 where
  -- to the state and to work RAM
  pub locked : LocksWrite a → map_write_of (with_dmg_compat true s) w a ≡ record { mapped = true; state = with_dmg_compat true s }
  pub locked_wram : LocksWrite a → wram_after (with_dmg_compat true s) wram w.value a ≡ wram
  -- at every other address a write does what it does without compat; to work RAM at every address
  pub free : (LocksWrite a → ⊥) → map_write_of (with_dmg_compat true s) w a ≡ with_compat (map_write_of (with_dmg_compat false s) w a)
  pub same_wram : wram_after (with_dmg_compat true s) wram w.value a ≡ wram_after (with_dmg_compat false s) wram w.value a

pub record MapWriteSteps : Type 0 where
  pub by_address : (s : Cgb) (wram : List ℕ) (w : WriteInput) (a : ℕ) → MapWrites s wram w a
  pub registers : (s : Cgb) (w : WriteInput) → s.dmg_compat ≡ false → RegisterWrites s w
  pub pointers : (s : Cgb) (w : WriteInput) → s.dmg_compat ≡ false → PointerWrites s w
  pub dma : (s : Cgb) (w : WriteInput) → DmaStart s w
  pub compat : (s : Cgb) (wram : List ℕ) (w : WriteInput) (a : ℕ) → CompatWrites s wram w a
