-- Where the port's calls agree with Pan Docs, fact by fact (`Agreement`), and where they do not (`Difference`): of the rows
-- of docs/DIFFERENCES.md, part II, those whose run needs no bus call; the other rows name what holds them. The calls are
-- the engine's, on any state that passes refusal 7, in CGB mode unless said otherwise.
use Rattle.std.specs.Prelude.{ℕ, ◌+◌, ◌-◌, ◌*◌, ◌<◌, ◌≤◌, ◌≡◌, Bool, true, false, not, List, None, Ok, Err}
use Rattle.std.proofs.Math.ListN as list
use Rattle.console.specs.Modes.{is_hblank}
use Rattle.console.specs.PowerOn.{power_on_of}
use Rattle.console.specs.Reached.{unreached}
use Rattle.console.specs.Refusals.{refusal_number, Numbered}
use Rattle.console.specs.declared.Cgb.{Cgb}
use Rattle.console.specs.declared.object.ObjectDma.{ObjectDma}
use Rattle.console.specs.declared.refusal.Refusal.TheVariants.{Held, Page}
use Rattle.console.specs.declared.vram_dma.TransferMode.TheVariants as mode
use Rattle.memory.specs.Lengths.{wram_length}
use Rattle.transfer.specs.Questions.{write_address}
use Rattle.estimate.specs.Estimate.{estimate_of, estimated_cycles}
use Rattle.object_dma.specs.ObjectDma.{runs, source_of, target_of, after_byte}
use Rattle.engine.specs.Calls.{write_refusal, read_of, write_of, fall_call_of, switch_refusal, switch_call_of}
use Rattle.fall_stages.specs.declared.FallInput.{FallInput}
use Rattle.speed_switch.specs.declared.switch.SwitchInput.{SwitchInput}
use Rattle.memory.specs.Wram as port
use Rattle.pan_docs.specs.PanDocs as pan

pub record CgbMode (s : Cgb) : Type 0 where
  pub reached : unreached s ≡ false
  pub unlocked : s.dmg_compat ≡ false

-- work RAM of the length that is asked for
abbrev pub Whole : List ℕ → Type 0
Whole wram = list.length wram ≡ wram_length

-- the state after a write of v, with the LCD on or off, and with any edge for object DMA
abbrev pub state_after_write : ℕ → ℕ → Bool → ℕ → Cgb → Cgb
state_after_write a v lcd edge s = (write_of s (record { value = v; lcd_on = lcd; oam_start_edge = edge }) a wram_length).state

-- object DMA with k bytes counted
abbrev pub transferring : ℕ → ℕ → ℕ → ObjectDma
transferring p k edge = record { running = true; page = p; counted = k; start_edge = edge }

-- a read of an address gives a byte, whatever work RAM holds
abbrev pub Reads : Cgb → ℕ → ℕ → Type 0
Reads s a v = (wram : List ℕ) → Whole wram → read_of s wram a ≡ Ok v

pub record Agreement : Type 0 where
  -- KEY0 is locked
  pub key0_locked : (s : Cgb) (v : ℕ) (lcd : Bool) (edge : ℕ) → CgbMode s → state_after_write 0xFF4C v lcd edge s ≡ s
  -- KEY1 reads the speed in bit 7 and the arming in bit 0
  pub key1_reads : (s : Cgb) → CgbMode s → Reads s 0xFF4D (pan.key1 s.double_speed s.key1_armed)
  -- bit 0 written to KEY1 arms the switch, and bit 7 is read-only
  pub key1_arms :
      (s : Cgb) (v : ℕ) (lcd : Bool) (edge : ℕ) → CgbMode s →
      (pan.flag_bit (state_after_write 0xFF4D v lcd edge s).key1_armed ≡ pan.bit_at 0 v) ×
      ((state_after_write 0xFF4D v lcd edge s).double_speed ≡ s.double_speed)
  -- an accepted switch changes the speed, both directions alike, and bit 0 is then 0 again
  pub switch_flips :
      (s : Cgb) (i : SwitchInput) → switch_refusal s i ≡ None →
      ((switch_call_of s i).state.double_speed ≡ not s.double_speed) × ((switch_call_of s i).state.key1_armed ≡ false)
  -- and it happens only with bit 0 set
  pub switch_armed : (s : Cgb) (i : SwitchInput) → switch_refusal s i ≡ None → s.key1_armed ≡ true
  -- VBK selects by bit 0, and reads it back
  pub vbk_selects : (s : Cgb) (v : ℕ) (lcd : Bool) (edge : ℕ) → CgbMode s → (state_after_write 0xFF4F v lcd edge s).vram.selected ≡ pan.bit_at 0 v
  pub vbk_reads : (s : Cgb) → CgbMode s → Reads s 0xFF4F (pan.vbk s.vram.selected)
  -- FF51 and FF52, in this order, set the source
  pub source_set :
      (s : Cgb) (high low : ℕ) (lcd : Bool) (edge : ℕ) → CgbMode s → low < 256 →
      (state_after_write 0xFF52 low lcd edge (state_after_write 0xFF51 high lcd edge s)).vram_dma.cursor.source ≡ pan.source high low
  -- FF53 and FF54, in this order, set where the next byte lands
  pub destination_set :
      (s : Cgb) (high low : ℕ) (lcd : Bool) (edge : ℕ) → CgbMode s → low < 256 →
      write_address (state_after_write 0xFF54 low lcd edge (state_after_write 0xFF53 high lcd edge s)).vram_dma.cursor ≡ pan.destination high low
  -- FF51 to FF54 are write-only
  pub pointers_hidden :
      (s : Cgb) → CgbMode s →
      Reads s 0xFF51 pan.write_only × Reads s 0xFF52 pan.write_only × Reads s 0xFF53 pan.write_only × Reads s 0xFF54 pan.write_only
  -- FF55 sets the length where it starts a transfer: always, but with bit 7 clear while an HBlank transfer runs
  pub length-set :
      (s : Cgb) (v : ℕ) (lcd : Bool) (edge : ℕ) → CgbMode s → (s.vram_dma.cursor.mode ≡ mode.HBlank → pan.bit_at 7 v ≡ 1) →
      (state_after_write 0xFF55 v lcd edge s).vram_dma.cursor.remaining ≡ pan.transfer_length v
  -- bit 7 set starts an HBlank transfer; clear, where none runs, a General one
  pub hblank_starts :
      (s : Cgb) (v : ℕ) (lcd : Bool) (edge : ℕ) → CgbMode s → v < 256 → pan.bit_at 7 v ≡ 1 →
      (state_after_write 0xFF55 v lcd edge s).vram_dma.cursor.mode ≡ mode.HBlank
  pub general_starts :
      (s : Cgb) (v : ℕ) (lcd : Bool) (edge : ℕ) → CgbMode s → v < 256 → pan.bit_at 7 v ≡ 0 →
      is_hblank s.vram_dma.cursor.mode ≡ false → (state_after_write 0xFF55 v lcd edge s).vram_dma.cursor.mode ≡ mode.General
  -- bit 7 clear while one runs stops it (what FF55 then reads differs: `cancel_stores`)
  pub cancel_stops :
      (s : Cgb) (v : ℕ) (lcd : Bool) (edge : ℕ) → CgbMode s → v < 256 → pan.bit_at 7 v ≡ 0 →
      s.vram_dma.cursor.mode ≡ mode.HBlank → (state_after_write 0xFF55 v lcd edge s).vram_dma.cursor.mode ≡ mode.Idle
  -- FF55 reads the blocks that remain − 1 while an HBlank transfer runs, with whole blocks left and none counted out ahead
  pub running_reads :
      (s : Cgb) (remaining : ℕ) → CgbMode s → s.vram_dma.cursor.mode ≡ mode.HBlank →
      s.vram_dma.arb.granted_ahead ≡ 0 → s.vram_dma.cursor.remaining ≡ 16 * remaining → 0 < remaining → remaining ≤ 128 →
      Reads s 0xFF55 (pan.hdma5_running remaining)
  -- and FF where nothing is left
  pub complete_reads : (s : Cgb) → CgbMode s → s.vram_dma.cursor.remaining ≡ 0 → Reads s 0xFF55 pan.hdma5_complete
  -- SVBK selects the bank at D000 to DFFF
  pub svbk_selects :
      (s : Cgb) (v : ℕ) (lcd : Bool) (edge : ℕ) → CgbMode s → port.wram_bank (state_after_write 0xFF70 v lcd edge s).svbk ≡ pan.work_ram_bank v
  pub banked_reads :
      (s : Cgb) (v i : ℕ) (lcd : Bool) (edge : ℕ) (wram : List ℕ) → CgbMode s → Whole wram → i < 4096 →
      read_of (state_after_write 0xFF70 v lcd edge s) wram (0xD000 + i) ≡ Ok (list.get_or wram (pan.work_ram_bank v * 4096 + i) 0)
  -- DMA starts from the page written, with or without compat; one above the last is declined
  pub dma_starts :
      (s : Cgb) (p : ℕ) (lcd : Bool) (edge : ℕ) → unreached s ≡ false → p ≤ pan.last_page →
      (state_after_write 0xFF46 p lcd edge s).object_dma ≡ transferring p 0 edge
  pub dma_above : (s : Cgb) (p : ℕ) → unreached s ≡ false → pan.last_page < p → Numbered (write_refusal s p wram_length 0xFF46) Page 21
  -- it runs for 160 bytes, the one with the number k from its place of the page to its place in OAM (`Copies` of `object_dma_run` tells of all)
  pub dma_moves :
      (p k edge : ℕ) → k < pan.page_bytes →
      (runs (transferring p k edge) ≡ true) ×
      (source_of (transferring p k edge) ≡ pan.object_source p k) × (target_of (transferring p k edge) ≡ pan.object_target k)
  -- with the last of them it ends
  pub dma_ends : (p edge : ℕ) → runs (after_byte (transferring p (pan.page_bytes - 1) edge)) ≡ false
  -- FF72, FF73 and FF74 read what was written; FF75 its bits 4 to 6
  pub ff72_reads : (s : Cgb) (v : ℕ) (lcd : Bool) (edge : ℕ) → CgbMode s → Reads (state_after_write 0xFF72 v lcd edge s) 0xFF72 v
  pub ff73_reads : (s : Cgb) (v : ℕ) (lcd : Bool) (edge : ℕ) → CgbMode s → Reads (state_after_write 0xFF73 v lcd edge s) 0xFF73 v
  pub ff74_reads : (s : Cgb) (v : ℕ) (lcd : Bool) (edge : ℕ) → CgbMode s → Reads (state_after_write 0xFF74 v lcd edge s) 0xFF74 v
  pub ff75_reads : (s : Cgb) (v : ℕ) (lcd : Bool) (edge : ℕ) → CgbMode s → Reads (state_after_write 0xFF75 v lcd edge s) 0xFF75 (pan.ff75 v)
  -- outside CGB mode FF74 is locked and reads FF
  pub ff74_locked : (s : Cgb) → unreached s ≡ false → s.dmg_compat ≡ true → Reads s 0xFF74 0xFF
  -- at single speed a block of a General transfer takes 8 M-cycles
  pub time : (v : ℕ) → estimate_of v ≡ pan.mcycles v
  -- by its destination register too: 8 M-cycles a block at single speed and 16 of the shorter ones at double, and so long it takes
  -- (`general_time`), where the register has room for the length (where it has not: `time_short`)
  pub time_with_room : (v destination : ℕ) → pan.transfer_length v + destination ≤ 65536 → estimated_cycles v destination false ≡ pan.mcycles v
  pub time_double_with_room :
      (v destination : ℕ) → pan.transfer_length v + destination ≤ 65536 → estimated_cycles v destination true ≡ pan.mcycles_double v

-- a fall in mode 0, of a CPU that runs or is halted
abbrev pub mode0 : Bool → FallInput
mode0 halted = record { mode = 0; halted = halted; irq_latched = false; stopped = false; master_edge = 0; oam_owns_bus = false }

abbrev pub state_after_fall : Bool → Cgb → Cgb
state_after_fall halted s = (fall_call_of s (mode0 halted)).state

-- a switch attempt with no interrupt ready, held or not
abbrev pub attempt : Bool → SwitchInput
attempt hold = record { hold = hold; dot_phase = 4; interrupt_ready = false; master_edge = 0 }

-- where the port follows the Rust and not Pan Docs, each with the other's value where Pan Docs has one
pub record Difference : Type 0 where
  -- a cancel stores the written length: 83 armed and cancelled by 00 reads 80, where Pan Docs has 83 (four blocks remained)
  pub cancel_stores :
      Reads (state_after_write 0xFF55 0x00 true 0 (state_after_write 0xFF55 0x83 true 0 (power_on_of false))) 0xFF55 0x80 × (pan.hdma5_cancelled 4 ≡ 0x83)
  -- the destination keeps all 16 bits: 2000h stays, which Pan Docs does not tell from 0000h
  pub destination_kept :
      ((state_after_write 0xFF53 0x20 true 0 (power_on_of false)).vram_dma.cursor.dest ≡ 0x2000) × (pan.destination 0x20 0x00 ≡ pan.destination 0x00 0x00)
  -- a block is counted out at its commit: armed with 80, two falls later FF, and no byte has moved; Pan Docs has 00
  pub counted_at_commit :
      ((state_after_fall false (state_after_fall false (state_after_write 0xFF55 0x80 true 0 (power_on_of false)))).vram_dma.cursor.remaining ≡ 16) ×
      Reads (state_after_fall false (state_after_fall false (state_after_write 0xFF55 0x80 true 0 (power_on_of false)))) 0xFF55 0xFF ×
      (pan.hdma5_running 1 ≡ 0x00)
  -- a General transfer under way is seen as bit 7 set over its length, where Pan Docs lets nobody look
  pub general_seen : Reads (state_after_write 0xFF55 0x00 true 0 (power_on_of false)) 0xFF55 0x80
  -- the estimate from the value alone is 8 M-cycles a block at either speed, where Pan Docs has 16 at double
  pub time_double : (estimate_of 0x00 ≡ 8) × (pan.mcycles_double 0x00 ≡ 16)
  -- past FFFFh the destination register carries, and the transfer ends, where Pan Docs knows no carry: without room for the length the
  -- estimate is less at double speed, and at single speed where two bytes or more are missing
  pub time_short :
      (v destination : ℕ) → 65536 < pan.transfer_length v + destination →
      (estimated_cycles v destination true < pan.mcycles_double v) ×
      (65537 < pan.transfer_length v + destination → estimated_cycles v destination false < pan.mcycles v)
  -- two blocks to FFF0h take 8 M-cycles, 16 at double speed; Pan Docs has 16 and 32
  pub time_carried :
      (estimated_cycles 0x01 0xFFF0 false ≡ 8) × (pan.mcycles 0x01 ≡ 16) × (estimated_cycles 0x01 0xFFF0 true ≡ 16) × (pan.mcycles_double 0x01 ≡ 32)
  -- an entry in a halt is counted out at once, where Pan Docs has the transfer pause
  pub halt_counts : Reads (state_after_fall true (state_after_write 0xFF55 0x80 true 0 (power_on_of false))) 0xFF55 0xFF × (pan.hdma5_running 1 ≡ 0x00)
  -- a switch blacks out 131,077 master edges upward, where Pan Docs has the CPU stand still for 2,050 M-cycles
  pub switch_length :
      ((switch_call_of (state_after_write 0xFF4D 0x01 true 0 (power_on_of false)) (attempt false)).state.speed_switch_blackout ≡ 131077) ×
      (pan.switch_mcycles ≡ 2050)
  -- a switch is declined under hold, where Pan Docs has a STOP with bit 0 set switch
  pub switch_held : ((switch_call_of (state_after_write 0xFF4D 0x01 true 0 (power_on_of false)) (attempt true)).answer ≡ Err Held) × (refusal_number Held ≡ 5)
  -- FF4F is not locked under compat, where a locked register reads FF
  pub vbk_unlocked : Reads (power_on_of true) 0xFF4F 0xFE
  -- FF70 reads back the written 0, and FF4C reads 00, of which Pan Docs says nothing
  pub svbk_read_back : Reads (state_after_write 0xFF70 0x00 true 0 (power_on_of false)) 0xFF70 0xF8
  pub key0_reads : Reads (power_on_of false) 0xFF4C 0x00
  -- FEA0 to FEFF are 24 bytes, address bits 3 and 4 ignored, where Pan Docs lets console revisions differ
  pub extra_oam : Reads (state_after_write 0xFEA0 0x12 true 0 (power_on_of false)) 0xFEA8 0x12
