-- What is shown of the writes to FF51 to FF55, in document 01's words (section 1).
use Rattle.std.specs.Prelude.{ℕ, ◌+◌, ◌*◌, ◌/◌, ◌%◌, ◌<◌, ◌≤◌, ◌≡◌, Bool, true, false}
use Rattle.countdown.specs.Countdown.{armed, cleared}
use Rattle.console.specs.Modes.{is_hblank}
use Rattle.console.specs.Set.{with_cursor_mode, with_cursor_remaining, with_block_remaining, with_block_setup_cells, with_block_ready_in}
use Rattle.console.specs.Set.{with_arb_armed_this_fall}
use Rattle.console.specs.Set.{with_arb_pend_from_arm, with_arb_granted_ahead, with_arb_grant_counted, with_arb_pend_granted}
use Rattle.console.specs.declared.vram_dma.TransferMode.TheVariants.{Idle, General, HBlank}
use Rattle.console.specs.declared.vram_dma.VramDma.{VramDma}
use Rattle.hdma.specs.Pointers.{with_high, with_low}
use Rattle.hdma.specs.Hdma5.{hdma5_written}

-- a byte v written into a pointer
pub record PointerSteps (v pointer : ℕ) : Type 0 where
  -- "FF51 and FF53 replace the high byte of source and destination"
  pub high : with_high v pointer / 256 ≡ v
  pub high_keeps : with_high v pointer % 256 ≡ pointer % 256
  -- "FF52 and FF54 the low byte, with its low four bits zero"
  pub low : v < 256 → with_low v pointer % 256 / 16 ≡ v / 16
  pub low_zero : with_low v pointer % 16 ≡ 0
  pub low_keeps : v < 256 → with_low v pointer / 256 ≡ pointer / 256
  -- "Both pointers are the running 16-bit registers"
  pub high_fits : v < 256 → with_high v pointer < 65536
  pub low_fits : v < 256 → pointer < 65536 → with_low v pointer < 65536

-- "FF55 with value v": bit 7 is set from 128 on
pub record LengthSteps (v : ℕ) (lcd : Bool) (d : VramDma) : Type 0 where
  -- "left = ((v mod 128) + 1) × 16"; beside left only the mode changes: pointers, quota and an owed escape stay
  pub left :
      (hdma5_written v lcd d).cursor ≡
      with_cursor_mode (hdma5_written v lcd d).cursor.mode (with_cursor_remaining ((v % 128 + 1) * 16) d.cursor)
  -- "and the grant marks are cleared"; beside these only the two marks of an arming change
  pub marks :
      (hdma5_written v lcd d).arb ≡
      with_arb_armed_this_fall (hdma5_written v lcd d).arb.armed_this_fall
      (with_arb_pend_from_arm (hdma5_written v lcd d).arb.pend_from_arm
      (with_arb_granted_ahead 0 (with_arb_grant_counted false (with_arb_pend_granted false d.arb))))
  pub oam : (hdma5_written v lcd d).oam ≡ d.oam
  -- "Bit 7 set arms HBlank": the next fall knows of it, and with the LCD on nothing else is done
  pub arms : 128 ≤ v → ((hdma5_written v lcd d).cursor.mode ≡ HBlank) × ((hdma5_written v lcd d).arb.armed_this_fall ≡ true)
  pub arms_lit :
      128 ≤ v → lcd ≡ true →
      ((hdma5_written v lcd d).block ≡ d.block) × ((hdma5_written v lcd d).arb.pend_from_arm ≡ d.arb.pend_from_arm)
  -- "with the LCD off it also latches a block of 16, ready in 2": by the arm strobe, so without a set-up cell
  pub arms_dark :
      128 ≤ v → lcd ≡ false →
      ((hdma5_written v lcd d).block ≡ with_block_remaining 16 (with_block_setup_cells cleared (with_block_ready_in (armed 2) d.block))) ×
      ((hdma5_written v lcd d).arb.pend_from_arm ≡ true)
  -- "Bit 7 clear while armed only disarms, storing left; otherwise it starts a General transfer"
  pub disarms : v < 128 → is_hblank d.cursor.mode ≡ true → (hdma5_written v lcd d).cursor.mode ≡ Idle
  pub starts : v < 128 → is_hblank d.cursor.mode ≡ false → (hdma5_written v lcd d).cursor.mode ≡ General
  pub arms_not :
      v < 128 →
      ((hdma5_written v lcd d).arb.armed_this_fall ≡ d.arb.armed_this_fall) ×
      ((hdma5_written v lcd d).arb.pend_from_arm ≡ d.arb.pend_from_arm)
  -- "A latched block survives either way"
  pub survives : v < 128 → (hdma5_written v lcd d).block ≡ d.block

pub record WriteSteps : Type 0 where
  pub pointers : (v pointer : ℕ) → PointerSteps v pointer
  pub length : (v : ℕ) (lcd : Bool) (d : VramDma) → LengthSteps v lcd d
