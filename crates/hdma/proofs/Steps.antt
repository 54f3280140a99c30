-- The writes to FF51 to FF55 do what document 01 says of them (specs, `WriteSteps`). Assumes nothing.
use Prim.Native.Nat.{ℕ}
use native.Mathlib.Omega.{arith}
use mathlib.Core.Path.{◌≡◌, refl}
use mathlib.Core.Bool.{Bool, true, false, cond}
use lib.Dec.{leb}
use borrow.Author.Tests.{le-leb, lt-leb}
use Rattle.console.specs.Modes.{is_hblank}
use Rattle.console.specs.Set.{with_cursor_mode, with_cursor_remaining, with_arb_armed_this_fall, with_arb_pend_from_arm, with_dma_arb}
use Rattle.console.specs.declared.vram_dma.VramDma.{VramDma}
use Rattle.transfer.specs.Latch.{latched_of, latched_block}
use Rattle.hdma.specs.Hdma5.{length_of, grants_cleared, armed_of, cancelled_of, general_started, hdma5_written}
use Rattle.hdma.specs.Steps.{PointerSteps, LengthSteps, WriteSteps}
use Rattle.hdma.proofs.Written.{chosen, arms, disarms, starts, block_survives, lcd_on_keeps_block, lcd_off_latches}

pointers : (v pointer : ℕ) → PointerSteps v pointer
pointers v pointer =
    record {
      high = omega arith;
      high_keeps = omega arith;
      low = λ byte. omega arith;
      low_zero = omega arith;
      low_keeps = λ byte. omega arith;
      high_fits = λ byte. omega arith;
      low_fits = λ byte wide. omega arith;
    }

-- what a write changes, whichever of the three it does
record Touched (n : ℕ) (d e : VramDma) : Type 0 where
  pub left : e.cursor ≡ with_cursor_mode e.cursor.mode (with_cursor_remaining n d.cursor)
  pub marks :
      e.arb ≡ with_arb_armed_this_fall e.arb.armed_this_fall (with_arb_pend_from_arm e.arb.pend_from_arm (grants_cleared d.arb))
  pub oam : e.oam ≡ d.oam

touched : (arms lcd armed : Bool) (n : ℕ) (d : VramDma) → Touched n d (chosen arms lcd armed n (with_dma_arb (grants_cleared d.arb) d))
unfolding chosen armed_of cancelled_of general_started latched_of
touched true true armed n d = record { left = refl; marks = refl; oam = refl }
touched true false armed n d = record { left = refl; marks = refl; oam = refl }
touched false lcd true n d = record { left = refl; marks = refl; oam = refl }
touched false lcd false n d = record { left = refl; marks = refl; oam = refl }

-- the two marks of an arming
strobed : (lcd : Bool) (n : ℕ) (d : VramDma) → (armed_of n lcd d).arb.armed_this_fall ≡ true
unfolding armed_of latched_of
strobed true n d = refl
strobed false n d = refl

-- with bit 7 clear the arbiter is left alone
quiet : (armed : Bool) (n : ℕ) (d : VramDma) → (cond armed (cancelled_of n d) (general_started n d)).arb ≡ d.arb
unfolding cancelled_of general_started
quiet true n d = refl
quiet false n d = refl

module _ (v : ℕ) (lcd : Bool) (d : VramDma) where
  changes : Touched (length_of v) d (hdma5_written v lcd d)
  unfolding hdma5_written chosen
  changes = touched (leb 128 v) lcd (is_hblank d.cursor.mode) (length_of v) d

  arms_mark : leb 128 v ≡ true → (hdma5_written v lcd d).arb.armed_this_fall ≡ true
  unfolding hdma5_written
  arms_mark bit7 = rw bit7 (strobed lcd (length_of v) (with_dma_arb (grants_cleared d.arb) d))

  lit_mark : leb 128 v ≡ true → lcd ≡ true → (hdma5_written v lcd d).arb.pend_from_arm ≡ d.arb.pend_from_arm
  unfolding hdma5_written armed_of
  lit_mark bit7 on = rw (bit7, on)

  dark_mark : leb 128 v ≡ true → lcd ≡ false → (hdma5_written v lcd d).arb.pend_from_arm ≡ true
  unfolding hdma5_written armed_of latched_of
  dark_mark bit7 off = rw (bit7, off)

  clear_arb : leb 128 v ≡ false → (hdma5_written v lcd d).arb ≡ grants_cleared d.arb
  unfolding hdma5_written
  clear_arb bit7 = rw bit7 (quiet (is_hblank d.cursor.mode) (length_of v) (with_dma_arb (grants_cleared d.arb) d))

  length : LengthSteps v lcd d
  unfolding latched_block
  length =
      record {
        left = changes.left;
        marks = changes.marks;
        oam = changes.oam;
        arms = λ set. (arms v lcd d (le-leb 128 v set), arms_mark (le-leb 128 v set));
        arms_lit = λ set on. (rw on (lcd_on_keeps_block v d (le-leb 128 v set)), lit_mark (le-leb 128 v set) on);
        arms_dark = λ set off. (rw off (lcd_off_latches v d (le-leb 128 v set)), dark_mark (le-leb 128 v set) off);
        disarms = λ clear. disarms v lcd d (lt-leb 128 v clear);
        starts = λ clear. starts v lcd d (lt-leb 128 v clear);
        arms_not = λ clear. (rw (clear_arb (lt-leb 128 v clear)), rw (clear_arb (lt-leb 128 v clear)));
        survives = λ clear. block_survives v lcd d (lt-leb 128 v clear);
      }

pub write_steps : WriteSteps
write_steps = record { pointers = pointers; length = length }
