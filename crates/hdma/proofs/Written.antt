-- What a write to FF55 sets and what it keeps, as laws: what callers cite in place of the definitions. Assumes nothing.
use Prim.Native.Nat.{ℕ, ◌≤◌}
use mathlib.Core.Path.{◌≡◌, refl}
use mathlib.Core.Bool.{Bool, true, false, cond}
use lib.Dec.{leb, lit≤}
use Rattle.console.specs.Modes.{is_hblank}
use Rattle.console.specs.Set.{with_dma_arb}
use Rattle.console.specs.declared.vram_dma.TransferMode.TheVariants.{Idle, General, HBlank}
use Rattle.console.specs.declared.vram_dma.VramDma.{VramDma}
use Rattle.transfer.specs.Latch.{latched_of, latched_block}
use Rattle.hdma.specs.Hdma5.{length_of, grants_cleared, armed_of, cancelled_of, general_started, hdma5_written}

-- the write with its three tests as flags: bit 7, the LCD, armed
unfoldable pub chosen : Bool → Bool → Bool → ℕ → VramDma → VramDma
chosen arms lcd armed n d = cond arms (armed_of n lcd d) (cond armed (cancelled_of n d) (general_started n d))

-- what every write to FF55 leaves: the new length; pointers, quota and an owed escape as they were; a block of at most 16
pub record Kept (n : ℕ) (d e : VramDma) : Type 0 where
  pub left : e.cursor.remaining ≡ n
  pub source : e.cursor.source ≡ d.cursor.source
  pub dest : e.cursor.dest ≡ d.cursor.dest
  pub quota : e.cursor.quota ≡ d.cursor.quota
  pub escape : e.cursor.escape_byte ≡ d.cursor.escape_byte
  pub block : d.block.remaining ≤ 16 → e.block.remaining ≤ 16

kept : (arms lcd armed : Bool) (n : ℕ) (d : VramDma) → Kept n d (chosen arms lcd armed n (with_dma_arb (grants_cleared d.arb) d))
unfolding chosen armed_of cancelled_of general_started latched_of latched_block
kept true true armed n d = record { left = refl; source = refl; dest = refl; quota = refl; escape = refl; block = λ h. h }
kept true false armed n d = record { left = refl; source = refl; dest = refl; quota = refl; escape = refl; block = λ h. lit≤ tt }
kept false lcd true n d = record { left = refl; source = refl; dest = refl; quota = refl; escape = refl; block = λ h. h }
kept false lcd false n d = record { left = refl; source = refl; dest = refl; quota = refl; escape = refl; block = λ h. h }

armed_mode : (lcd : Bool) (n : ℕ) (d : VramDma) → (armed_of n lcd d).cursor.mode ≡ HBlank
unfolding armed_of latched_of
armed_mode true n d = refl
armed_mode false n d = refl

block_kept : (armed : Bool) (n : ℕ) (d : VramDma) → (cond armed (cancelled_of n d) (general_started n d)).block ≡ d.block
unfolding cancelled_of general_started
block_kept true n d = refl
block_kept false n d = refl

module _ (v : ℕ) (lcd : Bool) (d : VramDma) where
  pub keeps : Kept (length_of v) d (hdma5_written v lcd d)
  unfolding hdma5_written chosen
  keeps = kept (leb 128 v) lcd (is_hblank d.cursor.mode) (length_of v) d

  -- bit 7 set arms
  pub arms : leb 128 v ≡ true → (hdma5_written v lcd d).cursor.mode ≡ HBlank
  unfolding hdma5_written
  arms bit7 = rw bit7 (armed_mode lcd (length_of v) (with_dma_arb (grants_cleared d.arb) d))

  -- bit 7 clear while armed only disarms; otherwise it starts a General transfer. A latched block survives either way
  pub disarms : leb 128 v ≡ false → is_hblank d.cursor.mode ≡ true → (hdma5_written v lcd d).cursor.mode ≡ Idle
  unfolding hdma5_written cancelled_of
  disarms bit7 armed = rw (bit7, armed)

  pub starts : leb 128 v ≡ false → is_hblank d.cursor.mode ≡ false → (hdma5_written v lcd d).cursor.mode ≡ General
  unfolding hdma5_written general_started
  starts bit7 armed = rw (bit7, armed)

  pub block_survives : leb 128 v ≡ false → (hdma5_written v lcd d).block ≡ d.block
  unfolding hdma5_written
  block_survives bit7 = rw bit7 (block_kept (is_hblank d.cursor.mode) (length_of v) (with_dma_arb (grants_cleared d.arb) d))

module _ (v : ℕ) (d : VramDma) (bit7 : leb 128 v ≡ true) where
  -- an arming with the LCD on keeps the block; with the LCD off it latches one of 16, ready in 2
  pub lcd_on_keeps_block : (hdma5_written v true d).block ≡ d.block
  unfolding hdma5_written armed_of
  lcd_on_keeps_block = rw bit7

  pub lcd_off_latches : (hdma5_written v false d).block ≡ latched_block d.block
  unfolding hdma5_written armed_of latched_of
  lcd_off_latches = rw bit7
