-- LCD off does what the Rust's method does (specs, `LcdSteps`). Assumes nothing.
use mathlib.Core.Path.{◌≡◌, refl, ap}
use mathlib.Core.Bool.{Bool, true, false, cond, not, ◌&&◌, false≢true}
use mathlib.Core.Logic.Iff
use mathlib.Core.Logic.{◌↔◌}
use lib.Dec.{ltb, eqb}
use Rattle.console.specs.Modes.{is_hblank}
use Rattle.console.specs.declared.vram_dma.TransferMode.{TransferMode}
use Rattle.console.specs.declared.vram_dma.TransferMode.TheVariants.{Idle, General, HBlank}
use Rattle.console.specs.declared.vram_dma.VramDma.{VramDma}
use Rattle.transfer.specs.Latch.{latched_block, latched_of, unclaimed, latches_dark, lcd_disabled_of}
use Rattle.transfer.specs.LcdSteps.{Waits, LcdSteps}
use Rattle.transfer.proofs.Conditions.{when_lt, when_eq, when_not, when_both, when_false}

when_hblank : (m : TransferMode) → (is_hblank m ≡ true) ↔ (m ≡ HBlank)
when_hblank Idle = (λ e. absurd (false≢true e), λ e. ap is_hblank e)
when_hblank General = (λ e. absurd (false≢true e), λ e. ap is_hblank e)
when_hblank HBlank = (λ e. refl, λ e. refl)

module _ (d : VramDma) where
  when_waits : (latches_dark d ≡ true) ↔ Waits d
  unfolding latches_dark
  when_waits =
      let hblank : Bool = is_hblank d.cursor.mode in
      let left : Bool = ltb 0 d.cursor.remaining in
      let free : Bool = not d.block.taken in
      let none : Bool = eqb d.block.remaining 0 in
      Iff.trans
      (when_both (hblank && left && free) none
      (when_both (hblank && left) free
      (when_both hblank left (when_hblank d.cursor.mode) (when_lt 0 d.cursor.remaining))
      (when_not d.block.taken))
      (when_eq d.block.remaining 0)) (
        λ h. record { hblank = h.0.0.0; left = h.0.0.1; not_taken = h.0.1; no_block = h.1 },
        λ k. (((k.hblank, k.left), k.not_taken), k.no_block),
      )

  cursor : (b : Bool) → (cond b (latched_of (unclaimed d)) (unclaimed d)).cursor ≡ d.cursor
  unfolding latched_of
  cursor true = refl
  cursor false = refl

  oam : (b : Bool) → (cond b (latched_of (unclaimed d)) (unclaimed d)).oam ≡ d.oam
  unfolding latched_of
  oam true = refl
  oam false = refl

  pub lcd_steps : LcdSteps d
  unfolding lcd_disabled_of latched_of latched_block
  lcd_steps =
      record {
        cursor = cursor (latches_dark d);
        oam = oam (latches_dark d);
        served = λ k. let e : latches_dark d ≡ true = when_waits.1 k in (rw e, rw e);
        not_served = λ k. let e : latches_dark d ≡ false = (when_false (latches_dark d) when_waits).1 k in (rw e, rw e);
      }
