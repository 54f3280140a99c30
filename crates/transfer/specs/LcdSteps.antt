-- What is shown of LCD off (vram_dma.rs, `vram_dma_on_lcd_disabled`; document 01, section 4: "LCD off .. act as the Rust methods").
use Rattle.std.specs.Prelude.{◌<◌, ◌≡◌, true, false}
use Rattle.countdown.specs.Countdown.{armed, cleared}
use Rattle.console.specs.Set.{with_block_remaining, with_block_setup_cells, with_block_ready_in, with_arb_pend_from_arm, with_arb_idle_claim}
use Rattle.console.specs.declared.vram_dma.TransferMode.TheVariants.{HBlank}
use Rattle.console.specs.declared.vram_dma.VramDma.{VramDma}
use Rattle.transfer.specs.Latch.{lcd_disabled_of}

-- an armed transfer that waits for an HBlank
pub record Waits (d : VramDma) : Type 0 where
  pub hblank : d.cursor.mode ≡ HBlank
  pub left : 0 < d.cursor.remaining
  pub not_taken : d.block.taken ≡ false
  pub no_block : d.block.remaining ≡ 0

pub record LcdSteps (d : VramDma) : Type 0 where
  -- pointers, mode, what is left, and OAM DMA's marks stay
  pub cursor : (lcd_disabled_of d).cursor ≡ d.cursor
  pub oam : (lcd_disabled_of d).oam ≡ d.oam
  -- exactly a transfer that waits is served one block: of 16, ready in 2, without a set-up cell, marked as from an arm strobe
  pub served :
      Waits d →
      ((lcd_disabled_of d).block ≡ with_block_remaining 16 (with_block_setup_cells cleared (with_block_ready_in (armed 2) d.block))) ×
      ((lcd_disabled_of d).arb ≡ with_arb_pend_from_arm true (with_arb_idle_claim false d.arb))
  -- and the idle claim drops in any case
  pub not_served :
      (Waits d → ⊥) → ((lcd_disabled_of d).block ≡ d.block) × ((lcd_disabled_of d).arb ≡ with_arb_idle_claim false d.arb)
