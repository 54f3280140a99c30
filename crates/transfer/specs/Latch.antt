-- The block that is latched with the LCD off (document 01, section 1: "with the LCD off it also latches a block of 16,
-- ready in 2"; the Rust also marks the pend as from an arm strobe and clears the set-up cells).
use Rattle.std.specs.Prelude.{Bool, true, false, cond, not, ◌&&◌, ltb, eqb}
use Rattle.countdown.specs.Countdown.{armed, cleared}
use Rattle.console.specs.Modes.{is_hblank}
use Rattle.console.specs.Set.{with_block_remaining, with_block_setup_cells, with_block_ready_in, with_dma_block, with_dma_arb}
use Rattle.console.specs.Set.{with_arb_pend_from_arm, with_arb_idle_claim, with_arb_park_waits_for_fetch}
use Rattle.console.specs.declared.vram_dma.HblankBlock.{HblankBlock}
use Rattle.console.specs.declared.vram_dma.VramDma.{VramDma}

unfoldable pub latched_block : HblankBlock → HblankBlock
latched_block b = with_block_remaining 16 (with_block_setup_cells cleared (with_block_ready_in (armed 2) b))

unfoldable pub latched_of : VramDma → VramDma
latched_of d = with_dma_block (latched_block d.block) (with_dma_arb (with_arb_pend_from_arm true d.arb) d)

-- LCD off (section 4: "LCD off .. act as the Rust methods"): the idle claim drops, and an armed transfer that waits latches
-- a block
abbrev pub unclaimed : VramDma → VramDma
unclaimed d = with_dma_arb (with_arb_idle_claim false d.arb) d

unfoldable pub latches_dark : VramDma → Bool
latches_dark d =
    is_hblank d.cursor.mode && ltb 0 d.cursor.remaining && not d.block.taken && eqb d.block.remaining 0

unfoldable pub lcd_disabled_of : VramDma → VramDma
lcd_disabled_of d = cond (latches_dark d) (latched_of (unclaimed d)) (unclaimed d)

-- instruction retired (lib.rs, `vram_dma_instruction_retired`): the park mark goes
abbrev pub retired_of : VramDma → VramDma
retired_of d = with_dma_arb (with_arb_park_waits_for_fetch false d.arb) d
