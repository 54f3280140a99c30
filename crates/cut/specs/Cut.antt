-- The cut (document 01, section 4; speed_switch.rs, `attempt_speed_switch`): what a switch makes of the engine.
use Rattle.std.specs.Prelude.{◌-◌, Bool, true, false, cond, not, ◌&&◌, ltb}
use Rattle.countdown.specs.Countdown.{armed, cleared, active_of}
use Rattle.console.specs.Set.{with_cursor_mode, with_cursor_escape_byte, with_block_remaining, with_block_ready_in, with_block_setup_cells, with_arb_pend}
use Rattle.console.specs.Set.{with_arb_granted_ahead, with_arb_grant_counted, with_arb_wake_pend_blind, with_dma_cursor, with_dma_block, with_dma_arb}
use Rattle.console.specs.declared.vram_dma.TransferMode.TheVariants as mode
use Rattle.console.specs.declared.vram_dma.VramDma.{VramDma}
use Rattle.cut.specs.declared.SwitchOutcome.{SwitchOutcome}
use Rattle.cut.specs.declared.SwitchOutcome.TheVariants.{None, Discarded, Cut}

-- a latched block that is ready
unfoldable pub ready_block : VramDma → Bool
ready_block d = ltb 0 d.block.remaining && not (active_of d.block.ready_in)

-- "The answer says none, discarded or cut; without a latched block, and downward, it is none"
unfoldable pub outcome_of : Bool → VramDma → SwitchOutcome
outcome_of up d = cond (up && ltb 0 d.block.remaining) (cond (ready_block d) Cut Discarded) None

-- "An upward switch with a latched block lowers granted (never below 0)"
unfoldable pub ungranted : VramDma → VramDma
ungranted d = with_dma_arb (with_arb_granted_ahead (d.arb.granted_ahead - 1) (with_arb_grant_counted false d.arb)) d

-- "If the block is ready it is *cut*: mode Idle, block 1, one escape byte owed"
unfoldable pub cut_of : VramDma → VramDma
cut_of d =
    with_dma_cursor (with_cursor_mode mode.Idle (with_cursor_escape_byte true d.cursor))
    (with_dma_block (with_block_remaining 1 d.block) d)

-- "If not, it is discarded"
unfoldable pub discarded_of : VramDma → VramDma
discarded_of d = with_dma_block (with_block_remaining 0 (with_block_ready_in cleared (with_block_setup_cells cleared d.block))) d

unfoldable pub graded_of : VramDma → VramDma
graded_of d =
    cond (ltb 0 d.block.remaining) (cond (ready_block d) (cut_of (ungranted d)) (discarded_of (ungranted d))) d

-- "Every upward switch drops the pend and arms the blind of 6"
unfoldable pub upward_of : VramDma → VramDma
upward_of d =
    with_dma_arb (with_arb_pend false (with_arb_wake_pend_blind (armed 6) (graded_of d).arb)) (graded_of d)

unfoldable pub engine_after : Bool → VramDma → VramDma
engine_after up d = cond up (upward_of d) d
