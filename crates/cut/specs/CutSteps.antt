-- What is shown of the cut, in document 01's words (section 4).
use Rattle.std.specs.Prelude.{◌-◌, ◌<◌, ◌≡◌, true, false, ◌↔◌}
use Rattle.countdown.specs.Countdown.{armed, cleared}
use Rattle.console.specs.Set.{with_cursor_mode, with_cursor_escape_byte, with_block_remaining, with_block_ready_in, with_block_setup_cells, with_arb_pend}
use Rattle.console.specs.Set.{with_arb_granted_ahead, with_arb_grant_counted, with_arb_wake_pend_blind}
use Rattle.console.specs.declared.vram_dma.HaltArbiter.{HaltArbiter}
use Rattle.console.specs.declared.vram_dma.TransferMode.TheVariants as mode
use Rattle.console.specs.declared.vram_dma.VramDma.{VramDma}
use Rattle.cut.specs.Cut.{ready_block, outcome_of, upward_of, engine_after}
use Rattle.cut.specs.declared.SwitchOutcome.TheVariants.{None, Discarded, Cut}

-- a latched block that is ready, which a cut takes and 13 asks for: whatever is left of the transfer
pub record ReadyBlock (d : VramDma) : Type 0 where
  pub latched : 0 < d.block.remaining
  pub ready : d.block.ready_in.0 ≡ 0

-- "Every upward switch drops the pend and arms the blind of 6", of the arbiter
abbrev pub every_arb : HaltArbiter → HaltArbiter
every_arb a = with_arb_pend false (with_arb_wake_pend_blind (armed 6) a)

pub record CutSteps : Type 0 where
  pub ready_block_lem : (d : VramDma) → (ready_block d ≡ true) ↔ ReadyBlock d
  -- "An upward switch with a latched block lowers granted (never below 0)"
  pub lowers : (d : VramDma) → 0 < d.block.remaining → (upward_of d).arb.granted_ahead ≡ d.arb.granted_ahead - 1
  -- and forgets that the block was counted; beside what every upward switch does the arbiter stays
  pub lowers_only :
      (d : VramDma) → 0 < d.block.remaining →
      (upward_of d).arb ≡ every_arb (with_arb_granted_ahead (d.arb.granted_ahead - 1) (with_arb_grant_counted false d.arb))
  -- "If the block is ready it is *cut*: mode Idle, block 1, one escape byte owed"; what is left stays
  pub cuts :
      (d : VramDma) → ready_block d ≡ true →
      (outcome_of true d ≡ Cut) ×
      ((upward_of d).cursor.mode ≡ mode.Idle) ×
      ((upward_of d).block.remaining ≡ 1) ×
      ((upward_of d).cursor.escape_byte ≡ true) ×
      ((upward_of d).cursor.remaining ≡ d.cursor.remaining)
  -- and nothing else: pointers and quota stay, and so does a set-up cell
  pub cuts_only :
      (d : VramDma) → ready_block d ≡ true →
      ((upward_of d).cursor ≡ with_cursor_mode mode.Idle (with_cursor_escape_byte true d.cursor)) ×
      ((upward_of d).block ≡ with_block_remaining 1 d.block)
  -- "If not, it is discarded"
  pub discards :
      (d : VramDma) → 0 < d.block.remaining → ready_block d ≡ false →
      (outcome_of true d ≡ Discarded) × ((upward_of d).block.remaining ≡ 0) × ((upward_of d).cursor ≡ d.cursor)
  -- with its set-up cell and its readiness
  pub discards_only :
      (d : VramDma) → 0 < d.block.remaining → ready_block d ≡ false →
      (upward_of d).block ≡ with_block_remaining 0 (with_block_ready_in cleared (with_block_setup_cells cleared d.block))
  -- "Every upward switch drops the pend and arms the blind of 6"
  pub every : (d : VramDma) → ((upward_of d).arb.pend ≡ false) × ((upward_of d).arb.wake_pend_blind ≡ armed 6)
  pub keeps_oam : (d : VramDma) → (upward_of d).oam ≡ d.oam
  -- "without a latched block, and downward, it is none"; downward the engine stays as it is
  pub no_block :
      (d : VramDma) → d.block.remaining ≡ 0 →
      (outcome_of true d ≡ None) × ((upward_of d).cursor ≡ d.cursor) × ((upward_of d).block ≡ d.block)
  -- granted too: without a latched block only what every upward switch does is done
  pub no_block_arb : (d : VramDma) → d.block.remaining ≡ 0 → (upward_of d).arb ≡ every_arb d.arb
  pub downward : (d : VramDma) → (outcome_of false d ≡ None) × (engine_after false d ≡ d)
