-- A record of the state with one field put anew: `with_block_remaining 16 b` is the block b with 16 bytes left.
-- Written by tools/setters from the structs of src/.
use Rattle.std.specs.Prelude.{ℕ, Bool, List, Option}
use Rattle.countdown.specs.declared.Countdown.{Countdown}
use Rattle.console.specs.declared.Cgb.{Cgb}
use Rattle.console.specs.declared.CgbConsoleState.{CgbConsoleState}
use Rattle.console.specs.declared.CgbVram.{CgbVram}
use Rattle.console.specs.declared.VramDmaClaim.{VramDmaClaim}
use Rattle.console.specs.declared.object.ObjectDma.{ObjectDma}
use Rattle.console.specs.declared.vram_dma.HaltArbiter.{HaltArbiter}
use Rattle.console.specs.declared.vram_dma.HblankBlock.{HblankBlock}
use Rattle.console.specs.declared.vram_dma.OamContention.{OamContention}
use Rattle.console.specs.declared.vram_dma.TransferCursor.{TransferCursor}
use Rattle.console.specs.declared.vram_dma.TransferMode.{TransferMode}
use Rattle.console.specs.declared.vram_dma.VramDma.{VramDma}

abbrev pub with_object_dma_running : Bool → ObjectDma → ObjectDma
with_object_dma_running x s = record s { running = x }

abbrev pub with_object_dma_page : ℕ → ObjectDma → ObjectDma
with_object_dma_page x s = record s { page = x }

abbrev pub with_object_dma_counted : ℕ → ObjectDma → ObjectDma
with_object_dma_counted x s = record s { counted = x }

abbrev pub with_object_dma_start_edge : ℕ → ObjectDma → ObjectDma
with_object_dma_start_edge x s = record s { start_edge = x }

abbrev pub with_cursor_source : ℕ → TransferCursor → TransferCursor
with_cursor_source x s = record s { source = x }

abbrev pub with_cursor_dest : ℕ → TransferCursor → TransferCursor
with_cursor_dest x s = record s { dest = x }

abbrev pub with_cursor_mode : TransferMode → TransferCursor → TransferCursor
with_cursor_mode x s = record s { mode = x }

abbrev pub with_cursor_remaining : ℕ → TransferCursor → TransferCursor
with_cursor_remaining x s = record s { remaining = x }

abbrev pub with_cursor_quota : ℕ → TransferCursor → TransferCursor
with_cursor_quota x s = record s { quota = x }

abbrev pub with_cursor_escape_byte : Bool → TransferCursor → TransferCursor
with_cursor_escape_byte x s = record s { escape_byte = x }

abbrev pub with_block_remaining : ℕ → HblankBlock → HblankBlock
with_block_remaining x s = record s { remaining = x }

abbrev pub with_block_start_edge : ℕ → HblankBlock → HblankBlock
with_block_start_edge x s = record s { start_edge = x }

abbrev pub with_block_taken : Bool → HblankBlock → HblankBlock
with_block_taken x s = record s { taken = x }

abbrev pub with_block_setup_cells : Countdown → HblankBlock → HblankBlock
with_block_setup_cells x s = record s { setup_cells = x }

abbrev pub with_block_ready_in : Countdown → HblankBlock → HblankBlock
with_block_ready_in x s = record s { ready_in = x }

abbrev pub with_block_seize_falls : ℕ → HblankBlock → HblankBlock
with_block_seize_falls x s = record s { seize_falls = x }

abbrev pub with_block_from_arm : Bool → HblankBlock → HblankBlock
with_block_from_arm x s = record s { from_arm = x }

abbrev pub with_block_arm_ready_probation : Bool → HblankBlock → HblankBlock
with_block_arm_ready_probation x s = record s { arm_ready_probation = x }

abbrev pub with_arb_pend : Bool → HaltArbiter → HaltArbiter
with_arb_pend x s = record s { pend = x }

abbrev pub with_arb_pend_from_arm : Bool → HaltArbiter → HaltArbiter
with_arb_pend_from_arm x s = record s { pend_from_arm = x }

abbrev pub with_arb_armed_this_fall : Bool → HaltArbiter → HaltArbiter
with_arb_armed_this_fall x s = record s { armed_this_fall = x }

abbrev pub with_arb_halted_falls : ℕ → HaltArbiter → HaltArbiter
with_arb_halted_falls x s = record s { halted_falls = x }

abbrev pub with_arb_prev_view_hblank : Bool → HaltArbiter → HaltArbiter
with_arb_prev_view_hblank x s = record s { prev_view_hblank = x }

abbrev pub with_arb_pend_age : ℕ → HaltArbiter → HaltArbiter
with_arb_pend_age x s = record s { pend_age = x }

abbrev pub with_arb_pend_granted : Bool → HaltArbiter → HaltArbiter
with_arb_pend_granted x s = record s { pend_granted = x }

abbrev pub with_arb_wake_tenure : Countdown → HaltArbiter → HaltArbiter
with_arb_wake_tenure x s = record s { wake_tenure = x }

abbrev pub with_arb_park_waits_for_fetch : Bool → HaltArbiter → HaltArbiter
with_arb_park_waits_for_fetch x s = record s { park_waits_for_fetch = x }

abbrev pub with_arb_idle_claim : Bool → HaltArbiter → HaltArbiter
with_arb_idle_claim x s = record s { idle_claim = x }

abbrev pub with_arb_halt_wake_blind : Countdown → HaltArbiter → HaltArbiter
with_arb_halt_wake_blind x s = record s { halt_wake_blind = x }

abbrev pub with_arb_prev_cpu_halted : Bool → HaltArbiter → HaltArbiter
with_arb_prev_cpu_halted x s = record s { prev_cpu_halted = x }

abbrev pub with_arb_grant_counted : Bool → HaltArbiter → HaltArbiter
with_arb_grant_counted x s = record s { grant_counted = x }

abbrev pub with_arb_wake_pend_blind : Countdown → HaltArbiter → HaltArbiter
with_arb_wake_pend_blind x s = record s { wake_pend_blind = x }

abbrev pub with_arb_granted_ahead : ℕ → HaltArbiter → HaltArbiter
with_arb_granted_ahead x s = record s { granted_ahead = x }

abbrev pub with_oam_was_transferring : Bool → OamContention → OamContention
with_oam_was_transferring x s = record s { was_transferring = x }

abbrev pub with_oam_contended : Bool → OamContention → OamContention
with_oam_contended x s = record s { contended = x }

abbrev pub with_dma_cursor : TransferCursor → VramDma → VramDma
with_dma_cursor x s = record s { cursor = x }

abbrev pub with_dma_block : HblankBlock → VramDma → VramDma
with_dma_block x s = record s { block = x }

abbrev pub with_dma_arb : HaltArbiter → VramDma → VramDma
with_dma_arb x s = record s { arb = x }

abbrev pub with_dma_oam : OamContention → VramDma → VramDma
with_dma_oam x s = record s { oam = x }

abbrev pub with_claim_committed : Bool → VramDmaClaim → VramDmaClaim
with_claim_committed x s = record s { committed = x }

abbrev pub with_claim_standing : Bool → VramDmaClaim → VramDmaClaim
with_claim_standing x s = record s { standing = x }

abbrev pub with_console_blackout_anchor : ℕ → CgbConsoleState → CgbConsoleState
with_console_blackout_anchor x s = record s { blackout_anchor = x }

abbrev pub with_console_vram_dma_claim : VramDmaClaim → CgbConsoleState → CgbConsoleState
with_console_vram_dma_claim x s = record s { vram_dma_claim = x }

abbrev pub with_vram_selected : ℕ → CgbVram → CgbVram
with_vram_selected x s = record s { selected = x }

abbrev pub with_svbk : ℕ → Cgb → Cgb
with_svbk x s = record s { svbk = x }

abbrev pub with_key1_armed : Bool → Cgb → Cgb
with_key1_armed x s = record s { key1_armed = x }

abbrev pub with_double_speed : Bool → Cgb → Cgb
with_double_speed x s = record s { double_speed = x }

abbrev pub with_dmg_compat : Bool → Cgb → Cgb
with_dmg_compat x s = record s { dmg_compat = x }

abbrev pub with_vram_dma : VramDma → Cgb → Cgb
with_vram_dma x s = record s { vram_dma = x }

abbrev pub with_speed_switch_blackout : ℕ → Cgb → Cgb
with_speed_switch_blackout x s = record s { speed_switch_blackout = x }

abbrev pub with_speed_switch_wake_latency : Option ℕ → Cgb → Cgb
with_speed_switch_wake_latency x s = record s { speed_switch_wake_latency = x }

abbrev pub with_switch_relock_debit : Bool → Cgb → Cgb
with_switch_relock_debit x s = record s { switch_relock_debit = x }

abbrev pub with_ff_72 : ℕ → Cgb → Cgb
with_ff_72 x s = record s { ff72 = x }

abbrev pub with_ff_73 : ℕ → Cgb → Cgb
with_ff_73 x s = record s { ff73 = x }

abbrev pub with_ff_74 : ℕ → Cgb → Cgb
with_ff_74 x s = record s { ff74 = x }

abbrev pub with_ff_75 : ℕ → Cgb → Cgb
with_ff_75 x s = record s { ff75 = x }

abbrev pub with_extra_oam : List ℕ → Cgb → Cgb
with_extra_oam x s = record s { extra_oam = x }

abbrev pub with_vram : CgbVram → Cgb → Cgb
with_vram x s = record s { vram = x }

abbrev pub with_console_state : CgbConsoleState → Cgb → Cgb
with_console_state x s = record s { console_state = x }

abbrev pub with_object_dma : ObjectDma → Cgb → Cgb
with_object_dma x s = record s { object_dma = x }
