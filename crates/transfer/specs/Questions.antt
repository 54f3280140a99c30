-- What is asked of the engine and changes nothing (vram_dma.rs, `impl VramDma`; document 01, section 3 for the address,
-- section 4: "status .. act as the Rust methods").
use Rattle.std.specs.Prelude.{ℕ, ◌+◌, ◌%◌, Bool, ◌&&◌, ◌||◌, not, ltb}
use Rattle.countdown.specs.Countdown.{active_of}
use Rattle.console.specs.Modes.{is_general}
use Rattle.console.specs.declared.vram_dma.TransferCursor.{TransferCursor}
use Rattle.console.specs.declared.vram_dma.TransferMode.{TransferMode}
use Rattle.console.specs.declared.vram_dma.TransferMode.TheVariants as mode
use Rattle.console.specs.declared.vram_dma.VramDma.{VramDma}
use Rattle.transfer.specs.declared.VramDmaStatus.{VramDmaStatus}
use Rattle.transfer.specs.declared.VramDmaStatus.TheVariants.{Idle, General, HBlank}

-- section 3: "8000h + destination mod 8192"
abbrev pub write_address : TransferCursor → ℕ
write_address c = 0x8000 + c.dest % 8192

-- the status in each mode, with the values that it carries
abbrev pub status_in : TransferMode → TransferCursor → VramDmaStatus
status_in mode.Idle c = Idle
status_in mode.General c = General c.remaining
status_in mode.HBlank c = HBlank c.remaining c.source (write_address c)

unfoldable pub status_of : VramDma → VramDmaStatus
status_of d = status_in d.cursor.mode d.cursor

-- bytes of a latched block are still to move
abbrev pub block_left : VramDma → Bool
block_left d = ltb 0 d.block.remaining && ltb 0 d.cursor.remaining

abbrev pub request_standing : VramDma → Bool
request_standing d = d.arb.pend || block_left d

unfoldable pub holds_cpu : VramDma → Bool
holds_cpu d = is_general d.cursor.mode && ltb 0 d.cursor.remaining

unfoldable pub seizes_bus : VramDma → Bool
seizes_bus d = not (active_of d.block.ready_in) && (active_of d.block.setup_cells || block_left d)
