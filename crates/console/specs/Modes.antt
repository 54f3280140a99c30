-- Which mode a transfer is in: `==` on `TransferMode` in the Rust.
use Rattle.std.specs.Prelude.{Bool, true, false}
use Rattle.console.specs.declared.vram_dma.TransferMode.{TransferMode}
use Rattle.console.specs.declared.vram_dma.TransferMode.TheVariants.{Idle, General, HBlank}

abbrev pub is_idle : TransferMode → Bool
is_idle Idle = true
is_idle General = false
is_idle HBlank = false

abbrev pub is_general : TransferMode → Bool
is_general Idle = false
is_general General = true
is_general HBlank = false

abbrev pub is_hblank : TransferMode → Bool
is_hblank Idle = false
is_hblank General = false
is_hblank HBlank = true
