-- Arbitration (document 01, section 3: "answers clear, contended or stall"; vram_dma.rs, `vram_dma_arbitrate_oam_bus`).
use Rattle.std.specs.Prelude.{Bool, cond, not, ◌&&◌, ◌||◌}
use Rattle.console.specs.declared.vram_dma.VramDma.{VramDma}
use Rattle.transfer.specs.Conflict.{will_move}
use Rattle.bus.specs.declared.arbitration.Arbitrated.{Arbitrated}
use Rattle.bus.specs.declared.arbitration.Arbitration.{Arbitration}
use Rattle.bus.specs.declared.arbitration.Arbitration.TheVariants.{Clear, Contended, Stall}
use Rattle.bus.specs.declared.arbitration.ArbitrationInput.{ArbitrationInput}

-- held or suspended
abbrev pub hdma_active : ArbitrationInput → Bool
hdma_active i = i.hold || i.suspended

-- single speed, OAM DMA now or at the call before, and a byte that moves
unfoldable pub contends : Bool → ArbitrationInput → VramDma → Bool
contends double i d =
    not double && (i.oam_transferring || d.oam.was_transferring) && hdma_active i && will_move d

-- double speed, OAM DMA now, and an escape byte that moves
unfoldable pub stalls : Bool → ArbitrationInput → VramDma → Bool
stalls double i d = double && i.oam_transferring && hdma_active i && d.cursor.escape_byte && will_move d

-- the two exclude each other: one is of single speed, the other of double
unfoldable pub arbitration_of : Bool → Bool → Arbitration
arbitration_of contended stalled = cond contended Contended (cond stalled Stall Clear)

-- what it keeps: OAM DMA now, and the contention until the next arbitration
unfoldable pub arbitrated_of : Bool → ArbitrationInput → VramDma → Arbitrated
arbitrated_of double i d =
    record {
      answer = arbitration_of (contends double i d) (stalls double i d);
      oam = record { was_transferring = i.oam_transferring; contended = contends double i d };
    }
