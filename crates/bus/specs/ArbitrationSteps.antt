-- What is shown of arbitration (document 01, section 3: "answers clear, contended or stall"; "the finer arbitration is fixed by
-- the Rust alone": vram_dma.rs, `vram_dma_arbitrate_oam_bus`): each answer exactly when its conditions hold, which stand here as
-- facts about fields and numbers (`WillMove` has those of a byte that moves). `⊎` is "or".
use Rattle.std.specs.Prelude.{◌≡◌, Bool, true, false, ◌↔◌, ◌⊎◌}
use Rattle.console.specs.Set.{with_dma_oam}
use Rattle.console.specs.declared.vram_dma.VramDma.{VramDma}
use Rattle.transfer.specs.Keeps.{KeepsMarks}
use Rattle.transfer.specs.QuestionSteps.{WillMove}
use Rattle.bus.specs.Arbitration.{arbitrated_of}
use Rattle.bus.specs.declared.arbitration.Arbitration.TheVariants.{Clear, Contended, Stall}
use Rattle.bus.specs.declared.arbitration.ArbitrationInput.{ArbitrationInput}

-- `hdma_active`: held or suspended
abbrev pub HdmaActive : ArbitrationInput → Type 0
HdmaActive i = (i.hold ≡ true) ⊎ (i.suspended ≡ true)

-- `contended`: "when an OAM-DMA and a VRAM-DMA block both move a byte this M-cycle", at single speed
pub record Contends (double : Bool) (i : ArbitrationInput) (d : VramDma) : Type 0 where
  pub speed : double ≡ false
  -- OAM DMA moves a byte now, or did at the arbitration before: "The OAM-DMA's final byte still shares the bus on the M-cycle
  -- it completes"
  pub oam : (i.oam_transferring ≡ true) ⊎ (d.oam.was_transferring ≡ true)
  pub active : HdmaActive i
  pub moves : WillMove d

-- `escape_stall`: "Double speed: a switch-cancel escape byte's bus tenure stalls the concurrent OAM-DMA byte"
pub record Stalls (double : Bool) (i : ArbitrationInput) (d : VramDma) : Type 0 where
  pub speed : double ≡ true
  -- now: here the call before is not asked
  pub oam : i.oam_transferring ≡ true
  pub active : HdmaActive i
  pub escape : d.cursor.escape_byte ≡ true
  pub moves : WillMove d

pub record ArbitrationSteps (double : Bool) (i : ArbitrationInput) (d : VramDma) : Type 0 where
  pub contended : ((arbitrated_of double i d).answer ≡ Contended) ↔ Contends double i d
  pub stall : ((arbitrated_of double i d).answer ≡ Stall) ↔ Stalls double i d
  pub clear : ((arbitrated_of double i d).answer ≡ Clear) ↔ ((Contends double i d → ⊥) × (Stalls double i d → ⊥))
  -- what is kept for the bus call: contended, which a stall leaves clear; and OAM DMA's state for the next arbitration
  pub keeps_contended : ((arbitrated_of double i d).oam.contended ≡ true) ↔ Contends double i d
  pub keeps_oam : (arbitrated_of double i d).oam.was_transferring ≡ i.oam_transferring
  -- in the engine after it, which differs in these two alone, the marks that a fall's commit looks at stand as before
  pub marks : KeepsMarks d (with_dma_oam (arbitrated_of double i d).oam d)
