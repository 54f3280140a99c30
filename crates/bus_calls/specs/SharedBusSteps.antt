-- What is shown of arbitration and of the write conflict as calls (document 01, sections 3 and 4), of each state that passes 7:
-- each answer exactly when its conditions hold (`ArbitrationSteps`, `QuestionSteps` have them), and the whole state after it.
use Rattle.std.specs.Prelude.{ℕ, ◌≡◌, true, false, ◌↔◌, Option, Some, None, Ok}
use Rattle.console.specs.Reached.{unreached}
use Rattle.console.specs.Set.{with_vram_dma, with_dma_oam}
use Rattle.console.specs.declared.Cgb.{Cgb}
use Rattle.transfer.specs.QuestionSteps.{Conflicts}
use Rattle.bus.specs.ArbitrationSteps.{Contends, Stalls}
use Rattle.bus.specs.declared.arbitration.Arbitration.TheVariants.{Clear, Contended, Stall}
use Rattle.bus.specs.declared.arbitration.ArbitrationInput.{ArbitrationInput}
use Rattle.answers.specs.Queries.{asked}
use Rattle.bus_calls.specs.Bus.{arbitration_call_of, conflict_found}

pub record ArbitrationCall (s : Cgb) (i : ArbitrationInput) : Type 0 where
  pub contended : ((arbitration_call_of s i).answer ≡ Ok Contended) ↔ Contends s.double_speed i s.vram_dma
  pub stall : ((arbitration_call_of s i).answer ≡ Ok Stall) ↔ Stalls s.double_speed i s.vram_dma
  pub clear :
      ((arbitration_call_of s i).answer ≡ Ok Clear) ↔
      ((Contends s.double_speed i s.vram_dma → ⊥) × (Stalls s.double_speed i s.vram_dma → ⊥))
  -- the state after it: OAM DMA's state now, and contended exactly where that is the answer; nothing else changes
  pub after_contended :
      Contends s.double_speed i s.vram_dma →
      (arbitration_call_of s i).state ≡
      with_vram_dma (with_dma_oam (record { was_transferring = i.oam_transferring; contended = true }) s.vram_dma) s
  pub after_else :
      (Contends s.double_speed i s.vram_dma → ⊥) →
      (arbitration_call_of s i).state ≡
      with_vram_dma (with_dma_oam (record { was_transferring = i.oam_transferring; contended = false }) s.vram_dma) s

pub record ConflictCall (s : Cgb) (a : ℕ) : Type 0 where
  -- the source of the byte that the engine writes there
  pub found : (asked s (conflict_found s a) ≡ Ok (Some s.vram_dma.cursor.source)) ↔ Conflicts s.double_speed a s.vram_dma
  pub none : (asked s (conflict_found s a) ≡ Ok None) ↔ (Conflicts s.double_speed a s.vram_dma → ⊥)

pub record SharedBusSteps : Type 0 where
  pub arbitration : (s : Cgb) (i : ArbitrationInput) → unreached s ≡ false → ArbitrationCall s i
  pub conflict : (s : Cgb) (a : ℕ) → unreached s ≡ false → ConflictCall s a
