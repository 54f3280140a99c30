-- Arbitration and the write conflict as calls (document 01, sections 3 and 4).
use Rattle.std.specs.Prelude.{ℕ, Option}
use Rattle.console.specs.Reached.{state_refusal}
use Rattle.console.specs.Set.{with_vram_dma, with_dma_oam}
use Rattle.console.specs.declared.Cgb.{Cgb}
use Rattle.bus.specs.Arbitration.{arbitrated_of}
use Rattle.bus.specs.declared.arbitration.Arbitrated.{Arbitrated}
use Rattle.bus.specs.declared.arbitration.Arbitration.{Arbitration}
use Rattle.bus.specs.declared.arbitration.ArbitrationInput.{ArbitrationInput}
use Rattle.transfer.specs.Conflict.{conflict_of}
use Rattle.answers.specs.Answers.{Said, saying, outcome, arbitration_values}
use Rattle.answers.specs.declared.Outcome.{Outcome}

abbrev pub arbitrated : Cgb → ArbitrationInput → Arbitrated
arbitrated s i = arbitrated_of s.double_speed i s.vram_dma

unfoldable pub arbitration_call_of : Cgb → ArbitrationInput → Outcome Arbitration
arbitration_call_of s i =
    outcome (state_refusal s) s (arbitrated s i).answer (with_vram_dma (with_dma_oam (arbitrated s i).oam s.vram_dma) s)

unfoldable pub arbitration_said : Cgb → ArbitrationInput → Said
arbitration_said s i = saying (state_refusal s) (arbitration_values (arbitrated s i).answer)

abbrev pub conflict_found : Cgb → ℕ → Option ℕ
conflict_found s a = conflict_of s.double_speed a s.vram_dma
