-- The next pair and the escape drain as calls (document 01, sections 3 and 4): 7, then what the engine gives.
use Rattle.console.specs.Reached.{state_refusal}
use Rattle.console.specs.Set.{with_vram_dma}
use Rattle.console.specs.declared.Cgb.{Cgb}
use Rattle.transfer.specs.Pair.{NextAnswer, next_byte_of, drain_of}
use Rattle.transfer.specs.declared.pair.NextByte.{NextByte}
use Rattle.answers.specs.Answers.{Said, saying, outcome, pair_values}
use Rattle.answers.specs.declared.Outcome.{Outcome}

-- a call that gives what the engine hands out
abbrev pub handed_of : Cgb → NextByte → Outcome NextAnswer
handed_of s n = outcome (state_refusal s) s n.answer (with_vram_dma n.dma s)

unfoldable pub next_pair_of : Cgb → Outcome NextAnswer
next_pair_of s = handed_of s (next_byte_of s.vram_dma)

unfoldable pub next_pair_said : Cgb → Said
next_pair_said s = saying (state_refusal s) (pair_values (next_byte_of s.vram_dma).answer)

unfoldable pub escape_drain_of : Cgb → Outcome NextAnswer
escape_drain_of s = handed_of s (drain_of s.vram_dma)

unfoldable pub escape_drain_said : Cgb → Said
escape_drain_said s = saying (state_refusal s) (pair_values (drain_of s.vram_dma).answer)
