-- LCD off and instruction retired as calls (document 01, section 4; lib.rs). LCD off also voids the relock debit.
use Rattle.std.specs.Prelude.{false, []}
use Rattle.console.specs.Reached.{state_refusal}
use Rattle.console.specs.Set.{with_vram_dma, with_switch_relock_debit}
use Rattle.console.specs.declared.Cgb.{Cgb}
use Rattle.transfer.specs.Latch.{lcd_disabled_of, retired_of}
use Rattle.answers.specs.Answers.{Said, saying, outcome}
use Rattle.answers.specs.declared.Outcome.{Outcome}

-- what a call says that gives nothing
unfoldable pub done_said : Cgb → Said
done_said s = saying (state_refusal s) []

unfoldable pub lcd_call_of : Cgb → Outcome (Unit {0})
lcd_call_of s = outcome (state_refusal s) s tt (with_vram_dma (lcd_disabled_of s.vram_dma) (with_switch_relock_debit false s))

unfoldable pub retired_call_of : Cgb → Outcome (Unit {0})
retired_call_of s = outcome (state_refusal s) s tt (with_vram_dma (retired_of s.vram_dma) s)
