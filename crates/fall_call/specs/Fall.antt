-- The fall as a call (document 01, section 2). "Order: 7 first .. a fall 1, 14."
use Rattle.std.specs.Prelude.{cond, [], ◌∷◌, Option, ltb}
use Rattle.console.specs.Reached.{unreached}
use Rattle.console.specs.Refusals.{◌⇒◌, first_of}
use Rattle.console.specs.Set.{with_vram_dma, with_console_state, with_console_vram_dma_claim}
use Rattle.console.specs.declared.Cgb.{Cgb}
use Rattle.console.specs.declared.VramDmaClaim.{VramDmaClaim}
use Rattle.console.specs.declared.refusal.Refusal.{Refusal}
use Rattle.console.specs.declared.refusal.Refusal.TheVariants.{State, Mode, Granted}
use Rattle.fall_stages.specs.Fall.{fall_of}
use Rattle.fall_stages.specs.declared.FallInput.{FallInput}
use Rattle.fall_stages.specs.declared.Fallen.{Fallen}
use Rattle.answers.specs.Answers.{Said, saying, outcome, claim_values}
use Rattle.answers.specs.declared.Outcome.{Outcome}

abbrev pub fallen : Cgb → FallInput → Fallen
fallen s i = fall_of i s.double_speed s.vram_dma

-- why a fall is declined
unfoldable pub fall_refusal : Cgb → FallInput → Option Refusal
fall_refusal s i = first_of ((unreached s ⇒ State) ∷ (ltb 3 i.mode ⇒ Mode) ∷ ((fallen s i).refused ⇒ Granted) ∷ [])

-- the console keeps the claim of the last commit
abbrev pub kept_claim : VramDmaClaim → VramDmaClaim → VramDmaClaim
kept_claim now last = cond now.committed now last

unfoldable pub fallen_state : Fallen → Cgb → Cgb
fallen_state f s =
    with_vram_dma f.dma
    (with_console_state
    (with_console_vram_dma_claim (kept_claim f.claim s.console_state.vram_dma_claim) s.console_state) s)

unfoldable pub fall_call_of : Cgb → FallInput → Outcome VramDmaClaim
fall_call_of s i = outcome (fall_refusal s i) s (fallen s i).claim (fallen_state (fallen s i) s)

unfoldable pub fall_said : Cgb → FallInput → Said
fall_said s i = saying (fall_refusal s i) (claim_values (fallen s i).claim)
