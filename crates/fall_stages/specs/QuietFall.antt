-- A shorter way through a fall, which the code takes and document 01 does not name: where the engine is still, no byte is to
-- move and no block would be asked for, the steps in the paper's order (`fall_of`) come to what step 1 does. The contract of the
-- fall does not speak of it.
use Rattle.std.specs.Prelude.{◌≡◌, Bool, true, not, ◌&&◌, ◌||◌, eqb}
use Rattle.console.specs.Modes.{is_general, is_hblank}
use Rattle.console.specs.declared.vram_dma.VramDma.{VramDma}
use Rattle.fall_stages.specs.Fall.{still_of, settled_of, fall_of, fell, no_claim}
use Rattle.fall_stages.specs.declared.FallInput.{FallInput}

-- in mode 0 or outside it: a General transfer moves, an armed HBlank with taken clear asks for its block
abbrev pub wants : Bool → VramDma → Bool
wants hblank d = is_general d.cursor.mode || (is_hblank d.cursor.mode && hblank && not d.block.taken)

abbrev pub quiet_of : FallInput → VramDma → Bool
quiet_of i d =
    (eqb d.cursor.remaining 0 || not (wants (eqb i.mode 0) d)) && still_of d && not i.halted && not i.stopped

abbrev pub Quiet : Type 0
Quiet =
    (i : FallInput) (double : Bool) (d : VramDma) →
    quiet_of i d ≡ true → fall_of i double d ≡ fell no_claim (settled_of (eqb i.mode 0) d)
