-- The switch keeps what refusal 7 tests of the engine. Assumes nothing.
use mathlib.Core.Path.{refl}
use mathlib.Core.Bool.{Bool, true, false, cond}
use lib.Dec.{ltb, lit≤}
use Rattle.console.specs.Reached.{Sound}
use Rattle.console.specs.declared.vram_dma.VramDma.{VramDma}
use Rattle.cut.specs.Cut.{ready_block, ungranted, cut_of, discarded_of, graded_of, upward_of, engine_after}

graded : (a b : Bool) (d : VramDma) → Sound d → Sound (cond a (cond b (cut_of (ungranted d)) (discarded_of (ungranted d))) d)
unfolding cut_of discarded_of ungranted
graded true true d k = record { quota = k.quota; block = lit≤ tt; left = k.left; idle = λ none. refl }
graded true false d k = record { quota = k.quota; block = lit≤ tt; left = k.left; idle = k.idle }
graded false b d k = k

upward : (d : VramDma) → Sound d → Sound (upward_of d)
unfolding upward_of graded_of
upward d k =
    let g : Sound (graded_of d) = graded (ltb 0 d.block.remaining) (ready_block d) d k in
    record { quota = g.quota; block = g.block; left = g.left; idle = g.idle }

pub switch_sound : (up : Bool) (d : VramDma) → Sound d → Sound (engine_after up d)
unfolding engine_after
switch_sound true d k = upward d k
switch_sound false d k = k
