-- The code's tests in the papers' order are those of the parts.
use Rattle.std.proofs.Common.{◌≡◌, Bool, true, false, ◌&&◌, ◌||◌, not, ltb, eqb, refl, rules}
use Rattle.console.specs.Modes.{is_idle}
use Rattle.console.specs.Reached.{unreached}
use Rattle.console.proofs.Cgb.unreached.Goals as goal

-- a, b, c and h are the engine's tests, d and e the banks', f and g object DMA's
by_part :
    (a b c d e f g h : Bool) →
    (((((((a || b) || c) || d) || e) || f) || g) || h) ≡
    ((a || (b || (c || (h || false)))) || ((d || (e || false)) || ((f || (g || false)) || false)))
by_part true b c d e f g h = refl
by_part false true c d e f g h = refl
by_part false false true d e f g h = refl
by_part false false false true e f g true = refl
by_part false false false true e f g false = refl
by_part false false false false true f g true = refl
by_part false false false false true f g false = refl
by_part false false false false false true g true = refl
by_part false false false false false true g false = refl
by_part false false false false false false true true = refl
by_part false false false false false false true false = refl
by_part false false false false false false false true = refl
by_part false false false false false false false false = refl

pub returns : goal.returns
unfolding unreached
returns c =
    let s = c.args.self in
    let d = s.vram_dma in
    let idle : c.eq-idle.result ≡ is_idle d.cursor.mode = search rules in
    rw idle
    (by_part (ltb 2 d.cursor.quota) (ltb 16 d.block.remaining) (ltb 2048 d.cursor.remaining) (ltb 7 s.svbk)
    (ltb 1 s.vram.selected) (ltb 160 s.object_dma.counted) (ltb 0xDF s.object_dma.page)
    (eqb d.cursor.remaining 0 && not (is_idle d.cursor.mode)))
