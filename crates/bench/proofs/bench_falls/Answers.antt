use Rattle.std.proofs.Common.{refl, arith, rules, eq-eqb, ne_eqb}
use Rattle.bench.proofs.Steps.{at_first, without_bus, with_bus, benched}
use Rattle.bench.proofs.bench_falls.Goals as goal
use Rattle.bench.proofs.bench_falls.Goals.{then-step-eq1, else-step-eq1}

pub loop-i-init : goal.loop-i-init
loop-i-init c = (refl, refl, at_first _ _ _ _)

pub loop-i-preserved : goal.loop-i-preserved
loop-i-preserved c =
    let l = c.loop-i in
    elim c.if-step-eq1.branch [
      | then-step-eq1 w ↦ rw (w.vram-is, w.oam-is, w.state-is) (
        search rules,
        search rules,
        with_bus _ _ _ _ l.i l.state _ _ _ _ _ _ _ _ l.invariant.2 refl c.fall_input.ensures
            c.vram_dma_fall_edge.ensures (eq-eqb _ _ w.if-step-eq1.true) w.bus-state.ensures,
      )
      | else-step-eq1 w ↦ rw (w.vram-is, w.oam-is, w.state-is) (
        l.invariant.0,
        l.invariant.1,
        without_bus _ _ _ _ l.i l.state _ _ _ _ _ l.invariant.2 refl c.fall_input.ensures
            c.vram_dma_fall_edge.ensures (ne_eqb _ _ w.if-step-eq1.false),
      )
    ]

pub returns : goal.returns
returns c =
    let l = c.loop-i in
    benched _ _ _ _ _ _ _ _ _ _ l.state l.i c.state_of-state.ensures l.invariant.2 (omega arith) c.encode.ensures
