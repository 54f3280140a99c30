-- The three kinds of bus call: released, for a set-up cell, and with pairs.
use Rattle.bus_commit.proofs.Committed.{committed_released, committed_cell, committed_pairs}
use Rattle.bus_commit.proofs.commit_bytes.Goals as goal

pub returns-then-released : goal.returns-then-released
returns-then-released c = committed_released _ c.args.i _ _ _ _ _ _ c.if-released.true c.idle.ensures

pub returns-then-cell : goal.returns-then-cell
returns-then-cell c =
    let a = c.args in
    committed_cell a.banks a.i a.d _ _ _ _ _ c.tick-cell.result c.if-released.false c.tick-cell.ensures c.if-cell.true c.idle-then-cell.ensures

pub returns : goal.returns
returns c =
    let a = c.args in
    committed_pairs a.banks a.i a.d _ _ _ _ c.move_pairs-run.result c.tick-cell.result c.phase-phase.result _ _ c.if-released.false
    c.tick-cell.ensures c.if-cell.false c.move_pairs-run.ensures c.phase-phase.ensures c.deposit.ensures
