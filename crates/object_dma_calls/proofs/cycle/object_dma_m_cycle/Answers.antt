-- Declined, by what its slices and its state are, or done.
use Rattle.std.proofs.Common.{sym, ◌∙◌}
use Rattle.bus_calls.proofs.BusCalls.{refused_by, accepted_by}
use Rattle.object_dma_calls.proofs.Cycles.{cycle_declined, cycle_done}
use Rattle.object_dma_calls.proofs.cycle.object_dma_m_cycle.Goals as goal

pub returns-in-Err : goal.returns-in-Err
returns-in-Err c =
    cycle_declined _ _ _ _ _ _ _ _ (refused_by _ _ _ _ _ _ _ (sym c.all_lent.ensures ∙ c.in-Err.is)) c.refused.ensures

pub returns : goal.returns
returns c =
    cycle_done _ _ _ _ _ _ _ _ (accepted_by _ _ _ _ _ _ _ (sym c.all_lent.ensures ∙ c.in_default.is)) c.take_byte-taken.ensures
