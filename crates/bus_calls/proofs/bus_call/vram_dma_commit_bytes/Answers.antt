-- Declined, by what its slices and its state are, or moved.
use Rattle.std.proofs.Common.{sym, ◌∙◌}
use Rattle.bus_calls.proofs.BusCalls.{refused_by, accepted_by, bus_declined, bus_moved}
use Rattle.bus_calls.proofs.bus_call.vram_dma_commit_bytes.Goals as goal

pub returns-in-Err : goal.returns-in-Err
returns-in-Err c =
    bus_declined _ _ _ _ _ _ _ _ (refused_by _ _ _ _ _ _ _ (sym c.all_lent.ensures ∙ c.in-Err.is)) c.refused.ensures

pub returns : goal.returns
returns c =
    bus_moved _ _ _ _ _ _ _ _ _ (accepted_by _ _ _ _ _ _ _ (sym c.all_lent.ensures ∙ c.in_default.is)) c.commit_bytes-run.ensures
