-- A bus call is one of three: released, for a set-up cell, or with the engine's pairs. What holds of each holds of the call.
-- Assumes nothing.
use Rattle.console.specs.declared.vram_dma.VramDma.{VramDma}
use Rattle.bus.specs.Commit.{Taken, nothing, cell_taken, pairs_of, bus_taken}
use Rattle.bus.specs.declared.commit.BusInput.{BusInput}
use Rattle.bus.proofs.Taken.{each_kind}

pub of_each : (P : Taken → Type 0) (i : BusInput) (d : VramDma) → P (nothing d) → P (cell_taken d) → P (pairs_of d) → P (bus_taken i d)
of_each P i d rests takes moves = each_kind i d P (λ h. rests) (λ h c. takes) (λ h c. moves)
