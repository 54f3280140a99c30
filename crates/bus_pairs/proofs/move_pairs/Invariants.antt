-- Pairs are taken until none comes, and quota falls with each.
use Rattle.std.proofs.Common.{◌≡◌, ◌-◌, ◌≤◌, [], ◌∷◌, length}
use Rattle.transfer.specs.declared.pair.Cause.TheVariants.{GoingOn}
use Rattle.bus.specs.Deposit.{no_pair}
use Rattle.bus_pairs.proofs.Loop.{going_on}
use Rattle.bus_pairs.proofs.move_pairs.Given as goal

abbrev pub invariant-loop-pair : goal.invariant-loop-pair
invariant-loop-pair l =
    (length l.vram ≡ length l.fn.vram) × (l.dma.cursor.quota ≤ l.d.cursor.quota) ×
    (going_on l.banks l.cartridge l.wram l.dma (l.d.cursor.quota - l.dma.cursor.quota) l.pairs l.causes l.bytes l.vram ≡
    going_on l.banks l.cartridge l.wram l.initial.dma 0 (no_pair ∷ no_pair ∷ []) (GoingOn ∷ GoingOn ∷ []) (0 ∷ 0 ∷ []) l.initial.vram)

abbrev pub decreases-loop-pair : goal.decreases-loop-pair
decreases-loop-pair l = l.dma.cursor.quota
