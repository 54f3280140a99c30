-- After i steps the loop has what the definition has after i.
use Rattle.std.proofs.Common.{◌≡◌, length}
use Rattle.bench.specs.Falls.{Measured, after_steps}
use Rattle.bench.proofs.bench_falls.Given as goal

abbrev pub invariant-loop-i : goal.invariant-loop-i
invariant-loop-i l =
    (length l.vram ≡ length l.initial.vram) × (length l.oam ≡ length l.initial.oam) ×
    (◌≡◌ {A = Measured} (record { state = l.state; vram = l.vram; oam = l.oam })
    (after_steps l.cartridge l.wram l.steps (record { state = l.initial.state; vram = l.initial.vram; oam = l.initial.oam }) l.i))
