use Rattle.bench.proofs.Steps.{held_bus}
use Rattle.bench.proofs.bus.Goals as goal

pub returns : goal.returns
returns c = held_bus _ _ _ _ _ _ _ _ _ c.bus_input.ensures c.vram_dma_commit_bytes.ensures
