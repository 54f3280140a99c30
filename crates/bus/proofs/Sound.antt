-- The bus call keeps what refusal 7 tests of the engine. Assumes nothing.
use Rattle.console.specs.Reached.{Sound}
use Rattle.console.specs.declared.vram_dma.VramDma.{VramDma}
use Rattle.transfer.proofs.Sound.{next_sound}
use Rattle.bus.specs.Commit.{bus_taken}
use Rattle.bus.specs.declared.commit.BusInput.{BusInput}
use Rattle.bus.proofs.Taken.{bus_keeps}

pub bus_sound : (i : BusInput) (d : VramDma) → Sound d → Sound (bus_taken i d).dma
bus_sound = bus_keeps Sound next_sound (λ d cells k. record { quota = k.quota; block = k.block; left = k.left; idle = k.idle })
