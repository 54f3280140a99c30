-- "Arbitration gains a form that takes object DMA's state from inside, the bus call one for the start edge" (document 02, A1): what the
-- state tells the calls of document 01, whose definitions serve both forms.
use Rattle.console.specs.declared.Cgb.{Cgb}
use Rattle.bus.specs.declared.arbitration.ArbitrationInput.{ArbitrationInput}
use Rattle.bus.specs.declared.commit.BusInput.{BusInput}
use Rattle.bus.specs.declared.hold.HoldInput.{HoldInput}
use Rattle.object_dma.specs.ObjectDma.{runs}

-- "Object DMA runs, to arbitration too, from the write until 160 are counted"
abbrev pub inside_arbitration : Cgb → HoldInput → ArbitrationInput
inside_arbitration s i = record { hold = i.hold; suspended = i.suspended; oam_transferring = runs s.object_dma }

-- the start edge of the last accepted write to FF46, at rest too; 0 before the first
abbrev pub inside_bus : Cgb → HoldInput → BusInput
inside_bus s i = record { hold = i.hold; suspended = i.suspended; oam_start_edge = s.object_dma.start_edge }
