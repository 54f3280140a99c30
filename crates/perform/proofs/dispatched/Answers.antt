use Rattle.perform.proofs.Outcomes.{performs_write, performs_read, performs_bus, performs_bus_inside, performs_cycle, performs_plain}
use Rattle.perform.proofs.dispatched.Goals as goal

pub returns-in-Write : goal.returns-in-Write
returns-in-Write c = performs_write _ _ _ _ _ _ _ _ _ _ c.in-Write.is c.write.ensures

pub returns-in-Read : goal.returns-in-Read
returns-in-Read c = performs_read _ _ _ _ _ _ _ _ c.in-Read.is c.read.ensures

pub returns-in-Bus : goal.returns-in-Bus
returns-in-Bus c = performs_bus _ _ _ _ _ _ _ _ _ _ c.in-Bus.is c.bus.ensures

pub returns-in-BusInside : goal.returns-in-BusInside
returns-in-BusInside c = performs_bus_inside _ _ _ _ _ _ _ _ _ _ c.in-BusInside.is c.bus_inside.ensures

pub returns-in-ObjectDmaCycle : goal.returns-in-ObjectDmaCycle
returns-in-ObjectDmaCycle c = performs_cycle _ _ _ _ _ _ _ _ _ c.in-ObjectDmaCycle.is c.cycle.ensures

pub returns-in-Plain : goal.returns-in-Plain
returns-in-Plain c = performs_plain _ _ _ _ _ _ _ _ c.in-Plain.is c.plain.ensures
