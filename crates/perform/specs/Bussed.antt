-- What a bus call's outcome is told as.
use Rattle.answers.specs.Answers.{cause_numbers, bus_outcome_says}
use Rattle.answers.specs.declared.BusOutcome.{BusOutcome}
use Rattle.told.specs.Told.{told_of}
use Rattle.told.specs.declared.Performed.{Performed}

abbrev pub bussed_of : BusOutcome → Performed
bussed_of b =
    record { told = told_of (bus_outcome_says b); pairs = b.pairs; causes = cause_numbers b.causes; bytes = b.bytes; state = b.state }
