use mathlib.Core.Path.{◌∙◌, ap}
use Rattle.told.specs.Told.{told_refused}
use Rattle.perform.proofs.Records.{performs_none, performs_call}
use Rattle.perform.proofs.perform_record.Goals as goal

pub returns-in_default : goal.returns-in_default
returns-in_default c = performs_none _ _ _ _ _ _ _ _ c.in_default.is c.quiet.ensures (c.refused.ensures ∙ ap told_refused c.from.ensures)

pub returns : goal.returns
returns c = performs_call _ _ _ _ _ _ _ _ _ _ _ c.in-Some.is c.perform.ensures
