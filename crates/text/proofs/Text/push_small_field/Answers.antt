use Rattle.text.proofs.Stored.{then}
use Rattle.text.proofs.Text.push_small_field.Goals as goal

pub returns : goal.returns
returns c = then c.push_small.ensures c.push.ensures
