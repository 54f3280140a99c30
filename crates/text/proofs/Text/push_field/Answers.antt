use Rattle.text.proofs.Stored.{then}
use Rattle.text.proofs.Text.push_field.Goals as goal

pub returns : goal.returns
returns c = then c.push_decimal.ensures c.push.ensures
