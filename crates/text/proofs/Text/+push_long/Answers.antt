use Rattle.std.proofs.Common.{sym}
use Rattle.text.proofs.Stored.{then, reworded}
use Rattle.text.proofs.Digits.{four_more}
use Rattle.text.proofs.Text.+push_long.Goals as goal

pub returns : goal.returns
returns t c = reworded (sym (four_more _ c.if-n-lt10000.false)) (then c.push_long.ensures c.push_four.ensures)
