use Rattle.std.proofs.Common.{sym}
use Rattle.text.proofs.Stored.{then, reworded}
use Rattle.text.proofs.Digits.{four_more}
use Rattle.text.proofs.Text.push_decimal.Goals as goal

pub returns-then-n-lt100000000 : goal.returns-then-n-lt100000000
returns-then-n-lt100000000 c =
    reworded (sym (four_more _ c.if-n-lt10000.false)) (then c.push_short-then-n-lt100000000.ensures c.push_four.ensures)
