use Rattle.std.proofs.Common.{sym, arith}
use Rattle.text.proofs.Stored.{then, reworded}
use Rattle.text.proofs.Digits.{one_digit, two_digits, three_digits, four_digits_lem}
use Rattle.text.proofs.Text.push_short.Goals as goal

pub returns-then-n-lt10 : goal.returns-then-n-lt10
returns-then-n-lt10 c = reworded (sym (one_digit _ (omega arith))) c.push_digit.ensures

pub returns-then-n-lt100 : goal.returns-then-n-lt100
returns-then-n-lt100 c =
    reworded
    (sym (two_digits _ (omega arith) (omega arith)))
    (then c.push_digit-then-n-lt100.ensures c.push_digit-then-n-lt100-2.ensures)

pub returns-then-n-lt1000 : goal.returns-then-n-lt1000
returns-then-n-lt1000 c =
    reworded
    (sym (three_digits _ (omega arith) (omega arith)))
    (then c.push_digit-then-n-lt1000.ensures (then c.push_digit-then-n-lt1000-2.ensures c.push_digit-then-n-lt1000-3.ensures))

pub returns-else-n-lt1000 : goal.returns-else-n-lt1000
returns-else-n-lt1000 c = reworded (sym (four_digits_lem _ (omega arith) (omega arith))) c.push_four.ensures
