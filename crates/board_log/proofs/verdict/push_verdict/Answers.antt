use Rattle.text.proofs.Stored.{then}
use Rattle.text.specs.Text.{decimal, decimal_within}
use Rattle.board_log.specs.Verdict.{verdict_text}
use Rattle.board_log.proofs.verdict.push_verdict.Goals as goal

pub returns-in-Wrong : goal.returns-in-Wrong
unfolding verdict_text
returns-in-Wrong c = rw c.in-Wrong.is (then c.push_decimal.ensures c.push.ensures)

pub returns-in-Refused : goal.returns-in-Refused
unfolding verdict_text decimal decimal_within
returns-in-Refused c = rw c.in-Refused.is c.push_text-in-Refused.ensures
