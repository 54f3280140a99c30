-- Either way the answer is `asked`, and what that says is a law.
use Rattle.std.proofs.Common.{rules}
use Rattle.answers.specs.Queries.{asked}
use Rattle.answers.proofs.Queries.{asked_is}
use Rattle.answers.proofs.query.asked.Goals as goal

pub returns-in_err-reached : goal.returns-in_err-reached
unfolding asked
returns-in_err-reached g c = asked_is _ _ _ _ (search rules)

pub returns : goal.returns
unfolding asked
returns g c = asked_is _ _ _ _ (search rules)
