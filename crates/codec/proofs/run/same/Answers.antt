-- Each run hands the comparison on to the next, and nothing is left behind the last. With `same_all` by `using` the search gives up.
use Rattle.std.proofs.Common.{◌∙◌, arith}
use Rattle.arithmetic.proofs.Same.{same_all}
use Rattle.codec.proofs.run.same.Goals as goal

pub returns : goal.returns
returns c =
    same_all c.args.a c.args.b _ _ 248
    (c.same_between-first.ensures
    ∙ (c.same_between-second.ensures
    ∙ (c.same_between-third.ensures
    ∙ (c.same_between-fourth.ensures
    ∙ (c.same_between-fifth.ensures ∙ (c.same_between-sixth.ensures ∙ c.same_between.ensures))))))
    (omega arith) (omega arith)
