-- The whole comparison is what was found so far and what is left.
use Rattle.std.proofs.Common.{◌≡◌, ◌&&◌}
use Rattle.arithmetic.specs.Number.{same_from}
use Rattle.codec.proofs.run.same_between.Given as goal

abbrev pub invariant-loop-i : goal.invariant-loop-i
invariant-loop-i l = (l.so_far && same_from l.from l.a l.b) ≡ (l.equal && same_from l.i l.a l.b)
