use Rattle.std.proofs.Common.{refl}
use Rattle.log_parts.proofs.Judged.{differing, agreeing}
use Rattle.log_parts.proofs.judge_part.judge_record.Goals as goal

pub returns-then-differs : goal.returns-then-differs
returns-then-differs c =
    let a = c.args in
    differing a.j a.wram.now a.script.now a.log.now _ _ _ _ _ c.record_of.ensures c.perform-stepped.ensures c.log_record.ensures c.eq-same.ensures
    c.if-differs.true

pub returns-else-differs : goal.returns-else-differs
returns-else-differs c =
    let a = c.args in
    agreeing a.j a.wram.now a.script.now a.log.now _ _ _ _ _ c.record_of.ensures c.perform-stepped.ensures c.log_record.ensures c.eq-same.ensures _ refl
    c.if-differs.false
