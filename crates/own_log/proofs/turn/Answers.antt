-- No more is taken than there is room, less than a record is left, and a turn shows what waited and what came: also where the script could not
-- be read or the log not be written.
use Rattle.std.proofs.Common.{sym, length-take-le, arith}
use Rattle.own_log.proofs.Rest.{taken_inside, less_than_a_record, turned}
use Rattle.own_log.proofs.turn.Goals as goal

pub slice_bounds-write_all-end : goal.slice_bounds-write_all-end
slice_bounds-write_all-end g c = omega (arith, taken_inside c.put_log-logged.ensures)

pub slice_bounds-write_all-end-2 : goal.slice_bounds-write_all-end-2
slice_bounds-write_all-end-2 g c =
    let logged = c.put_log-logged in
    sym (length-take-le logged.result.taken logged.new.out (omega (arith, taken_inside logged.ensures)))

pub returns-in_err-map_err-clause-rest : goal.returns-in_err-map_err-clause-rest
returns-in_err-map_err-clause-rest g c =
    let shown = c.waiting.ensures in
    less_than_a_record shown.value c.put_log-logged.ensures c.take.ensures (omega (arith, shown.within, c.requires))

pub returns-in_err-map_err-clause-logged : goal.returns-in_err-map_err-clause-logged
returns-in_err-map_err-clause-logged g c = turned c.read.ensures.waiting_kept c.waiting.ensures.value c.put_log-logged.ensures c.take.ensures

pub returns-in_err-came-clause-rest : goal.returns-in_err-came-clause-rest
returns-in_err-came-clause-rest g c =
    let shown = c.waiting.ensures in
    less_than_a_record shown.value c.put_log-logged.ensures c.take.ensures (omega (arith, shown.within, c.requires))

pub returns-in_err-came-clause-logged : goal.returns-in_err-came-clause-logged
returns-in_err-came-clause-logged g c = turned c.read.ensures.waiting_kept c.waiting.ensures.value c.put_log-logged.ensures c.take.ensures

pub returns-clause-rest : goal.returns-clause-rest
returns-clause-rest g c =
    let shown = c.waiting.ensures in
    less_than_a_record shown.value c.put_log-logged.ensures c.take.ensures (omega (arith, shown.within, c.requires))

pub returns-clause-logged : goal.returns-clause-logged
returns-clause-logged g c = turned c.read.ensures.waiting_kept c.waiting.ensures.value c.put_log-logged.ensures c.take.ensures
