use Rattle.std.proofs.Common.{ℕ, List, [], ap, ◌/◌, ◌<◌, ◌∙◌, length, get_or, length-take, arith}
use Rattle.std.proofs.lemmas.List.{get_or-take}
use Rattle.board_log.specs.OwnLog.{point_of}
use Rattle.log_parts.proofs.Parts.{chunk}
use Rattle.log_parts.proofs.Logged.{point_more, logged_more}
use Rattle.log_parts.proofs.log_part.put_log.Goals as goal

pub loop-entry-preserved : goal.loop-entry-preserved
loop-entry-preserved c =
    let l = c.loop-entry in
    let script = c.args.script.now in
    let k = l.entry-index in
    let n = c.whole_in_both-taken.result / 16 in
    let m = length script / 16 in
    let s = point_of c.args.state c.args.wram.now in
    let step = c.perform-stepped in
    let asked = c.as_chunks.result.0.now in
    let inside : (k < n) × (k < m) =
    (omega (arith, c.loop-entry-test.true, length-take n asked), omega (arith, c.loop-entry-test.true, length-take n asked, c.as_chunks.ensures.front_len)) in
    let next = get_or-take n asked k [] inside.0 ∙ ap (λ (l : List (List ℕ)). get_or l k []) c.as_chunks.ensures.front ∙ chunk m k script [] inside.1 in
    record {
      point = point_more s l.engine l.wram script _ k _ step.result _ l.invariant.point next c.record_of.ensures step.ensures;
      stored =
          logged_more s l.engine l.wram script _ k _ step.result _ l.invariant.point next c.record_of.ensures step.ensures c.log_record.ensures
          l.invariant.stored c.push_text.ensures;
    }
