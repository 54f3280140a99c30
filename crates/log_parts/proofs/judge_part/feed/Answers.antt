use Rattle.std.proofs.Common.{[], ◌/◌, ◌∙◌, length, arith}
use Rattle.std.specs.Simd.{first_chunks}
use Rattle.std.proofs.lemmas.List.{length_push}
use Rattle.std.proofs.lemmas.Slice.Zip.{zip_turn}
use Rattle.log_parts.proofs.Parts.{chunk, chunks}
use Rattle.log_parts.proofs.Judged.{judged_more}
use Rattle.log_parts.proofs.judge_part.feed.Goals as goal

pub loop-entry-preserved : goal.loop-entry-preserved
loop-entry-preserved c =
    let l = c.loop-entry in
    let script = c.args.script.now in
    let log = c.args.log.now in
    let n = length script / 16 in
    let m = length log / 16 in
    let asked = first_chunks 16 n script in
    let logged = first_chunks 16 m log in
    let turn =
    zip_turn asked logged l.yielded c.into_iter-entry-iterator.result l.entry-iterator c.next.new.self _ (cc) (cc)
    l.yielded_by _ c.in-Some.is c.next.ensures.steps in
    let k = length l.yielded in
    judged_more _ _ _ script log c.in-Some.entry.now c.in-Some.record.now k _
    (length_push l.yielded _)
    (turn.2 [] ∙ chunk n k script [] (omega (arith, turn.0, chunks n script)))
    (turn.3 [] ∙ chunk m k log [] (omega (arith, turn.1, chunks m log)))
    l.invariant
    c.judge_record-judge.ensures
