use Rattle.std.proofs.Common.{sym}
use Rattle.std.proofs.lemmas.List.{take_more}
use Rattle.text.proofs.Stored.{then, reworded}
use Rattle.text.proofs.Text.push_text.Goals as goal

pub loop-character-preserved : goal.loop-character-preserved
loop-character-preserved c =
    let l = c.loop-character in
    reworded (sym (take_more c.args.text.now l.character-index 0 c.loop-character-test.true)) (then l.invariant c.push.ensures)
