-- Its pieces stored one behind the other.
use Rattle.text.proofs.Stored.{then}
use Rattle.replay_step.specs.Line.{line_text}
use Rattle.replay_step.proofs.line.push_line.Goals as goal

pub returns : goal.returns
unfolding line_text
returns c =
    let six = then (then c.push_numbers.ensures c.push_hex.ensures) c.push.ensures in
    rw (← c.from.ensures) (then (then six c.push_small.ensures) c.push-2.ensures)
