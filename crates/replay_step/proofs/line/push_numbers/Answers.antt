-- Its pieces stored one behind the other.
use Rattle.text.proofs.Stored.{then}
use Rattle.replay_step.proofs.line.push_numbers.Goals as goal

pub returns : goal.returns
returns c =
    let two = then c.push_field.ensures c.push_small_field.ensures in
    rw (← c.from.ensures, ← c.from-2.ensures, ← c.from-3.ensures) (then (then two c.push_small_field-2.ensures) c.push_field-2.ensures)
