use Rattle.std.proofs.Common.{◌≡◌, ℕ, List, length, refl, ap, ◌∙◌, arith, le-ltb}
use Rattle.arithmetic.specs.Number.{bytes_at}
use Rattle.arithmetic.proofs.Copied.{copied}
use Rattle.record.specs.Input.{fall_input_of, switch_input_of, bus_input_of, arbitration_input_of, hold_input_of}
use Rattle.record.specs.Kind.{plain_of}
use Rattle.record.specs.Record.{cycle_in, call_of}
use Rattle.replay_step.specs.Record.{record_of, record_at_start}
use Rattle.replay_step.proofs.read.record_of.Goals as goal

-- a record reads nothing behind its first 16 bytes
first_sixteen : (bytes : List ℕ) → record_of (bytes_at bytes 0 16) ≡ record_of bytes
unfolding record_of call_of cycle_in plain_of fall_input_of switch_input_of bus_input_of arbitration_input_of hold_input_of
first_sixteen bytes = refl

pub returns-in-Some : goal.returns-in-Some
unfolding record_at_start
returns-in-Some c =
    let bytes = c.args.bytes.now in
    let chunk = c.in-Some.ensures.cases in
    rw (le-ltb (length bytes) 16 (omega (arith, chunk.enough)))
    (c.of_sixteen.ensures ∙ ap record_of (chunk.same ∙ copied bytes 0 16 (omega (arith, chunk.enough))) ∙ first_sixteen bytes)
