-- The records are judged one by one.
use Rattle.std.proofs.Common.{◌≡◌, length}
use Rattle.board_log.specs.Judging.{hearing_of, judged_records}
use Rattle.log_parts.proofs.judge_part.feed.Given as goal

abbrev pub invariant-loop-entry : goal.invariant-loop-entry
invariant-loop-entry l =
    hearing_of l.judge l.wram ≡ judged_records (hearing_of l.initial.judge l.initial.wram) l.script l.log (length l.yielded)
