-- The records are performed, and their records stored, one by one.
use Rattle.std.proofs.Common.{◌≡◌}
use Rattle.text.specs.Text.{Pushed}
use Rattle.board_log.specs.OwnLog.{point_of, point_at, own_records}
use Rattle.log_parts.proofs.log_part.put_log.Given as goal

abbrev pub invariant-loop-entry : goal.invariant-loop-entry
invariant-loop-entry l =
    record {
      point : point_of l.engine l.wram ≡ point_at (point_of l.initial.engine l.initial.wram) l.script l.entry-index;
      stored : Pushed l.initial.log (own_records (point_of l.initial.engine l.initial.wram) l.script l.entry-index) l.log;
    }
