-- A script and a board's log judged in parts: what the judge knows between two records, and what a part makes of it.
use Rattle.std.specs.Prelude.{ℕ, zero, suc, ◌+◌, ◌*◌, ◌%◌, ◌^◌, ◌≡◌, Bool, false, cond, not, ◌||◌, List}
use Rattle.arithmetic.specs.Number.{same_bytes}
use Rattle.console.specs.PowerOn.{power_on_of}
use Rattle.board_log.specs.LogRecord.{log_record}
use Rattle.board_log.specs.Records.{nth_record, whole_in_both}
use Rattle.board_log.specs.OwnLog.{wram_at_start, ReplayPoint, point_of, record_step, point_after}
use Rattle.board_log.specs.declared.judging.Judge.{Judge}
use Rattle.board_log.specs.declared.judging.Fed.{Fed}

-- what the judge knows, with the work RAM that its replay has
pub record Hearing : Type 0 where
  pub judge : Judge
  pub wram : List ℕ

abbrev pub hearing_of : Judge → List ℕ → Hearing
hearing_of j wram = record { judge = j; wram = wram }

unfoldable pub begun : Judge
begun = record { state = power_on_of false; agreed = 0; differs = false }

unfoldable pub hearing_begun : Hearing
hearing_begun = hearing_of begun wram_at_start

unfoldable pub point : Hearing → ReplayPoint
point s = point_of s.judge.state s.wram

-- whether a board's record is the engine's of a record of the script: all 16 bytes
unfoldable pub is_own : Hearing → List ℕ → List ℕ → Bool
is_own s asked logged = same_bytes logged (log_record (record_step (point s) asked).line)

-- A record of the script and the board's record of it. The count stops at the first that differs.
unfoldable pub judged_record : Hearing → List ℕ → List ℕ → Hearing
judged_record s asked logged =
    let differs = s.judge.differs || not (is_own s asked logged) in
    let next = point_after (point s) asked in
    record {
      judge =
          record {
            state = next.state;
            agreed = cond differs s.judge.agreed ((s.judge.agreed + 1) % 2 ^ 64);
            differs = differs;
          };
      wram = next.wram;
    }

-- the first k records of script and log
abbrev pub judged_records : Hearing → List ℕ → List ℕ → ℕ → Hearing
judged_records s script log zero = s
judged_records s script log (suc k) = judged_record (judged_records s script log k) (nth_record script k) (nth_record log k)

-- what a part of script and log makes of the judge: every record that is whole in both is judged
unfoldable pub judged_part : Hearing → List ℕ → List ℕ → Hearing
judged_part s script log = judged_records s script log (whole_in_both script log)

-- the whole outcome of a part
pub record Feeds (j : Judge) (wram script log : List ℕ) (r : Fed) (wram_after : List ℕ) : Type 0 where
  pub hearing : hearing_of r.judge wram_after ≡ judged_part (hearing_of j wram) script log
  pub taken : r.taken ≡ whole_in_both script log * 16
