-- One turn of the program: what waits of script and log, with what came behind it, is shown to `feed`, and what that did not take waits.
-- It is a step of `Shown` (board_log), as `TurnIsPart` says.
use Rattle.std.specs.Prelude.{ℕ, ◌≡◌, List, ◌++◌, drop}
use Rattle.board_log.specs.Judging.{hearing_of, Feeds}
use Rattle.board_log.specs.JudgesInParts.{Shown}
use Rattle.board_log.specs.declared.judging.Judge.{Judge}
use Rattle.board_log.specs.declared.judging.Fed.{Fed}

-- of the judge j with work RAM, and so much waiting of script and log; then of the judge, of what waits of them and of work RAM after the turn
pub record Turns (j : Judge) (wram waited waited_log : List ℕ) (r : Judge) (waits waits_log wram_after : List ℕ) : Type 0 where
  pub came : List ℕ
  pub came_log : List ℕ
  pub fed : Fed
  pub feeds : Feeds j wram (waited ++ came) (waited_log ++ came_log) fed wram_after
  pub judge : r ≡ fed.judge
  pub left : waits ≡ drop fed.taken (waited ++ came)
  pub left_log : waits_log ≡ drop fed.taken (waited_log ++ came_log)

-- a turn is a step of `Shown`, whatever of the files is still unread
pub record TurnIsPart : Type 0 where
  pub shown :
      (script log : List ℕ) (j : Judge) (wram waited waited_log : List ℕ) (r : Judge) (waits waits_log wram_after unread unread_log : List ℕ)
      (t : Turns j wram waited waited_log r waits waits_log wram_after) →
      Shown script log (hearing_of j wram) ((waited ++ t.came) ++ unread) ((waited_log ++ t.came_log) ++ unread_log) →
      Shown script log (hearing_of r wram_after) (waits ++ unread) (waits_log ++ unread_log)
