-- One turn of the program: what waits of the script, with what came behind it, is shown to `put_log`, and what that did not take waits.
use Rattle.std.specs.Prelude.{ℕ, ◌≡◌, List, ◌++◌, take, drop}
use Rattle.console.specs.declared.Cgb.{Cgb}
use Rattle.board_log.specs.OwnLog.{point_of, Logs}
use Rattle.board_log.specs.LogsInParts.{Written}
use Rattle.board_log.specs.declared.own.Logged.{Logged}

-- of the state with work RAM, so much waiting of the script, and a buffer for the log; then of the state, of what waits of the script, of work RAM
-- and of the log's buffer after the turn, from whose front as many bytes are written as were taken
pub record LogTurns (state : Cgb) (wram waited out : List ℕ) (r : Cgb) (waits wram_after out_after : List ℕ) : Type 0 where
  pub came : List ℕ
  pub logged : Logged
  pub logs : Logs state wram (waited ++ came) out logged wram_after out_after
  pub state_after : r ≡ logged.state
  pub left : waits ≡ drop logged.taken (waited ++ came)

-- a turn is a step of `Written`, whatever of the script is still unread
pub record LogTurnIsPart : Type 0 where
  pub writes :
      (script : List ℕ) (state : Cgb) (wram written waited out : List ℕ) (r : Cgb) (waits wram_after out_after unread : List ℕ)
      (t : LogTurns state wram waited out r waits wram_after out_after) →
      Written script (point_of state wram) written ((waited ++ t.came) ++ unread) →
      Written script (point_of r wram_after) (written ++ take t.logged.taken out_after) (waits ++ unread)
