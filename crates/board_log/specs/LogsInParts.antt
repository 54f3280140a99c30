-- What is shown of the model's own log written in parts (document 02, A2).
use Rattle.std.specs.Prelude.{ℕ, ◌<◌, ◌≤◌, ◌≡◌, false, List, [], ◌++◌, length, take, drop}
use Rattle.console.specs.PowerOn.{power_on_of}
use Rattle.console.specs.declared.Cgb.{Cgb}
use Rattle.board_log.specs.OwnLog.{ReplayPoint, point_of, wram_at_start, at_power_on, log_of, Logs}
use Rattle.board_log.specs.declared.own.Logged.{Logged}

-- A script on its way through `put_log`: where its replay stands, what is written so far, and what is left of the script. A program shows
-- some part of what is left, and a buffer; as many bytes as were taken stand at the buffer's front, and are written behind the others.
pub data Written (script : List ℕ) : ReplayPoint → List ℕ → List ℕ → Type 0 where
  none_written : Written script at_power_on [] script
  part :
      (state : Cgb) (wram written shown rest buffer : List ℕ) (r : Logged) (wram_after buffer_after : List ℕ) →
      Written script (point_of state wram) written (shown ++ rest) → Logs state wram shown buffer r wram_after buffer_after →
      Written script (point_of r.state wram_after) (written ++ take r.taken buffer_after) (drop r.taken (shown ++ rest))

pub record LogsInParts : Type 0 where
  -- however it is cut: once no whole record is left, what was written is the model's own log
  pub whole :
      (script : List ℕ) (s : ReplayPoint) (written rest : List ℕ) → Written script s written rest → length rest < 16 → written ≡ log_of script
  -- such a cut there is for every script: shown whole, at once, with room for its log
  pub at_once :
      (script buffer : List ℕ) (r : Logged) (wram_after buffer_after : List ℕ) → length script ≤ length buffer →
      Logs (power_on_of false) wram_at_start script buffer r wram_after buffer_after →
      Written script (point_of r.state wram_after) (take r.taken buffer_after) (drop r.taken script)
      × (length (drop r.taken script) < 16)
