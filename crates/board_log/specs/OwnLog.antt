-- "The model's own log of a script" (document 02, A2): the engine's record of each record of the script, one behind the other.
use Rattle.std.specs.Prelude.{ℕ, zero, suc, ◌*◌, ◌/◌, ◌≡◌, false, List, [], ◌++◌, ◌⊎◌, length, replicate}
use Rattle.std.proofs.lemmas.List.Edits.{sets}
use Rattle.console.specs.PowerOn.{power_on_of}
use Rattle.console.specs.declared.Cgb.{Cgb}
use Rattle.perform.specs.Record.{record_wram}
use Rattle.replay_step.specs.Record.{record_at_start}
use Rattle.replay_step.specs.Step.{step_of}
use Rattle.replay_step.specs.declared.step.Line.{Line}
use Rattle.replay_step.specs.declared.step.Stepped.{Stepped}
use Rattle.board_log.specs.Records.{nth_record, whole_in_both}
use Rattle.board_log.specs.LogRecord.{log_record}
use Rattle.board_log.specs.declared.own.Logged.{Logged}

-- where a replay stands between two records
pub record ReplayPoint : Type 0 where
  pub state : Cgb
  pub wram : List ℕ

abbrev pub point_of : Cgb → List ℕ → ReplayPoint
point_of state wram = record { state = state; wram = wram }

-- the replay's start (document 01, section 6): "from power-on without compat"
abbrev pub wram_at_start : List ℕ
wram_at_start = replicate 32768 0

unfoldable pub at_power_on : ReplayPoint
at_power_on = point_of (power_on_of false) wram_at_start

-- one record, given as its bytes: the replay's own step
unfoldable pub record_step : ReplayPoint → List ℕ → Stepped
record_step s bytes = step_of s.state s.wram (record_at_start bytes)

unfoldable pub point_after : ReplayPoint → List ℕ → ReplayPoint
point_after s bytes = point_of (record_step s bytes).state (record_wram s.state (record_at_start bytes) s.wram)

-- "source and destination of the pair (two bytes each, zero if none)": a record brings at most one pair, without one both are 0, and a
-- refused record brings none
pub record LineSteps (l : Line) : Type 0 where
  pub one : (l.pairs ≡ 0) ⊎ (l.pairs ≡ 1)
  pub none : l.pairs ≡ 0 → (l.source ≡ 0) × (l.dest ≡ 0)
  pub refused : (l.refusal ≡ 0 → ⊥) → l.pairs ≡ 0

-- after the first k records of a script
abbrev pub point_at : ReplayPoint → List ℕ → ℕ → ReplayPoint
point_at s script zero = s
point_at s script (suc k) = point_after (point_at s script k) (nth_record script k)

-- the engine's record of record k of a script
unfoldable pub own_record : ReplayPoint → List ℕ → ℕ → List ℕ
own_record s script k = log_record (record_step (point_at s script k) (nth_record script k)).line

-- the engine's records of the first k records of a script
abbrev pub own_records : ReplayPoint → List ℕ → ℕ → List ℕ
own_records s script zero = []
own_records s script (suc k) = own_records s script k ++ own_record s script k

-- the model's own log of a script: of its whole records
unfoldable pub log_of : List ℕ → List ℕ
log_of script = own_records at_power_on script (length script / 16)

-- the log of a part of a script in a buffer, of as many records as are whole in the one and have room in the other
pub record Logs (state : Cgb) (wram script out : List ℕ) (r : Logged) (wram_after out_after : List ℕ) : Type 0 where
  pub point :
      point_of r.state wram_after ≡ point_at (point_of state wram) script (whole_in_both script out)
  pub written : out_after ≡ sets out 0 (own_records (point_of state wram) script (whole_in_both script out))
  pub taken : r.taken ≡ whole_in_both script out * 16
