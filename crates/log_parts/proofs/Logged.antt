-- A step of the replay and its record behind the others are the log of one record more. Assumes nothing.
use Rattle.std.proofs.Common.{◌≡◌, ℕ, ◌+◌, List, Option, ap, ◌∙◌, add-one}
use Rattle.text.specs.Text.{Pushed}
use Rattle.text.specs.declared.Text.{Text}
use Rattle.text.proofs.Stored.{then, reworded}
use Rattle.console.specs.declared.Cgb.{Cgb}
use Rattle.replay_step.specs.Record.{record_at_start}
use Rattle.replay_step.specs.Step.{Steps}
use Rattle.call.specs.declared.Call.{Call}
use Rattle.replay_step.specs.declared.step.Stepped.{Stepped}
use Rattle.board_log.specs.LogRecord.{log_record}
use Rattle.board_log.specs.Records.{nth_record}
use Rattle.board_log.specs.OwnLog.{ReplayPoint, point_of, record_step, point_after, point_at, own_record, own_records}

module _
    (s : ReplayPoint) (state : Cgb) (wram script entry : List ℕ) (k : ℕ) (e : Option Call) (t : Stepped) (wram_after : List ℕ)
    (stands : point_of state wram ≡ point_at s script k) (next : entry ≡ nth_record script k) (read : e ≡ record_at_start entry)
    (performed : Steps state wram e t wram_after) where
  at_entry : e ≡ record_at_start (nth_record script k)
  at_entry = read ∙ ap record_at_start next

  by_step : t ≡ record_step (point_at s script k) (nth_record script k)
  unfolding record_step
  by_step = rw (← stands, ← at_entry) performed.result

  pub point_more : point_of t.state wram_after ≡ point_at s script (k + 1)
  unfolding point_after record_step
  point_more = rw (add-one k, ← stands, ← at_entry, ← performed.result, ← performed.memory)

  own_more : log_record t.line ≡ own_record s script k
  unfolding own_record
  own_more = ap (λ (x : Stepped). log_record x.line) by_step

  pub logged_more :
      {a b c : Text} {logged : List ℕ} → logged ≡ log_record t.line → Pushed a (own_records s script k) b → Pushed b logged c →
      Pushed a (own_records s script (k + 1)) c
  logged_more made p q = reworded (rw (add-one k, made, own_more)) (then p q)
