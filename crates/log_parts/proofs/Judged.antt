-- A step of the replay and a comparison are what the judge makes of a record. Assumes nothing.
use Rattle.std.proofs.Common.{◌≡◌, ℕ, ◌+◌, ◌%◌, ◌^◌, Bool, true, false, not, ◌&&◌, ◌||◌, List, [], ◌∷◌, Option, refl, ap, ◌∙◌, add-one}
use lib.Dec.{eqb}
use lib.Pointwise.{pointwise}
use Rattle.arithmetic.specs.Number.{same_bytes}
use Rattle.replay_step.specs.Record.{record_at_start}
use Rattle.replay_step.specs.Step.{Steps}
use Rattle.call.specs.declared.Call.{Call}
use Rattle.replay_step.specs.declared.step.Stepped.{Stepped}
use Rattle.board_log.specs.LogRecord.{log_record}
use Rattle.board_log.specs.Records.{nth_record}
use Rattle.board_log.specs.OwnLog.{record_step, point_after}
use Rattle.board_log.specs.Judging.{Hearing, hearing_of, point, is_own, judged_record, judged_records}
use Rattle.board_log.specs.declared.judging.Judge.{Judge}

-- std's `==` of two arrays compares byte by byte
by_bytes : (a b : List ℕ) → pointwise eqb a b ≡ same_bytes a b
by_bytes [] [] = refl
by_bytes [] (y ∷ ys) = refl
by_bytes (x ∷ xs) [] = refl
by_bytes (x ∷ xs) (y ∷ ys) = ap (λ (rest : Bool). eqb x y && rest) (by_bytes xs ys)

module _
    (j : Judge) (wram entry logged after own : List ℕ) (e : Option Call) (t : Stepped) (same : Bool)
    (read : e ≡ record_at_start entry) (performed : Steps j.state wram e t after) (owned : own ≡ log_record t.line)
    (equal : same ≡ pointwise eqb logged own) where
  compared : same ≡ same_bytes logged (log_record t.line)
  compared = equal ∙ by_bytes logged own ∙ ap (λ (l : List ℕ). same_bytes logged l) owned

  pub differing :
      (j.differs || not same) ≡ true →
      hearing_of (record { state = t.state; agreed = j.agreed; differs = j.differs || not same }) after
      ≡ judged_record (hearing_of j wram) entry logged
  unfolding judged_record is_own point point_after record_step
  differing d = rw (← read, ← performed.result, ← performed.memory, ← compared, d)

  pub agreeing :
      (count : ℕ) → count ≡ (j.agreed + 1) % 2 ^ 64 → (j.differs || not same) ≡ false →
      hearing_of (record { state = t.state; agreed = count; differs = j.differs || not same }) after
      ≡ judged_record (hearing_of j wram) entry logged
  unfolding judged_record is_own point point_after record_step
  agreeing count counted d = rw (← read, ← performed.result, ← performed.memory, ← compared, d, counted)

-- one record more of script and log
pub judged_more :
    (s t u : Hearing) (script log asked logged : List ℕ) (k m : ℕ) → m ≡ k + 1 → asked ≡ nth_record script k → logged ≡ nth_record log k →
    t ≡ judged_records s script log k → u ≡ judged_record t asked logged → u ≡ judged_records s script log m
judged_more s t u script log asked logged k m more asks logs before now = rw (more, add-one k) (now ∙ rw (asks, logs, before))
