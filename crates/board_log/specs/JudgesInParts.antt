-- What is shown of the judge over whole scripts and logs, however they are cut into parts (document 02, A2).
use Rattle.std.specs.Prelude.{ℕ, ◌*◌, ◌/◌, ◌%◌, ◌<◌, ◌≤◌, ◌^◌, ◌≡◌, List, [], ◌++◌, ◌↔◌, ◌⊎◌, length, drop}
use Rattle.board_log.specs.Records.{nth_record}
use Rattle.board_log.specs.OwnLog.{wram_at_start, log_of}
use Rattle.board_log.specs.Judging.{Hearing, hearing_of, begun, hearing_begun, Feeds}
use Rattle.board_log.specs.Verdict.{verdict_of}
use Rattle.board_log.specs.declared.judging.Judge.{Judge}
use Rattle.board_log.specs.declared.judging.Fed.{Fed}
use Rattle.board_log.specs.declared.verdict.Verdict.{Verdict}
use Rattle.board_log.specs.declared.verdict.Verdict.TheVariants.{Yes, Wrong, Refused}

-- A script and a log on their way through the judge: what it knows, and what is left of each. A program shows `feed` some part of what
-- is left of the script, and some of the log; what `feed` says that it took is gone, and the rest is to be shown again.
pub data Shown (script log : List ℕ) : Hearing → List ℕ → List ℕ → Type 0 where
  none_shown : Shown script log hearing_begun script log
  part :
      (j : Judge) (wram shown rest shown_log rest_log : List ℕ) (r : Fed) (wram_after : List ℕ) →
      Shown script log (hearing_of j wram) (shown ++ rest) (shown_log ++ rest_log) → Feeds j wram shown shown_log r wram_after →
      Shown script log (hearing_of r.judge wram_after) (drop r.taken (shown ++ rest)) (drop r.taken (shown_log ++ rest_log))

-- "a length not a multiple of 16 or unequal record counts" is 22; this is its opposite
pub record Comparable (script log : List ℕ) : Type 0 where
  pub whole_script : length script % 16 ≡ 0
  pub whole_log : length log % 16 ≡ 0
  pub counts : length script / 16 ≡ length log / 16

-- record k of the log is not the engine's, and every one in front of it is
pub record FirstWrong (script log : List ℕ) (k : ℕ) : Type 0 where
  pub inside : k < length log / 16
  pub before : (i : ℕ) → i < k → nth_record log i ≡ nth_record (log_of script) i
  pub wrong : nth_record log k ≡ nth_record (log_of script) k → ⊥

-- the answer on a whole script and a whole log
pub record Judges (script log : List ℕ) (v : Verdict) : Type 0 where
  -- "22 .. a length not a multiple of 16 or unequal record counts, tested before any record"
  pub refused : (v ≡ Refused) ↔ (Comparable script log → ⊥)
  -- "yes exactly when every record is the engine's"
  pub yes : (v ≡ Yes) ↔ (Comparable script log × (log ≡ log_of script))
  -- "else the number, from 0, of the first record that is not", of a log of at most 2^64 records: they are counted in 64 bits
  pub number : (k : ℕ) → length log ≤ 16 * 2 ^ 64 → (v ≡ Wrong k) ↔ (Comparable script log × FirstWrong script log k)

-- No whole record is left in both. A program has at hand what waits of each file; of one that is longer, more may be unread.
pub record Ended (waiting unread waiting_log unread_log : List ℕ) : Type 0 where
  pub short : (length (waiting ++ unread) < 16) ⊎ (length (waiting_log ++ unread_log) < 16)
  pub all : waiting ≡ [] → unread ≡ []
  pub all_log : waiting_log ≡ [] → unread_log ≡ []

pub record JudgesInParts : Type 0 where
  -- however they are cut, the answer is that on the whole files
  pub judges :
      (script log : List ℕ) (h : Hearing) (waiting unread waiting_log unread_log : List ℕ) →
      Shown script log h (waiting ++ unread) (waiting_log ++ unread_log) → Ended waiting unread waiting_log unread_log →
      Judges script log (verdict_of h.judge (length waiting) (length waiting_log))
  -- "The model's own log of a script of whole records must always pass"
  pub own :
      (script : List ℕ) (h : Hearing) (waiting unread waiting_log unread_log : List ℕ) → length script % 16 ≡ 0 →
      Shown script (log_of script) h (waiting ++ unread) (waiting_log ++ unread_log) → Ended waiting unread waiting_log unread_log →
      verdict_of h.judge (length waiting) (length waiting_log) ≡ Yes
  -- such a cut there is for all files: both shown whole, at once
  pub at_once :
      (script log : List ℕ) (r : Fed) (wram_after : List ℕ) → Feeds begun wram_at_start script log r wram_after →
      Shown script log (hearing_of r.judge wram_after) (drop r.taken script ++ []) (drop r.taken log ++ [])
      × Ended (drop r.taken script) [] (drop r.taken log) []
