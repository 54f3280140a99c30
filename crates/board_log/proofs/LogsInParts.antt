-- The parts of the model's own log, one behind the other, are the whole of it (specs, `LogsInParts`). Assumes nothing.
use Prim.Native.Nat.{ℕ, zero, suc, ◌+◌, ◌*◌, ◌/◌, ◌≤◌, ◌<◌}
use mathlib.Core.Path.{◌≡◌, refl, sym, ap, subst, ◌∙◌}
use mathlib.Core.Bool.{false}
use mathlib.Core.List.{List, [], ◌++◌, append_assoc, append-nil}
use native.Mathlib.Nat.{add-zero, add-suc}
use native.Mathlib.Omega.{arith}
use lib.ListN.{length, take, drop, length-drop}
use lib.Seq.{sets, sets-eq, take_at}
use Rattle.console.specs.PowerOn.{power_on_of}
use Rattle.console.specs.declared.Cgb.{Cgb}
use Rattle.board_log.specs.LogRecord.{log_record}
use Rattle.board_log.specs.Records.{nth_record, whole_in_both}
use Rattle.board_log.specs.OwnLog.{ReplayPoint, point_of, wram_at_start, at_power_on, record_step, point_after, point_at, own_record}
use Rattle.board_log.specs.OwnLog.{own_records, log_of, Logs}
use Rattle.board_log.specs.LogsInParts.{Written, none_written, part, LogsInParts}
use Rattle.board_log.specs.declared.own.Logged.{Logged}
use Rattle.board_log.proofs.Cut.{shown_record, gone, within, taken_both}
use Rattle.board_log.proofs.OwnLog.{own_lengths}

-- n records more of a script, told by a part of it
module _ (s : ReplayPoint) (script shown : List ℕ) (k : ℕ) where
  abbrev Same : ℕ → Type 0
  Same n = (i : ℕ) → i < n → nth_record shown i ≡ nth_record script (k + i)

  further : (n : ℕ) → Same n → point_at (point_at s script k) shown n ≡ point_at s script (k + n)
  further zero same = ap (λ (m : ℕ). point_at s script m) (sym (add-zero k))
  further (suc n) same =
      ap (λ (t : ReplayPoint). point_after t (nth_record shown n)) (further n (λ i h. same i (omega arith)))
      ∙ ap (λ (l : List ℕ). point_after (point_at s script (k + n)) l) (same n (omega arith))
      ∙ ap (λ (m : ℕ). point_at s script m) (sym (add-suc k n))

  own_further : (n : ℕ) → Same (suc n) → own_record (point_at s script k) shown n ≡ own_record s script (k + n)
  unfolding own_record
  own_further n same =
      ap (λ (t : ReplayPoint). log_record (record_step t (nth_record shown n)).line) (further n (λ i h. same i (omega arith)))
      ∙ ap (λ (l : List ℕ). log_record (record_step (point_at s script (k + n)) l).line) (same n (omega arith))

  pub records_further :
      (n : ℕ) → Same n → own_records s script k ++ own_records (point_at s script k) shown n ≡ own_records s script (k + n)
  records_further zero same = append-nil (own_records s script k) ∙ ap (λ (m : ℕ). own_records s script m) (sym (add-zero k))
  records_further (suc n) same =
      let own = own_record (point_at s script k) shown n in
      sym (append_assoc (own_records s script k) (own_records (point_at s script k) shown n) own)
      ∙ ap (λ (l : List ℕ). l ++ own) (records_further n (λ i h. same i (omega arith)))
      ∙ ap (λ (l : List ℕ). own_records s script (k + n) ++ l) (own_further n same)
      ∙ ap (λ (m : ℕ). own_records s script m) (sym (add-suc k n))

-- what stands at the front of a buffer
front : (buffer records : List ℕ) (n : ℕ) → length records ≡ n → n ≤ length buffer → take n (sets buffer 0 records) ≡ records
front buffer records n whole room = ap (λ (l : List ℕ). take n l) (sets-eq records buffer 0 (omega arith)) ∙ take_at records _ n whole

-- k records are written, and what is left is the rest of the script
record At (script : List ℕ) (s : ReplayPoint) (written rest : List ℕ) : Type 0 where
  records : ℕ
  point : s ≡ point_at at_power_on script records
  log : written ≡ own_records at_power_on script records
  left : rest ≡ drop (records * 16) script
  inside : records * 16 ≤ length script

module _
    (script : List ℕ) (state : Cgb) (wram written shown rest buffer : List ℕ) (r : Logged) (wram_after buffer_after : List ℕ)
    (before : At script (point_of state wram) written (shown ++ rest)) (logs : Logs state wram shown buffer r wram_after buffer_after) where
  abbrev k : ℕ
  k = before.records

  abbrev n : ℕ
  n = whole_in_both shown buffer

  same : (i : ℕ) → i < n → nth_record shown i ≡ nth_record script (k + i)
  same i h = shown_record script shown rest k i before.left (omega (arith, h, (taken_both shown buffer).0))

  abbrev here : ReplayPoint
  here = point_at at_power_on script k

  now_written : take r.taken buffer_after ≡ own_records here shown n
  now_written =
      ap (λ (l : List ℕ). take r.taken l) logs.written
      ∙ ap (λ (m : ℕ). take m (sets buffer 0 (own_records (point_of state wram) shown n))) logs.taken
      ∙ front buffer (own_records (point_of state wram) shown n) (n * 16) (own_lengths (point_of state wram) shown n) (taken_both shown buffer).1
      ∙ ap (λ (t : ReplayPoint). own_records t shown n) before.point

  at_part : At script (point_of r.state wram_after) (written ++ take r.taken buffer_after) (drop r.taken (shown ++ rest))
  at_part =
      record {
        records = k + n;
        point =
            logs.point
            ∙ ap (λ (t : ReplayPoint). point_at t shown n) before.point
            ∙ further at_power_on script shown k n same;
        log =
            ap (λ (l : List ℕ). l ++ take r.taken buffer_after) before.log
            ∙ ap (λ (l : List ℕ). own_records at_power_on script k ++ l) now_written
            ∙ records_further at_power_on script shown k n same;
        left = ap (λ (m : ℕ). drop m (shown ++ rest)) logs.taken ∙ gone script shown rest k n before.left;
        inside = within script shown rest k n before.left before.inside (taken_both shown buffer).0;
      }

at : (script : List ℕ) (s : ReplayPoint) (written rest : List ℕ) → Written script s written rest → At script s written rest
at script s written rest none_written = record { records = 0; point = refl; log = refl; left = refl; inside = omega arith }
at script s written rest (part state wram w shown r buffer logged wram_after buffer_after before logs) =
    at_part script state wram w shown r buffer logged wram_after buffer_after (at script (point_of state wram) w (shown ++ r) before) logs

whole : (script : List ℕ) (s : ReplayPoint) (written rest : List ℕ) → At script s written rest → length rest < 16 → written ≡ log_of script
unfolding log_of
whole script s written rest a short =
    let all : a.records ≡ length script / 16 =
    omega (arith, a.inside, ap (λ (l : List ℕ). length l) a.left, length-drop (a.records * 16) script, short) in
    a.log ∙ ap (λ (m : ℕ). own_records at_power_on script m) all

short_rest : (script buffer : List ℕ) (n : ℕ) → length script ≤ length buffer → n ≡ whole_in_both script buffer * 16 → length (drop n script) < 16
unfolding whole_in_both
short_rest script buffer n room e = omega (arith, room, e, length-drop n script)

at_once_lem :
    (script buffer : List ℕ) (r : Logged) (wram_after buffer_after : List ℕ) → Logs (power_on_of false) wram_at_start script buffer r wram_after buffer_after →
    Written script (point_of r.state wram_after) (take r.taken buffer_after) (drop r.taken script)
unfolding at_power_on
at_once_lem script buffer r wram_after buffer_after logs =
    let shown : Written script at_power_on [] (script ++ []) =
    subst (λ (l : List ℕ). Written script at_power_on [] l) (sym (append-nil script)) none_written in
    subst (λ (l : List ℕ). Written script (point_of r.state wram_after) (take r.taken buffer_after) (drop r.taken l)) (append-nil script)
    (part (power_on_of false) wram_at_start [] script [] buffer r wram_after buffer_after shown logs)

pub logs_in_parts : LogsInParts
logs_in_parts =
    record {
      whole = λ script s written rest w short. whole script s written rest (at script s written rest w) short;
      at_once =
          λ script buffer r wram_after buffer_after room logs.
          (at_once_lem script buffer r wram_after buffer_after logs, short_rest script buffer r.taken room logs.taken);
    }
