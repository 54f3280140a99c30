-- A script and a log on their way through the judge stand after a whole number of records of both. Assumes nothing.
use Prim.Native.Nat.{ℕ, zero, suc, ◌+◌, ◌*◌, ◌≤◌, ◌<◌}
use mathlib.Core.Path.{◌≡◌, refl, sym, ap, ◌∙◌}
use mathlib.Core.List.{List, ◌++◌}
use native.Mathlib.Nat.{add-zero, add-suc}
use native.Mathlib.Omega.{arith}
use lib.ListN.{length, take, drop, length-drop, length-append}
use lib.Seq.{drop-drop, take-append-le, drop-append-le}
use Rattle.board_log.specs.Records.{nth_record, whole_in_both}
use Rattle.board_log.specs.Judging.{Hearing, hearing_of, hearing_begun, judged_record, judged_records, judged_part, Feeds}
use Rattle.board_log.specs.JudgesInParts.{Shown, none_shown, part}
use Rattle.board_log.specs.declared.judging.Judge.{Judge}
use Rattle.board_log.specs.declared.judging.Fed.{Fed}

-- a record of a part that is shown is a record of the file: k records of it are gone, and the part is the front of the rest
pub shown_record :
    (file shown rest : List ℕ) (k i : ℕ) → shown ++ rest ≡ drop (k * 16) file → suc i * 16 ≤ length shown →
    nth_record shown i ≡ nth_record file (k + i)
shown_record file shown rest k i cut inside =
    let far : k * 16 + i * 16 ≡ (k + i) * 16 = omega arith in
    let most : i * 16 ≤ length shown = omega arith in
    let enough : 16 ≤ length (drop (i * 16) shown) = omega (arith, length-drop (i * 16) shown) in
    sym (take-append-le 16 (drop (i * 16) shown) rest enough)
    ∙ ap (λ (l : List ℕ). take 16 l) (sym (drop-append-le (i * 16) shown rest most))
    ∙ ap (λ (l : List ℕ). take 16 (drop (i * 16) l)) cut
    ∙ ap (λ (l : List ℕ). take 16 l) (drop-drop (i * 16) (k * 16) file)
    ∙ ap (λ (n : ℕ). take 16 (drop n file)) far

-- n records more of two files, told by their parts
shifted :
    (s : Hearing) (script log a b : List ℕ) (k n : ℕ) → ((i : ℕ) → i < n → nth_record a i ≡ nth_record script (k + i)) →
    ((i : ℕ) → i < n → nth_record b i ≡ nth_record log (k + i)) →
    judged_records (judged_records s script log k) a b n ≡ judged_records s script log (k + n)
shifted s script log a b k zero same same_log = ap (λ (n : ℕ). judged_records s script log n) (sym (add-zero k))
shifted s script log a b k (suc n) same same_log =
    let before = shifted s script log a b k n (λ i h. same i (omega arith)) (λ i h. same_log i (omega arith)) in
    ap (λ (x : Hearing). judged_record x (nth_record a n) (nth_record b n)) before
    ∙ ap (λ (x : List ℕ). judged_record (judged_records s script log (k + n)) x (nth_record b n)) (same n (omega arith))
    ∙ ap (λ (x : List ℕ). judged_record (judged_records s script log (k + n)) (nth_record script (k + n)) x) (same_log n (omega arith))
    ∙ ap (λ (m : ℕ). judged_records s script log m) (sym (add-suc k n))

-- k records of both are judged, and what is left is the rest of both
pub record After (script log : List ℕ) (s : Hearing) (rest rest_log : List ℕ) : Type 0 where
  pub records : ℕ
  pub hearing : s ≡ judged_records hearing_begun script log records
  pub left : rest ≡ drop (records * 16) script
  pub left_log : rest_log ≡ drop (records * 16) log
  pub inside : records * 16 ≤ length script
  pub inside_log : records * 16 ≤ length log

-- so many records of a part are gone from what is left of the file
pub gone : (file shown rest : List ℕ) (k n : ℕ) → shown ++ rest ≡ drop (k * 16) file → drop (n * 16) (shown ++ rest) ≡ drop ((k + n) * 16) file
gone file shown rest k n cut =
    let far : k * 16 + n * 16 ≡ (k + n) * 16 = omega arith in
    ap (λ (l : List ℕ). drop (n * 16) l) cut ∙ drop-drop (n * 16) (k * 16) file ∙ ap (λ (m : ℕ). drop m file) far

pub within :
    (file shown rest : List ℕ) (k n : ℕ) → shown ++ rest ≡ drop (k * 16) file → k * 16 ≤ length file → n * 16 ≤ length shown →
    (k + n) * 16 ≤ length file
within file shown rest k n cut most fewer =
    omega (arith, ap (λ (l : List ℕ). length l) cut, length-append shown rest, length-drop (k * 16) file)

pub taken_both : (a b : List ℕ) → (whole_in_both a b * 16 ≤ length a) × (whole_in_both a b * 16 ≤ length b)
unfolding whole_in_both
taken_both a b = (omega arith, omega arith)

after_part :
    (script log : List ℕ) (s : Hearing) (shown rest shown_log rest_log : List ℕ) → After script log s (shown ++ rest) (shown_log ++ rest_log) →
    After script log (judged_part s shown shown_log)
    (drop (whole_in_both shown shown_log * 16) (shown ++ rest))
    (drop (whole_in_both shown shown_log * 16) (shown_log ++ rest_log))
unfolding judged_part
after_part script log s shown rest shown_log rest_log a =
    let k = a.records in
    let n = whole_in_both shown shown_log in
    let taken = taken_both shown shown_log in
    record {
      records = k + n;
      hearing =
          ap (λ (x : Hearing). judged_records x shown shown_log n) a.hearing
          ∙ shifted hearing_begun script log shown shown_log k n
          (λ i h. shown_record script shown rest k i a.left (omega (arith, h, taken.0)))
          (λ i h. shown_record log shown_log rest_log k i a.left_log (omega (arith, h, taken.1)));
      left = gone script shown rest k n a.left;
      left_log = gone log shown_log rest_log k n a.left_log;
      inside = within script shown rest k n a.left a.inside taken.0;
      inside_log = within log shown_log rest_log k n a.left_log a.inside_log taken.1;
    }

-- the same, of what `feed` answers
after_feed :
    (script log : List ℕ) (j : Judge) (wram shown rest shown_log rest_log : List ℕ) (r : Fed) (last : List ℕ) →
    After script log (hearing_of j wram) (shown ++ rest) (shown_log ++ rest_log) → Feeds j wram shown shown_log r last →
    After script log (hearing_of r.judge last) (drop r.taken (shown ++ rest)) (drop r.taken (shown_log ++ rest_log))
after_feed script log j wram shown rest shown_log rest_log r last before f =
    rw (f.hearing, f.taken) (after_part script log (hearing_of j wram) shown rest shown_log rest_log before)

pub after : (script log : List ℕ) (s : Hearing) (rest rest_log : List ℕ) → Shown script log s rest rest_log → After script log s rest rest_log
after script log s rest rest_log none_shown =
    record { records = 0; hearing = refl; left = refl; left_log = refl; inside = omega arith; inside_log = omega arith }
after script log s rest rest_log (part j wram shown r shown_log rl fed last before feeds) =
    after_feed script log j wram shown r shown_log rl fed last
    (after script log (hearing_of j wram) (shown ++ r) (shown_log ++ rl) before) feeds
