-- What the judge answers on whole scripts and logs, however they are cut (specs, `JudgesInParts`). Assumes nothing.
use Prim.Native.Nat.{ℕ, suc, ◌+◌, ◌*◌, ◌/◌, ◌%◌, ◌^◌, ◌≤◌, ◌<◌}
use mathlib.Core.Path.{◌≡◌, refl, sym, ap, ◌∙◌, subst}
use mathlib.Core.Bool.{Bool, true, false, cond, false≢true}
use mathlib.Core.List.{List, [], ◌∷◌, ◌++◌, append-nil}
use mathlib.Core.Logic.{◌⊎◌, inl, inr, ⊎_elim}
use native.Mathlib.Omega.{arith}
use lib.ListN.{length, drop, length-append, length-drop}
use lib.Dec.{eqb}
use borrow.Author.Tests.{eq-eqb, eqb-true}
use Rattle.std.proofs.lemmas.Bool.{cases_lt}
use Rattle.board_log.specs.Records.{nth_record, whole_in_both}
use Rattle.board_log.specs.OwnLog.{wram_at_start, log_of}
use Rattle.board_log.specs.Judging.{Hearing, hearing_of, begun, hearing_begun, judged_records, Feeds}
use Rattle.board_log.specs.Verdict.{verdict_of}
use Rattle.board_log.specs.JudgesInParts.{Shown, none_shown, part, Comparable, FirstWrong, Judges, Ended, JudgesInParts}
use Rattle.board_log.specs.declared.judging.Fed.{Fed}
use Rattle.board_log.specs.declared.judging.Judge.{Judge}
use Rattle.board_log.specs.declared.verdict.Verdict.{Verdict}
use Rattle.board_log.specs.declared.verdict.Verdict.TheVariants.{Yes, Wrong, Refused}
use Rattle.board_log.proofs.Cut.{After, after}
use Rattle.board_log.proofs.Found.{Own, AllOwn, OneWrong, found}
use Rattle.board_log.proofs.OwnLog.{log_length, nth_log, own_log}

-- the three answers apart
kind : Verdict → ℕ
kind Yes = 0
kind (Wrong k) = 1
kind Refused = 2

number_in : Verdict → ℕ
number_in Yes = 0
number_in (Wrong k) = k
number_in Refused = 0

apart : (v w : Verdict) → v ≡ w → (kind v ≡ kind w → ⊥) → ⊥
apart v w e differ = differ (ap kind e)

-- both files are used up: their record counts are equal, and the answer is what was found
module _ (script log : List ℕ) (k : ℕ) (whole : length script ≡ k * 16) (whole_log : length log ≡ k * 16) where
  comparable : Comparable script log
  comparable = record { whole_script = omega arith; whole_log = omega arith; counts = omega arith }

  count : length script / 16 ≡ k
  count = omega arith

  count_log : length log / 16 ≡ k
  count_log = omega arith

  -- a record of the log is the engine's exactly if it is the own log's
  theirs : (i : ℕ) → i < k → Own script log i → nth_record log i ≡ nth_record (log_of script) i
  theirs i h own = own ∙ sym (nth_log script i (omega (arith, h, count)))

  own_of : (i : ℕ) → i < k → nth_record log i ≡ nth_record (log_of script) i → Own script log i
  own_of i h same = same ∙ nth_log script i (omega (arith, h, count))

  all_of_log : log ≡ log_of script → (i : ℕ) → i < k → Own script log i
  all_of_log e i h = own_of i h (ap (λ (l : List ℕ). nth_record l i) e)

  yes_judges : ((i : ℕ) → i < k → Own script log i) → Judges script log Yes
  unfolding kind
  yes_judges own =
      record {
        refused = (λ e. absurd (apart Yes Refused e (λ h. omega (arith, h))), λ n. absurd (n comparable));
        yes = (
          λ _. (comparable, own_log script log (omega arith) (λ i h. own i (omega (arith, h, count)))),
          λ _. refl,
        );
        number =
            λ n few. (
              λ e. absurd (apart Yes (Wrong n) e (λ h. omega (arith, h))),
              λ p. absurd (p.1.wrong (theirs n (omega (arith, p.1.inside)) (own n (omega (arith, p.1.inside))))),
            );
      }

  -- of two first wrong records neither is before the other
  same_first :
      (m n : ℕ) → m < k → ((i : ℕ) → i < m → Own script log i) → (Own script log m → ⊥) → FirstWrong script log n → m ≡ n
  same_first m n inside own wrong f =
      ⊎_elim
      (λ (below : m < n). absurd (wrong (own_of m inside (f.before m below))))
      (λ (above : n ≤ m).
      ⊎_elim
      (λ (less : n < m). absurd (f.wrong (theirs n (omega (arith, less, inside)) (own n less))))
      (λ (more : m ≤ n). omega (arith, above, more))
      (cases_lt n m))
      (cases_lt m n)

  wrong_judges :
      (first agreed : ℕ) → first < k → agreed ≡ first % 2 ^ 64 → ((i : ℕ) → i < first → Own script log i) → (Own script log first → ⊥) →
      Judges script log (Wrong agreed)
  unfolding kind number_in
  wrong_judges first agreed inside counted own wrong =
      record {
        refused = (λ e. absurd (apart (Wrong agreed) Refused e (λ h. omega (arith, h))), λ n. absurd (n comparable));
        yes = (
          λ e. absurd (apart (Wrong agreed) Yes e (λ h. omega (arith, h))),
          λ p. absurd (wrong (all_of_log p.1 first inside)),
        );
        number =
            λ n few.
            let exact : agreed ≡ first = omega (arith, counted, inside, whole_log, few) in (
              λ e.
                  let same : first ≡ n = sym exact ∙ ap number_in e in (
                    comparable,
                    subst (λ (m : ℕ). FirstWrong script log m) same
                        (record {
                          inside = omega (arith, inside, count_log);
                          before = λ i h. theirs i (omega (arith, h, inside)) (own i h);
                          wrong = λ e. wrong (own_of first inside e);
                        }),
                  ),
              λ p. ap Wrong (exact ∙ same_first first n inside own wrong p.1),
            );
      }

  used_up : (s : Hearing) → s ≡ judged_records hearing_begun script log k → Judges script log (cond s.judge.differs (Wrong s.judge.agreed) Yes)
  used_up s is =
      ⊎_elim
      (λ (a : AllOwn script log k (judged_records hearing_begun script log k)).
      rw (is, a.differs) (yes_judges a.own))
      (λ (w : OneWrong script log k (judged_records hearing_begun script log k)).
      rw (is, w.differs) (wrong_judges w.first _ w.inside w.agreed w.own w.wrong))
      (found script log k)

-- something is left over: the files cannot be compared
refused_judges : (script log : List ℕ) → (Comparable script log → ⊥) → Judges script log Refused
unfolding kind
refused_judges script log not =
    record {
      refused = (λ _. not, λ _. refl);
      yes = (λ e. absurd (apart Refused Yes e (λ h. omega (arith, h))), λ p. absurd (not p.0));
      number = λ n few. (λ e. absurd (apart Refused (Wrong n) e (λ h. omega (arith, h))), λ p. absurd (not p.0));
    }

module _
    (script log : List ℕ) (s : Hearing) (rest rest_log : List ℕ) (a : After script log s rest rest_log)
    (end : (length rest < 16) ⊎ (length rest_log < 16)) where
  left : length rest + a.records * 16 ≡ length script
  left = omega (arith, ap (λ (l : List ℕ). length l) a.left, length-drop (a.records * 16) script, a.inside)

  left_log : length rest_log + a.records * 16 ≡ length log
  left_log = omega (arith, ap (λ (l : List ℕ). length l) a.left_log, length-drop (a.records * 16) log, a.inside_log)

  -- files that can be compared are used up together
  together : Comparable script log → (length rest ≡ 0) × (length rest_log ≡ 0)
  together c =
      ⊎_elim
      (λ (short : length rest < 16). (
        omega (arith, left, left_log, c.whole_script, c.whole_log, c.counts, short),
        omega (arith, left, left_log, c.whole_script, c.whole_log, c.counts, short),
      ))
      (λ (short : length rest_log < 16). (
        omega (arith, left, left_log, c.whole_script, c.whole_log, c.counts, short),
        omega (arith, left, left_log, c.whole_script, c.whole_log, c.counts, short),
      ))
      end

  by_left :
      (empty empty_log : Bool) → eqb (length rest) 0 ≡ empty → eqb (length rest_log) 0 ≡ empty_log →
      Judges script log (verdict_of s.judge (length rest) (length rest_log))
  unfolding verdict_of
  by_left true true e f =
      rw (e, f)
      (used_up script log a.records (omega (arith, left, eqb-true (length rest) 0 e)) (omega (arith, left_log, eqb-true (length rest_log) 0 f)) s
      a.hearing)
  by_left false empty_log e f =
      rw (e) (refused_judges script log (λ c. false≢true (sym e ∙ eq-eqb (length rest) 0 (together c).0)))
  by_left true false e f =
      rw (e, f) (refused_judges script log (λ c. false≢true (sym f ∙ eq-eqb (length rest_log) 0 (together c).1)))

  pub judged : Judges script log (verdict_of s.judge (length rest) (length rest_log))
  judged = by_left (eqb (length rest) 0) (eqb (length rest_log) 0) refl refl

own_comparable : (script : List ℕ) → length script % 16 ≡ 0 → Comparable script (log_of script)
own_comparable script whole =
    record {
      whole_script = whole;
      whole_log = omega (arith, log_length script);
      counts = omega (arith, log_length script);
    }

-- whether nothing waits says whether nothing is left
empty_length : (l : List ℕ) → length l ≡ 0 → l ≡ []
empty_length [] e = refl
empty_length (x ∷ l) e = absurd (not_zero (length l) e)
  where
    not_zero : (n : ℕ) → suc n ≡ 0 → ⊥
    not_zero n e = omega (arith, e)

same_test : (m n : ℕ) (a b : Bool) → eqb m 0 ≡ a → eqb n 0 ≡ b → (m ≡ 0 → n ≡ 0) → (n ≡ 0 → m ≡ 0) → eqb m 0 ≡ eqb n 0
same_test m n true b e f there back = e ∙ sym (eq-eqb n 0 (there (eqb-true m 0 e)))
same_test m n false true e f there back = eq-eqb m 0 (back (eqb-true n 0 f)) ∙ sym f
same_test m n false false e f there back = e ∙ sym f

waits : (waiting unread : List ℕ) → (waiting ≡ [] → unread ≡ []) → eqb (length waiting) 0 ≡ eqb (length (waiting ++ unread)) 0
waits waiting unread all =
    let n = length waiting in
    let m = length (waiting ++ unread) in
    same_test n m (eqb n 0) (eqb m 0) refl refl
    (λ none.
    omega (arith, none, length-append waiting unread, ap (λ (l : List ℕ). length l) (all (empty_length waiting none))))
    (λ none. omega (arith, none, length-append waiting unread))

same_verdict :
    (j : Judge) (waiting unread waiting_log unread_log : List ℕ) → Ended waiting unread waiting_log unread_log →
    verdict_of j (length (waiting ++ unread)) (length (waiting_log ++ unread_log)) ≡ verdict_of j (length waiting) (length waiting_log)
unfolding verdict_of
same_verdict j waiting unread waiting_log unread_log e =
    rw (waits waiting unread e.all, waits waiting_log unread_log e.all_log)

judges :
    (script log : List ℕ) (h : Hearing) (waiting unread waiting_log unread_log : List ℕ) →
    Shown script log h (waiting ++ unread) (waiting_log ++ unread_log) → Ended waiting unread waiting_log unread_log →
    Judges script log (verdict_of h.judge (length waiting) (length waiting_log))
judges script log h waiting unread waiting_log unread_log shown e =
    subst (λ (v : Verdict). Judges script log v) (same_verdict h.judge waiting unread waiting_log unread_log e)
    (judged script log h (waiting ++ unread) (waiting_log ++ unread_log) (after script log h (waiting ++ unread) (waiting_log ++ unread_log) shown)
    e.short)

short_rest : (script log : List ℕ) (n : ℕ) → n ≡ whole_in_both script log * 16 → (length (drop n script ++ []) < 16) ⊎ (length (drop n log ++ []) < 16)
unfolding whole_in_both
short_rest script log n e =
    ⊎_elim
    (λ (less : length script / 16 < length log / 16).
    inl (omega (arith, less, e, length-drop n script, length-append (drop n script) [])))
    (λ (more : length log / 16 ≤ length script / 16).
    inr (omega (arith, more, e, length-drop n log, length-append (drop n log) [])))
    (cases_lt (length script / 16) (length log / 16))

at_once_lem :
    (script log : List ℕ) (r : Fed) (wram_after : List ℕ) → Feeds begun wram_at_start script log r wram_after →
    Shown script log (hearing_of r.judge wram_after) (drop r.taken script ++ []) (drop r.taken log ++ [])
unfolding hearing_begun
at_once_lem script log r wram_after f =
    let n = r.taken in
    let h = hearing_of r.judge wram_after in
    let none : (l : List ℕ) → l ≡ l ++ [] = λ l. sym (append-nil l) in
    let shown : Shown script log hearing_begun (script ++ []) (log ++ []) =
    subst (λ (l : List ℕ). Shown script log hearing_begun (script ++ []) l) (none log)
    (subst (λ (l : List ℕ). Shown script log hearing_begun l log) (none script) none_shown) in
    let fed : Shown script log h (drop n (script ++ [])) (drop n (log ++ [])) = part begun wram_at_start script [] log [] r wram_after shown f in
    subst (λ (l : List ℕ). Shown script log h (drop n script ++ []) l) (ap (drop n) (append-nil log) ∙ none (drop n log))
    (subst (λ (l : List ℕ). Shown script log h l (drop n (log ++ []))) (ap (drop n) (append-nil script) ∙ none (drop n script)) fed)

pub judges_in_parts : JudgesInParts
judges_in_parts =
    record {
      judges = judges;
      own =
          λ script h waiting unread waiting_log unread_log whole shown e.
          (judges script (log_of script) h waiting unread waiting_log unread_log shown e).yes.1 (own_comparable script whole, refl);
      at_once =
          λ script log r wram_after f. (
            at_once_lem script log r wram_after f,
            record { short = short_rest script log r.taken f.taken; all = λ _. refl; all_log = λ _. refl },
          );
    }
