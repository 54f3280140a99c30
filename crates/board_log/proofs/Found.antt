-- What the judge has found after some records: whether all of them are the engine's, and if not, which is the first that is not.
-- Assumes nothing.
use Prim.Native.Nat.{ℕ, zero, suc, ◌+◌, ◌%◌, ◌^◌, ◌≤◌, ◌<◌}
use mathlib.Core.Path.{◌≡◌, refl, sym, ap, ◌∙◌, subst}
use mathlib.Core.Bool.{Bool, true, false, cond, not, ◌||◌, false≢true}
use mathlib.Core.List.{List}
use mathlib.Core.Logic.{◌⊎◌, inl, inr, ⊎_elim}
use native.Mathlib.Nat.{not-suc-le-zero}
use native.Mathlib.Omega.{arith}
use Rattle.std.proofs.lemmas.Bool.{cases_lt}
use Rattle.arithmetic.specs.Number.{same_bytes}
use Rattle.arithmetic.proofs.Same.{same_self, same_equal}
use Rattle.board_log.specs.LogRecord.{log_record}
use Rattle.board_log.specs.Records.{nth_record}
use Rattle.board_log.specs.OwnLog.{ReplayPoint, at_power_on, record_step, point_after, point_at, own_record}
use Rattle.board_log.specs.Judging.{Hearing, begun, hearing_begun, point, is_own, judged_record, judged_records}

-- the judge's replay is the replay from power-on
stands : (script log : List ℕ) (k : ℕ) → point (judged_records hearing_begun script log k) ≡ point_at at_power_on script k
unfolding point hearing_begun begun at_power_on judged_record
stands script log zero = refl
stands script log (suc k) = ap (λ (s : ReplayPoint). point_after s (nth_record script k)) (stands script log k)

-- record i of the log is the engine's
abbrev pub Own : List ℕ → List ℕ → ℕ → Type 0
Own script log i = nth_record log i ≡ own_record at_power_on script i

-- the judge's comparison at record k
at_record : (script log : List ℕ) (k : ℕ) → Bool
at_record script log k = is_own (judged_records hearing_begun script log k) (nth_record script k) (nth_record log k)

compares : (script log : List ℕ) (k : ℕ) → at_record script log k ≡ same_bytes (nth_record log k) (own_record at_power_on script k)
unfolding at_record is_own own_record
compares script log k =
    ap (λ (s : ReplayPoint). same_bytes (nth_record log k) (log_record (record_step s (nth_record script k)).line)) (stands script log k)

own_if_true : (script log : List ℕ) (k : ℕ) → at_record script log k ≡ true → Own script log k
own_if_true script log k t = same_equal _ _ (sym (compares script log k) ∙ t)

not_if_false : (script log : List ℕ) (k : ℕ) → at_record script log k ≡ false → Own script log k → ⊥
not_if_false script log k f own =
    let mine = own_record at_power_on script k in
    false≢true (sym f ∙ compares script log k ∙ ap (λ (l : List ℕ). same_bytes l mine) own ∙ same_self mine)

-- all of the first k records are the engine's
pub record AllOwn (script log : List ℕ) (k : ℕ) (s : Hearing) : Type 0 where
  pub differs : s.judge.differs ≡ false
  pub agreed : s.judge.agreed ≡ k % 2 ^ 64
  pub own : (i : ℕ) → i < k → Own script log i

-- one of them is not, and this is the first
pub record OneWrong (script log : List ℕ) (k : ℕ) (s : Hearing) : Type 0 where
  pub first : ℕ
  pub inside : first < k
  pub differs : s.judge.differs ≡ true
  pub agreed : s.judge.agreed ≡ first % 2 ^ 64
  pub own : (i : ℕ) → i < first → Own script log i
  pub wrong : Own script log first → ⊥

abbrev pub Found : List ℕ → List ℕ → ℕ → Hearing → Type 0
Found script log k s = AllOwn script log k s ⊎ OneWrong script log k s

wraps : (k : ℕ) → (k % 2 ^ 64 + 1) % 2 ^ 64 ≡ suc k % 2 ^ 64
wraps k = omega arith

-- up to k, and k too
with_last : (P : ℕ → Type 0) (k : ℕ) → ((i : ℕ) → i < k → P i) → P k → (i : ℕ) → i < suc k → P i
with_last P k before last i h =
    ⊎_elim (λ (below : i < k). before i below) (λ (above : k ≤ i). let same : k ≡ i = omega arith in subst P same last) (cases_lt i k)

none_yet : (script log : List ℕ) → Found script log 0 hearing_begun
unfolding hearing_begun begun
none_yet script log = inl (record { differs = refl; agreed = refl; own = λ i h. absurd (not-suc-le-zero h) })

-- the count at a record, by whether one differs then
counted : (s : Hearing) → Bool → ℕ
counted s differs = cond differs s.judge.agreed ((s.judge.agreed + 1) % 2 ^ 64)

-- the record after k that are all the engine's
after_own :
    (script log : List ℕ) (k : ℕ) (s : Hearing) (b : Bool) → is_own s (nth_record script k) (nth_record log k) ≡ b →
    (b ≡ true → Own script log k) → (b ≡ false → Own script log k → ⊥) → AllOwn script log k s →
    Found script log (suc k) (judged_record s (nth_record script k) (nth_record log k))
unfolding judged_record counted
after_own script log k s true same theirs not_own a =
    let agrees = ap (λ (x : Bool). x || not (is_own s (nth_record script k) (nth_record log k))) a.differs ∙ ap not same in
    inl
    (record {
      differs = agrees;
      agreed = ap (counted s) agrees ∙ ap (λ (n : ℕ). (n + 1) % 2 ^ 64) a.agreed ∙ wraps k;
      own = with_last (Own script log) k a.own (theirs refl);
    })
after_own script log k s false same theirs not_own a =
    let wrong = ap (λ (x : Bool). x || not (is_own s (nth_record script k) (nth_record log k))) a.differs ∙ ap not same in
    inr
    (record {
      first = k;
      inside = omega arith;
      differs = wrong;
      agreed = ap (counted s) wrong ∙ a.agreed;
      own = a.own;
      wrong = not_own refl;
    })

-- the record after one that is not
after_wrong :
    (script log : List ℕ) (k : ℕ) (s : Hearing) → OneWrong script log k s →
    OneWrong script log (suc k) (judged_record s (nth_record script k) (nth_record log k))
unfolding judged_record
after_wrong script log k s w =
    record {
      first = w.first;
      inside = omega (arith, w.inside);
      differs = rw w.differs;
      agreed = rw w.differs w.agreed;
      own = w.own;
      wrong = w.wrong;
    }

pub found : (script log : List ℕ) (k : ℕ) → Found script log k (judged_records hearing_begun script log k)
unfolding at_record
found script log zero = none_yet script log
found script log (suc k) =
    let s = judged_records hearing_begun script log k in
    ⊎_elim
    (λ (a : AllOwn script log k s).
    after_own script log k s (at_record script log k) refl (own_if_true script log k) (not_if_false script log k) a)
    (λ (w : OneWrong script log k s). inr (after_wrong script log k s w))
    (found script log k)
