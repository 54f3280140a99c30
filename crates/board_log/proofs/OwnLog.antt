-- The records of the model's own log, and a log that has them all. Assumes nothing.
use Prim.Native.Nat.{ℕ, zero, suc, ◌+◌, ◌*◌, ◌/◌, ◌≤◌, ◌<◌}
use mathlib.Core.Path.{◌≡◌, refl, sym, ap, ◌∙◌, subst}
use mathlib.Core.List.{List, ◌++◌}
use mathlib.Core.Logic.{⊎_elim}
use native.Mathlib.Nat.{not-suc-le-zero}
use native.Mathlib.Omega.{arith}
use lib.ListN.{length, take, drop, length-append, length-drop}
use lib.Seq.{take_all, take-add, take-append-le, drop-append-le, drop_at}
use Rattle.std.proofs.lemmas.Bool.{cases_lt}
use Rattle.board_log.specs.Records.{nth_record}
use Rattle.board_log.specs.OwnLog.{ReplayPoint, record_step, point_at, at_power_on, own_record, own_records, log_of}
use Rattle.board_log.proofs.LogRecord.{layout}

own_length : (s : ReplayPoint) (script : List ℕ) (k : ℕ) → length (own_record s script k) ≡ 16
unfolding own_record
own_length s script k = (layout (record_step (point_at s script k) (nth_record script k)).line).size

pub own_lengths : (s : ReplayPoint) (script : List ℕ) (k : ℕ) → length (own_records s script k) ≡ k * 16
own_lengths s script zero = refl
own_lengths s script (suc k) =
    length-append (own_records s script k) (own_record s script k)
    ∙ omega (arith, own_lengths s script k, own_length s script k)

-- a record in front of what is put behind
nth_front : (a b : List ℕ) (i : ℕ) → suc i * 16 ≤ length a → nth_record (a ++ b) i ≡ nth_record a i
nth_front a b i inside =
    ap (λ (l : List ℕ). take 16 l) (drop-append-le (i * 16) a b (omega arith))
    ∙ take-append-le 16 (drop (i * 16) a) b (omega (arith, length-drop (i * 16) a))

-- the record that is put behind
nth_last : (a b : List ℕ) (k : ℕ) → length a ≡ k * 16 → length b ≡ 16 → nth_record (a ++ b) k ≡ b
nth_last a b k front last = ap (λ (l : List ℕ). take 16 l) (drop_at a b (k * 16) front) ∙ take_all 16 b (omega arith)

pub nth_own : (s : ReplayPoint) (script : List ℕ) (n i : ℕ) → i < n → nth_record (own_records s script n) i ≡ own_record s script i
nth_own s script zero i h = absurd (not-suc-le-zero h)
nth_own s script (suc n) i h =
    let front = own_lengths s script n in
    ⊎_elim
    (λ (below : i < n). nth_front (own_records s script n) (own_record s script n) i (omega (arith, front, below)) ∙ nth_own s script n i below)
    (λ (above : n ≤ i).
    let same : n ≡ i = omega arith in
    subst (λ (m : ℕ). nth_record (own_records s script (suc n)) m ≡ own_record s script m) same
    (nth_last (own_records s script n) (own_record s script n) n front (own_length s script n)))
    (cases_lt i n)

pub log_length : (script : List ℕ) → length (log_of script) ≡ length script / 16 * 16
unfolding log_of
log_length script = own_lengths at_power_on script (length script / 16)

pub nth_log : (script : List ℕ) (i : ℕ) → i < length script / 16 → nth_record (log_of script) i ≡ own_record at_power_on script i
unfolding log_of
nth_log script i h = nth_own at_power_on script (length script / 16) i h

-- the front of a log whose records are the engine's
own_front :
    (s : ReplayPoint) (script log : List ℕ) (k : ℕ) → ((i : ℕ) → i < k → nth_record log i ≡ own_record s script i) →
    take (k * 16) log ≡ own_records s script k
own_front s script log zero own = refl
own_front s script log (suc k) own =
    let more : suc k * 16 ≡ k * 16 + 16 = omega arith in
    ap (λ (n : ℕ). take n log) more
    ∙ take-add (k * 16) 16 log
    ∙ ap (λ (l : List ℕ). l ++ nth_record log k) (own_front s script log k (λ i h. own i (omega arith)))
    ∙ ap (λ (l : List ℕ). own_records s script k ++ l) (own k (omega arith))

pub own_log :
    (script log : List ℕ) → length log ≡ length script / 16 * 16 →
    ((i : ℕ) → i < length script / 16 → nth_record log i ≡ own_record at_power_on script i) → log ≡ log_of script
unfolding log_of
own_log script log whole own =
    sym (take_all (length script / 16 * 16) log (omega arith)) ∙ own_front at_power_on script log (length script / 16) own
