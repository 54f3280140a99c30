-- A turn is a step of `Shown` (specs, `TurnIsPart`). Assumes nothing.
use Prim.Native.Nat.{ℕ, ◌≤◌}
use mathlib.Core.Path.{◌≡◌, ◌∙◌}
use mathlib.Core.List.{List, ◌++◌}
use native.Mathlib.Omega.{arith}
use lib.ListN.{length, drop}
use lib.Seq.{drop-append-le}
use Rattle.board_log.specs.Judging.{hearing_of}
use Rattle.board_log.specs.JudgesInParts.{Shown, part}
use Rattle.board_log.specs.declared.judging.Judge.{Judge}
use Rattle.board_log.proofs.Cut.{taken_both}
use Rattle.judge.specs.Turn.{Turns, TurnIsPart}

-- what is left of the bytes shown, and then what is unread
left_then_unread : (shown unread left : List ℕ) (n : ℕ) → n ≤ length shown → left ≡ drop n shown → drop n (shown ++ unread) ≡ left ++ unread
left_then_unread shown unread left n most e = drop-append-le n shown unread most ∙ rw (e)

shown :
    (script log : List ℕ) (j : Judge) (wram waited waited_log : List ℕ) (r : Judge) (waits waits_log wram_after unread unread_log : List ℕ)
    (t : Turns j wram waited waited_log r waits waits_log wram_after) →
    Shown script log (hearing_of j wram) ((waited ++ t.came) ++ unread) ((waited_log ++ t.came_log) ++ unread_log) →
    Shown script log (hearing_of r wram_after) (waits ++ unread) (waits_log ++ unread_log)
shown script log j wram waited waited_log r waits waits_log wram_after unread unread_log t before =
    let a = waited ++ t.came in
    let b = waited_log ++ t.came_log in
    let n = t.fed.taken in
    let taken = taken_both a b in
    let rest = left_then_unread a unread waits n (omega (arith, t.feeds.taken, taken.0)) t.left in
    let rest_log = left_then_unread b unread_log waits_log n (omega (arith, t.feeds.taken, taken.1)) t.left_log in
    let fed : Shown script log (hearing_of t.fed.judge wram_after) (drop n (a ++ unread)) (drop n (b ++ unread_log)) =
    part j wram a unread b unread_log t.fed wram_after before t.feeds in
    rw (t.judge, ← rest, ← rest_log) fed

pub turn_is_part : TurnIsPart
turn_is_part = record { shown = shown }
