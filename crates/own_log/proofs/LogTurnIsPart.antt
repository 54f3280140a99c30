-- A turn is a step of `Written` (specs, `LogTurnIsPart`). Assumes nothing.
use Prim.Native.Nat.{ℕ}
use mathlib.Core.Path.{◌≡◌, sym, ap, ◌∙◌}
use mathlib.Core.List.{List, ◌++◌}
use native.Mathlib.Omega.{arith}
use lib.ListN.{take, drop}
use lib.Seq.{drop-append-le}
use Rattle.console.specs.declared.Cgb.{Cgb}
use Rattle.board_log.specs.OwnLog.{point_of}
use Rattle.board_log.specs.LogsInParts.{Written, part}
use Rattle.board_log.proofs.Cut.{taken_both}
use Rattle.own_log.specs.Turn.{LogTurns, LogTurnIsPart}

writes :
    (script : List ℕ) (state : Cgb) (wram written waited out : List ℕ) (r : Cgb) (waits wram_after out_after unread : List ℕ)
    (t : LogTurns state wram waited out r waits wram_after out_after) →
    Written script (point_of state wram) written ((waited ++ t.came) ++ unread) →
    Written script (point_of r wram_after) (written ++ take t.logged.taken out_after) (waits ++ unread)
writes script state wram written waited out r waits wram_after out_after unread t before =
    let a = waited ++ t.came in
    let n = t.logged.taken in
    let rest : drop n (a ++ unread) ≡ waits ++ unread =
    drop-append-le n a unread (omega (arith, t.logs.taken, (taken_both a out).0)) ∙ ap (λ (l : List ℕ). l ++ unread) (sym t.left) in
    rw (t.state_after, ← rest) (part state wram written a unread out t.logged wram_after out_after before t.logs)

pub log_turn_is_part : LogTurnIsPart
log_turn_is_part = record { writes = writes }
