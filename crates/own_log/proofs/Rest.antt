-- Of what waits all whole records are taken, and the rest waits. Assumes nothing.
use Rattle.std.proofs.Common.{◌≡◌, ℕ, ◌≤◌, ◌<◌, List, length, take, drop, refl, arith, length-drop}
use Rattle.stream.proofs.Waits.{waited_first}
use Rattle.console.specs.declared.Cgb.{Cgb}
use Rattle.board_log.specs.OwnLog.{Logs}
use Rattle.board_log.specs.Records.{whole_in_both}
use Rattle.board_log.specs.declared.own.Logged.{Logged}
use Rattle.own_log.specs.Turn.{LogTurns}

pub taken_inside :
    {state : Cgb} {wram shown out : List ℕ} {r : Logged} {wram_after out_after : List ℕ} →
    Logs state wram shown out r wram_after out_after → r.taken ≤ length out
unfolding whole_in_both
taken_inside {state} {wram} {shown} {out} {r} logs = omega (arith, logs.taken)

pub less_than_a_record :
    {state : Cgb} {wram shown waits left out : List ℕ} {r : Logged} {wram_after out_after : List ℕ} →
    shown ≡ waits → Logs state wram shown out r wram_after out_after → left ≡ drop r.taken waits → length shown ≤ length out → length left < 16
unfolding whole_in_both
less_than_a_record {state} {wram} {shown} {waits} {left} {out} {r} whole logs rest room =
    rw (rest, ← whole) (omega (arith, logs.taken, length-drop r.taken shown))

pub turned :
    {state : Cgb} {wram waited waits shown left out : List ℕ} {logged : Logged} {wram_after out_after : List ℕ} →
    take (length waited) waits ≡ waited → shown ≡ waits → Logs state wram shown out logged wram_after out_after → left ≡ drop logged.taken waits →
    LogTurns state wram waited out logged.state left wram_after out_after
turned {state} {wram} {waited} {waits} {shown} {left} {out} {logged} {wram_after} {out_after} kept whole logs rest_is =
    let first = waited_first waited waits kept in
    record {
      came = drop (length waited) waits;
      logged = logged;
      logs = rw (first, ← whole) logs;
      state_after = refl;
      left = rw (first) rest_is;
    }
