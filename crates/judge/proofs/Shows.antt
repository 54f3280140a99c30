-- A turn shows what waited and what came, and keeps what was not taken (specs, `Turns`). Assumes nothing.
use Rattle.std.proofs.Common.{◌≡◌, ℕ, List, length, take, drop, refl}
use Rattle.stream.proofs.Waits.{waited_first}
use Rattle.board_log.specs.Judging.{Feeds}
use Rattle.board_log.specs.declared.judging.Judge.{Judge}
use Rattle.board_log.specs.declared.judging.Fed.{Fed}
use Rattle.judge.specs.Turn.{Turns}

pub turned :
    {j : Judge} {wram waited waited_log waits waits_log shown shown_log left left_log : List ℕ} {fed : Fed} {wram_after : List ℕ} →
    take (length waited) waits ≡ waited → take (length waited_log) waits_log ≡ waited_log → shown ≡ waits → shown_log ≡ waits_log →
    Feeds j wram shown shown_log fed wram_after → left ≡ drop fed.taken waits → left_log ≡ drop fed.taken waits_log →
    Turns j wram waited waited_log fed.judge left left_log wram_after
turned {j} {wram} {waited} {waited_log} {waits} {waits_log} {shown} {shown_log} {left} {left_log} {fed} {wram_after}
    kept kept_log whole whole_log feeds rest rest_log =
    let first = waited_first waited waits kept in
    let first_log = waited_first waited_log waits_log kept_log in
    record {
      came = drop (length waited) waits;
      came_log = drop (length waited_log) waits_log;
      fed = fed;
      feeds = rw (first, first_log, ← whole, ← whole_log) feeds;
      judge = refl;
      left = rw (first) rest;
      left_log = rw (first_log) rest_log;
    }
