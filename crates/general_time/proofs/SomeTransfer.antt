-- There are General transfers, for every value, destination register and speed, and rounds behind each (specs, `SomeTransfer`). A
-- register that ends in other than 0 is reached by pairs: 16 are asked for, and as many are taken as it wants. Assumes nothing.
use Prim.Native.Nat.{ℕ, zero, suc, ◌+◌, ◌-◌, ◌*◌, ◌/◌, ◌%◌, ◌≤◌, ◌<◌}
use native.Mathlib.Omega.{arith}
use mathlib.Core.Path.{◌≡◌, refl, sym, subst}
use mathlib.Core.Bool.{Bool, true, false}
use mathlib.Core.List.{[], ◌++◌}
use lib.Dec.{T, ltb, lit<, lit≤}
use borrow.Author.Tests.{lt-ltb}
use Rattle.console.specs.Reached.{unreached}
use Rattle.console.specs.declared.Cgb.{Cgb}
use Rattle.bus.specs.Commit.{setup_stands}
use Rattle.bus.specs.declared.commit.BusInput.{BusInput}
use Rattle.engine.specs.Calls.{Lengths, wrong_lengths}
use Rattle.ledger.specs.LedgerInput.{accepts}
use Rattle.ledger.specs.Ledger.{Ledger, high_byte, low_byte, after_length}
use Rattle.ledger.specs.Calls.{fall, bus_call, BusCall, from_outside, step}
use Rattle.ledger.specs.Demand3.{Event, History, then, RunsTo}
use Rattle.ledger.proofs.AcceptedOrDeclined.{accepted_where}
use Rattle.ledger.proofs.Theorem.{invariant, demand3}
use Rattle.general_time.specs.Instances.{cgb_mode, stored_input, storing}
use Rattle.general_time.specs.Rounds.{Starts, none, round, InWords, FirstClear}
use Rattle.general_time.specs.GeneralTime.{transfer_cycles, SomeRounds, SomeTransfer}
use Rattle.general_time.proofs.Going.{Going, in_general, unarmed, fell_going, fell_cell, fall_accepted, moved_going, moved_cell}
use Rattle.general_time.proofs.Theorem.{in_words}
use Rattle.general_time.proofs.Ready.{event, on, Ready, at_single, at_double, high, low, length, general, mapped_55, ok}
use Rattle.general_time.proofs.PairByPair.{in_mode_3, UnderWay, pairs_taken}

-- ---- any destination register
byte_of : (v : ℕ) → v < 256 → T (ltb v 256)
byte_of v h = subst T (sym (lt-ltb v 256 h)) tt

-- FF53, FF54 and FF55=00, from a run at either speed
aimed_at : (d old : ℕ) → low_byte (d % 256) (high_byte (d / 256) old) ≡ d - d % 16
aimed_at d old = omega arith

aimed : {h : History} {s : Cgb} {l : Ledger} (double : Bool) → Ready h s l double → (d : ℕ) → d < 65536 → UnderWay double (d - d % 16) 16
aimed {l = l} double r d wide =
    let first = high r (d / 256) (byte_of (d / 256) (omega (arith, wide))) in
    let second = low first (d % 256) (byte_of (d % 256) (omega arith)) in
    let third = length second 0 tt (lit< tt) in
    record {
      history = _;
      state = _;
      ledger = _;
      ready = third;
      general = general second 0 tt (lit< tt);
      dest_is = aimed_at d l.dest;
      left_is = refl;
    }

run_to : (double : Bool) (d : ℕ) → d < 65536 → UnderWay double (d - d % 16) 16 → UnderWay double d (16 - d % 16)
run_to double d wide u =
    subst (λ (x : ℕ). UnderWay double x (16 - d % 16)) (omega arith) (pairs_taken double (d - d % 16) 16 u (d % 16) (omega arith) (omega (arith, wide)))

under_way : (double : Bool) (d : ℕ) → d < 65536 → UnderWay double d (16 - d % 16)
under_way false d wide = run_to false d wide (aimed false at_single d wide)
under_way true d wide = run_to true d wide (aimed true at_double d wide)

-- ---- the transfer, and rounds behind it
abbrev pub held : BusInput
held = record { hold = true; suspended = false; oam_start_edge = 0 }

abbrev pub whole : Lengths
whole = record { cartridge = 40960; wram = 32768; vram = 16384; oam = 160 }

-- rounds of a fall in mode 3 and a held bus call, behind a history that leaves a General transfer, or its end, and no set-up cell
record Built (h : History) (k : ℕ) : Type 0 where
  rounds : SomeRounds FirstClear h k
  going : Going rounds.last.vram_dma
  clear : setup_stands rounds.last.vram_dma ≡ false

whole_accepted : (s : Cgb) → unreached s ≡ false → accepts (step s (bus_call held whole)).reply ≡ true
unfolding wrong_lengths
whole_accepted s passes = accepted_where s (bus_call held whole) (passes, (refl, tt))

build : {h : History} {s : Cgb} → RunsTo h s → Going s.vram_dma → setup_stands s.vram_dma ≡ false → (k : ℕ) → Built h k
build {h} {s} r going clear zero =
    record {
      rounds = record { pairs = []; history = h; rounds = none; one_fall_each = omega arith; last = s; runs = r };
      going = going;
      clear = clear;
    }
build {h} r going clear (suc k) =
    let x : Built h k = build r going clear k in
    let t = x.rounds.last in
    let passes = (invariant x.rounds.runs).reached in
    let free = unarmed t passes x.going in
    let s = (step t (fall in_mode_3)).state in
    let run = on x.rounds.runs (fall in_mode_3) in
    let none-stands = fell_cell t in_mode_3 free x.clear in
    let bus : BusCall s (bus_call held whole) held = from_outside held whole in
    let more = fell_going t in_mode_3 x.going in
    record {
      rounds =
          record {
            pairs = x.rounds.pairs ++ (step s (bus_call held whole)).reply.pairs;
            history = then (then x.rounds.history (event t (fall in_mode_3))) (event s (bus_call held whole));
            rounds =
                round x.rounds.rounds in_mode_3 (event t (fall in_mode_3)) refl (fall_accepted t in_mode_3 passes free (lit≤ tt)) s run
                (λ first. none-stands) held (event s (bus_call held whole)) bus (whole_accepted s (invariant run).reached) refl;
            one_fall_each = (let fewer = x.rounds.one_fall_each in omega (arith, fewer));
            last = (step s (bus_call held whole)).state;
            runs = on run (bus_call held whole);
          };
      going = moved_going s bus more;
      clear = moved_cell s bus none-stands;
    }

some_length : (v : ℕ) → 0 < 16 * (v % 128 + 1)
some_length v = omega arith

-- FF55=v behind a run
module _ {h : History} {s : Cgb} {l : Ledger} {double : Bool} (r : Ready h s l double) (v : ℕ) (small : v < 128) where
  pub byte : T (ltb v 256)
  byte = byte_of v (omega (arith, small))

  abbrev pub start : Event
  start = event s (storing 0xFF55 v byte)

  abbrev begun : Cgb
  begun = (step s (storing 0xFF55 v byte)).state

  begins : Ready (then h start) begun (after_length (16 * (v % 128 + 1)) l) double
  begins = length r v byte small

  going : Going begun.vram_dma
  going more = general r v byte small

  pub starts : Starts h l double v start
  starts =
      let same = demand3.same_left (then h start) begun begins.runs cgb_mode _ begins.stands in
      let some = some_length v in
      record {
        configuration = cgb_mode;
        ledger = r.stands;
        unowed = r.unowed;
        before = s;
        runs = r.runs;
        speed = r.speed;
        input = stored_input v;
        wram = 32768;
        byte = byte;
        call = refl;
        value = refl;
        accepted = ok r 0xFF55 v byte (mapped_55 r v byte);
        after = begun;
        started = begins.runs;
        general = in_general begun (invariant begins.runs).reached going (omega (arith, same, some));
      }

  pub rounds : (k : ℕ) → SomeRounds FirstClear (then h start) k
  rounds k = (build begins.runs going begins.clear k).rounds

  pub rounds_in_words : (k : ℕ) → k ≤ transfer_cycles l double v → SomeRounds InWords (then h start) k
  rounds_in_words k most =
      let x = rounds k in
      record {
        pairs = x.pairs;
        history = x.history;
        rounds = in_words starts x.rounds most;
        one_fall_each = x.one_fall_each;
        last = x.last;
        runs = x.runs;
      }

pub some_transfer : (v d : ℕ) (double : Bool) → v < 128 → d < 65536 → SomeTransfer v d double
some_transfer v d double small wide =
    let under = under_way double d wide in
    record {
      history = under.history;
      ledger = under.ledger;
      register = under.dest_is;
      write = start under.ready v small;
      starts = starts under.ready v small;
      rounds = rounds under.ready v small;
      in_words = rounds_in_words under.ready v small;
    }
