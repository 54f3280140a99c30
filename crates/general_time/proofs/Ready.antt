-- Runs with no HBlank transfer under way, at both speeds, and what the writes to FF53, FF54 and FF55 make of them. Assumes nothing.
use Prim.Native.Nat.{ℕ, ◌+◌, ◌*◌, ◌%◌, ◌<◌}
use mathlib.Core.Path.{◌≡◌, refl, ap, subst, ◌∙◌}
use mathlib.Core.Bool.{Bool, true, false}
use lib.Dec.{T, ltb}
use Rattle.console.specs.Modes.{is_hblank}
use Rattle.console.specs.PowerOn.{power_on_of, dma_at_rest}
use Rattle.console.specs.Reached.{unreached}
use Rattle.console.specs.declared.Cgb.{Cgb}
use Rattle.console.specs.declared.vram_dma.HblankBlock.{HblankBlock}
use Rattle.console.specs.declared.vram_dma.TransferMode.TheVariants as mode
use Rattle.countdown.specs.Countdown.{active_of}
use Rattle.bus.specs.Commit.{setup_stands}
use Rattle.map_write.specs.Write.{map_write_of, stored_of}
use Rattle.map_write.proofs.WriteSteps.{map_write_steps}
use Rattle.hdma.proofs.Steps.{write_steps}
use Rattle.registers.specs.Map.{place_of, locks_at}
use Rattle.speed_switch.specs.Switch.{blackout_of, switched_of}
use Rattle.cut.specs.Cut as switch
use Rattle.cut.specs.Cut.{outcome_of, ungranted, cut_of, discarded_of, graded_of, upward_of, engine_after}
use Rattle.engine.specs.Calls.{write_of, access_refusal, defers, switch_refusal, switch_call_of}
use Rattle.ledger.specs.LedgerInput.{accepts}
use Rattle.ledger.specs.Ledger.{Ledger, empty, followed, with_pointers, high_byte, low_byte, after_length, after_write, after_pairs, after_call}
use Rattle.ledger.specs.Calls.{Call, Outcome, switch_speed, step, ledger_input}
use Rattle.ledger.specs.Demand3.{Event, History, from_power_on, then, RunsTo, at_power_on, called, Standing, running, enters, ledger_of}
use Rattle.ledger.proofs.AcceptedOrDeclined.{reasons_of, accepted, accepted_where}
use Rattle.ledger.proofs.OneRun.{some_call}
use Rattle.ledger.proofs.Theorem.{invariant, speaks}
use Rattle.ledger.proofs.Tied.{returned_step}
use Rattle.console.proofs.Refusals.{NoneHolds}
use Rattle.general_time.specs.Instances.{cgb_mode, stored_input, storing}
use Rattle.general_time.proofs.Going.{unarmed}
use Rattle.general_time.proofs.Started.{write_pairs}

-- ---- a run goes on by any call
abbrev pub event : Cgb → Call → Event
event s c = record { call = c; reply = (step s c).reply }

pub on : {h : History} {s : Cgb} → RunsTo h s → (c : Call) → RunsTo (then h (event s c)) (step s c).state
on {h} {s} r c =
    let x = some_call s c in
    subst (λ (o : Outcome). RunsTo (then h (record { call = c; reply = o.reply })) o.state) (returned_step x.returned)
    (called c x.outcome r x.returned)

-- a run whose engine serves nothing of an HBlank transfer
pub record Ready (h : History) (s : Cgb) (l : Ledger) (double : Bool) : Type 0 where
  pub runs : RunsTo h s
  pub stands : ledger_of h ≡ running cgb_mode l
  pub unowed : l.free ≡ false
  pub speed : s.double_speed ≡ double
  pub unarmed : is_hblank s.vram_dma.cursor.mode ≡ false
  pub clear : setup_stands s.vram_dma ≡ false

-- ---- both speeds
pub at_single : Ready (from_power_on cgb_mode) (power_on_of false) empty false
unfolding power_on_of dma_at_rest empty ledger_of
at_single =
    record {
      runs = at_power_on cgb_mode (power_on_of false) (record { exit = (false, tt); told = refl });
      stands = refl;
      unowed = refl;
      speed = refl;
      unarmed = refl;
      clear = refl;
    }

-- FF4D=01 and a switch
abbrev arming : Call
arming = storing 0xFF4D 1 tt

abbrev upward : Call
upward = switch_speed (record { hold = false; dot_phase = 4; interrupt_ready = false; master_edge = 0 })

-- what these two compute with: to open one of these is to open all that it names
opens_runs : Unit {0}
unfolding power_on_of dma_at_rest empty ledger_of step ledger_input after_call after_pairs followed unreached
opens_runs = tt

opens_write : Unit {0}
unfolding write_of access_refusal place_of map_write_of stored_of locks_at
opens_write = tt

opens_switch : Unit {0}
unfolding switch_call_of switch_refusal switched_of defers switch.ready_block outcome_of ungranted cut_of discarded_of graded_of
    upward_of engine_after blackout_of
opens_switch = tt

pub armed : Cgb
armed = (step (power_on_of false) arming).state

pub doubled : Cgb
doubled = (step armed upward).state

pub at_double : Ready (then (then (from_power_on cgb_mode) (event (power_on_of false) arming)) (event armed upward)) doubled empty true
unfolding armed doubled opens_runs opens_write opens_switch
at_double =
    record {
      runs = on (on at_single.runs arming) upward;
      stands = refl;
      unowed = refl;
      speed = refl;
      unarmed = refl;
      clear = refl;
    }

-- ---- the registers
module _ {h : History} {s : Cgb} {l : Ledger} {double : Bool} (r : Ready h s l double) where
  -- this run with a call more
  abbrev With : Call → Ledger → Type 0
  With c m = Ready (then h (event s c)) (step s c).state m double

  passes : unreached s ≡ false
  passes = (invariant r.runs).reached

  -- the engine is not locked
  open_map : s.dmg_compat ≡ false
  open_map = (speaks r.runs cgb_mode l r.stands).locked

  module _ (a v : ℕ) (byte : T (ltb v 256)) (none : NoneHolds (reasons_of s (storing a v byte))) where
    abbrev call : Call
    call = storing a v byte

    pub ok : accepts (step s call).reply ≡ true
    ok = accepted_where s call (passes, none)

    -- the state and the ledger after the write
    written : (step s call).state ≡ (map_write_of s (stored_input v) a).state
    written = ap (λ (o : Outcome). o.state) (accepted s call ok).1

    entered : ledger_of (then h (event s call)) ≡ running cgb_mode (after_write (followed a) v l)
    unfolding ledger_of after_call after_pairs ledger_input
    entered =
        ap (λ (x : Standing). enters x (event s call)) r.stands
        ∙ ap (running cgb_mode) (rw (ok, write_pairs s a (stored_input v) 32768 byte))

    -- a write that leaves the speed, the set-up cells and no HBlank transfer
    ready :
        (t : Cgb) → (map_write_of s (stored_input v) a).state ≡ t → (after_write (followed a) v l).free ≡ false →
        t.double_speed ≡ s.double_speed → is_hblank t.vram_dma.cursor.mode ≡ false → setup_stands t.vram_dma ≡ false →
        With call (after_write (followed a) v l)
    ready t is unowed speed unarmed clear =
        let e = written ∙ is in
        record {
          runs = on r.runs call;
          stands = entered;
          unowed = unowed;
          speed = ap (λ (x : Cgb). x.double_speed) e ∙ speed ∙ r.speed;
          unarmed = ap (λ (x : Cgb). is_hblank x.vram_dma.cursor.mode) e ∙ unarmed;
          clear = ap (λ (x : Cgb). setup_stands x.vram_dma) e ∙ clear;
        }

  module _ (v : ℕ) (byte : T (ltb v 256)) where
    mapped_53 : NoneHolds (reasons_of s (storing 0xFF53 v byte))
    unfolding place_of
    mapped_53 = (refl, (refl, (refl, tt)))

    mapped_54 : NoneHolds (reasons_of s (storing 0xFF54 v byte))
    unfolding place_of
    mapped_54 = (refl, (refl, (refl, tt)))

    pub mapped_55 : NoneHolds (reasons_of s (storing 0xFF55 v byte))
    unfolding place_of
    mapped_55 = (refl, (refl, (refl, tt)))

    pub high : With (storing 0xFF53 v byte) (with_pointers l.source (high_byte v l.dest) l)
    unfolding followed
    high = ready 0xFF53 v byte mapped_53 _ (map_write_steps.pointers s (stored_input v) open_map).ff53 r.unowed refl r.unarmed r.clear

    pub low : With (storing 0xFF54 v byte) (with_pointers l.source (low_byte v l.dest) l)
    unfolding followed
    low = ready 0xFF54 v byte mapped_54 _ (map_write_steps.pointers s (stored_input v) open_map).ff54 r.unowed refl r.unarmed r.clear

    -- a General transfer starts
    module _ (small : v < 128) where
      pub length : With (storing 0xFF55 v byte) (after_length (16 * (v % 128 + 1)) l)
      unfolding followed
      length =
          let starts = write_steps.length v true s.vram_dma in
          ready 0xFF55 v byte mapped_55 _ (map_write_steps.registers s (stored_input v) open_map).ff55 r.unowed refl
          (ap is_hblank (starts.starts small r.unarmed))
          (ap (λ (b : HblankBlock). active_of b.setup_cells) (starts.survives small) ∙ r.clear)

      pub general : (step s (storing 0xFF55 v byte)).state.vram_dma.cursor.mode ≡ mode.General
      general =
          let is = written 0xFF55 v byte mapped_55 ∙ (map_write_steps.registers s (stored_input v) open_map).ff55 in
          ap (λ (x : Cgb). x.vram_dma.cursor.mode) is
          ∙ (write_steps.length v true s.vram_dma).starts small r.unarmed
