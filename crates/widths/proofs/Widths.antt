-- Every call keeps the widths that neither refusal 7 nor the ledger knows; with those that they know, a state fits its types after
-- every list of calls (specs, `Widths`). Assumes nothing.
use Prim.Native.Nat.{ℕ, ◌<◌, ◌^◌, ◌/◌, ◌%◌, ◌*◌, ◌-◌}
use native.Mathlib.Omega.{arith}
use mathlib.Core.Path.{◌≡◌, sym, subst}
use mathlib.Core.Bool.{Bool, true, false, cond, not}
use mathlib.Core.List.{List}
use lib.Dec.{eqb, lit<}
use Rattle.std.proofs.Common.{Option, Some, None}
use Rattle.codec.specs.Fits.{Bytes, Fits}
use Rattle.codec.specs.Rest.{latency_value}
use Rattle.codec.proofs.RoundTrip.{round_trip}
use Rattle.console.specs.PowerOn.{power_on_of, dma_at_rest}
use Rattle.console.specs.Set.{with_vram_dma}
use Rattle.console.specs.declared.Cgb.{Cgb}
use Rattle.console.specs.declared.vram_dma.VramDma.{VramDma}
use Rattle.console.proofs.Reached as seven
use Rattle.registers.specs.Map.{KEY0, KEY1, VBK, HDMA1, HDMA2, HDMA3, HDMA4, HDMA5, SVBK, FF72, FF73, FF74, FF75}
use Rattle.registers.specs.Map.{Place, work_ram, banked_ram, extra_oam, register, dma_start, unmapped, place_of, writable}
use Rattle.map_write.specs.Write.{MapWritten, state_at, locked, stored_of, map_write_of}
use Rattle.map_write.specs.declared.WriteInput.{WriteInput}
use Rattle.blackout.specs.Blackout.{latency_after_drain, latency_after_wake, drained_of, woken_of}
use Rattle.speed_switch.specs.Switch.{blackout_of, switched_of}
use Rattle.object_dma_calls.proofs.CycleSteps.{cycle_keeps}
use Rattle.engine.specs.Calls.{fallen_state, inside_bus, after_cycle}
use Rattle.ledger.specs.Calls
use Rattle.ledger.specs.Calls.{Call, Outcome, step}
use Rattle.ledger.specs.Demand3.{History, RunsTo, at_power_on, called}
use Rattle.ledger.proofs.AcceptedOrDeclined.{given_by, either_way}
use Rattle.ledger.proofs.Theorem.{invariant, demand3}
use Rattle.ledger.proofs.Tied.{returned_step}
use Rattle.widths.specs.Inputs.{FitsCall, FitsHistory}
use Rattle.widths.specs.Widths.{Widths}
use Rattle.widths.proofs.Numbers.{less, set_bytes, zero_bytes}
use Rattle.widths.proofs.Engine.{EngineFits, fall_fits, next_fits, drain_fits, bus_fits, lcd_fits, hdma5_fits, switch_fits}

-- the numbers of the state outside the engine, besides the two that 7 tests
record RestNumbers (b l f72 f73 f74 f75 a e : ℕ) (x : List ℕ) : Type 0 where
  blackout : b < 2 ^ 32
  wake : l < 256
  ff72 : f72 < 256
  ff73 : f73 < 256
  ff74 : f74 < 256
  ff75 : f75 < 256
  anchor : a < 2 ^ 64
  start : e < 2 ^ 64
  extra : Bytes 24 x

abbrev RestFits : Cgb → Type 0
RestFits s =
    RestNumbers s.speed_switch_blackout (latency_value s.speed_switch_wake_latency) s.ff72 s.ff73 s.ff74 s.ff75
    s.console_state.blackout_anchor s.object_dma.start_edge s.extra_oam

record Small (s : Cgb) : Type 0 where
  engine : EngineFits s.vram_dma
  rest : RestFits s

-- another engine in its place
with_engine : (s : Cgb) (d : VramDma) → Small s → EngineFits d → Small (with_vram_dma d s)
with_engine s d f e = record { engine = e; rest = f.rest }

-- ---- writes
module _ (s : Cgb) (w : WriteInput) (byte : w.value < 256) (edge : w.oam_start_edge < 2 ^ 64) (f : Small s) where
  scratch :
      (f72 f73 f74 f75 : ℕ) → f72 < 256 → f73 < 256 → f74 < 256 → f75 < 256 →
      RestNumbers s.speed_switch_blackout (latency_value s.speed_switch_wake_latency) f72 f73 f74 f75
      s.console_state.blackout_anchor s.object_dma.start_edge s.extra_oam
  scratch f72 f73 f74 f75 p q r t =
      let old = f.rest in
      record {
        blackout = old.blackout;
        wake = old.wake;
        ff72 = p;
        ff73 = q;
        ff74 = r;
        ff75 = t;
        anchor = old.anchor;
        start = old.start;
        extra = old.extra;
      }

  extra_set : (i : ℕ) → Small (state_at s w (extra_oam i))
  extra_set i =
      let old = f.rest in
      record {
        engine = f.engine;
        rest = record {
          blackout = old.blackout;
          wake = old.wake;
          ff72 = old.ff72;
          ff73 = old.ff73;
          ff74 = old.ff74;
          ff75 = old.ff75;
          anchor = old.anchor;
          start = old.start;
          extra = set_bytes 24 s.extra_oam i w.value old.extra byte;
        };
      }

  object_started : Small (state_at s w dma_start)
  object_started =
      let old = f.rest in
      record {
        engine = f.engine;
        rest = record {
          blackout = old.blackout;
          wake = old.wake;
          ff72 = old.ff72;
          ff73 = old.ff73;
          ff74 = old.ff74;
          ff75 = old.ff75;
          anchor = old.anchor;
          start = edge;
          extra = old.extra;
        };
      }

  stored : (p : Place) → Small (state_at s w p)
  stored (work_ram i) = f
  stored (banked_ram i) = f
  stored (extra_oam i) = extra_set i
  stored dma_start = object_started
  stored unmapped = f
  stored (register KEY0) = f
  stored (register KEY1) = record { engine = f.engine; rest = f.rest }
  stored (register VBK) = record { engine = f.engine; rest = f.rest }
  stored (register HDMA1) = record { engine = record { block = f.engine.block; arb = f.engine.arb }; rest = f.rest }
  stored (register HDMA2) = record { engine = record { block = f.engine.block; arb = f.engine.arb }; rest = f.rest }
  stored (register HDMA3) = record { engine = record { block = f.engine.block; arb = f.engine.arb }; rest = f.rest }
  stored (register HDMA4) = record { engine = record { block = f.engine.block; arb = f.engine.arb }; rest = f.rest }
  stored (register HDMA5) = with_engine s _ f (hdma5_fits w.value w.lcd_on s.vram_dma f.engine)
  stored (register SVBK) = record { engine = f.engine; rest = f.rest }
  stored (register FF72) =
      let r = f.rest in record { engine = f.engine; rest = scratch _ _ _ _ byte r.ff73 r.ff74 r.ff75 }
  stored (register FF73) =
      let r = f.rest in record { engine = f.engine; rest = scratch _ _ _ _ r.ff72 byte r.ff74 r.ff75 }
  stored (register FF74) =
      let r = f.rest in record { engine = f.engine; rest = scratch _ _ _ _ r.ff72 r.ff73 byte r.ff75 }
  stored (register FF75) =
      let r = f.rest in record { engine = f.engine; rest = scratch _ _ _ _ r.ff72 r.ff73 r.ff74 (bits_4_6 w.value) }
    where
      bits_4_6 : (v : ℕ) → v / 16 % 8 * 16 < 256
      bits_4_6 v = omega arith

  written : (a : ℕ) → Small (map_write_of s w a).state
  unfolding map_write_of stored_of
  written a = by (locked s a)
    where
      by : (b : Bool) → Small (cond {A = MapWritten} b (record { mapped = writable (place_of a); state = s }) (stored_of s w a)).state
      by true = f
      by false = stored (place_of a)

-- ---- the blackout and the wake
blackout_bound : (up debit ready : Bool) → blackout_of up debit ready < 2 ^ 32
unfolding blackout_of
blackout_bound true true true = lit< tt
blackout_bound true true false = lit< tt
blackout_bound true false true = lit< tt
blackout_bound true false false = lit< tt
blackout_bound false true true = lit< tt
blackout_bound false true false = lit< tt
blackout_bound false false true = lit< tt
blackout_bound false false false = lit< tt

forgotten : (b : Bool) (l : Option ℕ) → latency_value l < 256 → latency_value (latency_after_drain b l) < 256
forgotten true l h = lit< tt
forgotten false l h = h

nearer : (b : Bool) (l : Option ℕ) → latency_value l < 256 → latency_after_wake b l < 256
nearer b None h = lit< tt
nearer true (Some n) h = less n 256 1 h
nearer false (Some n) h = h

-- ---- every call
module _ (s : Cgb) (f : Small s) where
  -- other blackout, wake and anchor
  timed :
      (b l a : ℕ) → b < 2 ^ 32 → l < 256 → a < 2 ^ 64 →
      RestNumbers b l s.ff72 s.ff73 s.ff74 s.ff75 a s.object_dma.start_edge s.extra_oam
  timed b l a p q r =
      let old = f.rest in
      record {
        blackout = p;
        wake = q;
        ff72 = old.ff72;
        ff73 = old.ff73;
        ff74 = old.ff74;
        ff75 = old.ff75;
        anchor = r;
        start = old.start;
        extra = old.extra;
      }

  given_small : (c : Call) → FitsCall c → Small (given_by s c).state
  unfolding fallen_state switched_of drained_of woken_of
  given_small (Calls.write a w n byte) i = written s w (lit< byte) i.1 f a
  given_small (Calls.read a n) i = f
  given_small (Calls.fall x) i =
      record { engine = fall_fits x s.double_speed s.vram_dma i.master_edge f.engine; rest = f.rest }
  given_small Calls.next_pair i = with_engine s _ f (next_fits s.vram_dma f.engine)
  given_small Calls.escape_drain i = with_engine s _ f (drain_fits s.vram_dma f.engine)
  given_small (Calls.bus_call x n) i = with_engine s _ f (bus_fits x s.vram_dma f.engine)
  given_small (Calls.switch_speed x) i =
      let up = not s.double_speed in
      record {
        engine = switch_fits up s.vram_dma f.engine;
        rest =
            timed _ _ _ (blackout_bound up s.switch_relock_debit x.interrupt_ready) f.rest.wake i.master_edge;
      }
  given_small Calls.lcd_off i = record { engine = lcd_fits s.vram_dma f.engine; rest = f.rest }
  given_small Calls.retired i = record { engine = record { block = f.engine.block; arb = f.engine.arb }; rest = f.rest }
  given_small (Calls.blackout elapsed) i =
      let left = s.speed_switch_blackout - elapsed in
      record {
        engine = f.engine;
        rest =
            timed left _ _ (less _ (2 ^ 32) elapsed f.rest.blackout)
            (forgotten (eqb left 0) s.speed_switch_wake_latency f.rest.wake) f.rest.anchor;
      }
  given_small (Calls.wake boundary) i =
      record {
        engine = f.engine;
        rest =
            timed _ _ _ f.rest.blackout (nearer boundary s.speed_switch_wake_latency f.rest.wake) f.rest.anchor;
      }
  given_small (Calls.arbitrate x) i = record { engine = record { block = f.engine.block; arb = f.engine.arb }; rest = f.rest }
  given_small (Calls.conflict a) i = f
  given_small (Calls.query q) i = f
  given_small (Calls.arbitrate_inside x) i = record { engine = record { block = f.engine.block; arb = f.engine.arb }; rest = f.rest }
  given_small (Calls.bus_call_inside x n) i = with_engine s _ f (bus_fits (inside_bus s x) s.vram_dma f.engine)
  given_small (Calls.object_dma_cycle a n) i = cycled
    where
      edge_stays : (after_cycle a s.object_dma).start_edge ≡ s.object_dma.start_edge
      edge_stays = (cycle_keeps a s.object_dma).1

      cycled : Small (given_by s (Calls.object_dma_cycle a n)).state
      cycled =
          let old = f.rest in
          record {
            engine = f.engine;
            rest = record {
              blackout = old.blackout;
              wake = old.wake;
              ff72 = old.ff72;
              ff73 = old.ff73;
              ff74 = old.ff74;
              ff75 = old.ff75;
              anchor = old.anchor;
              start = rw edge_stays old.start;
              extra = old.extra;
            };
          }

step_small : (s : Cgb) → Small s → (c : Call) → FitsCall c → Small (step s c).state
step_small s f c i = either_way s (λ (o : Outcome). Small o.state) c (λ none. given_small s f c i) (λ refused. f)

power_on_small : (compat : Bool) → Small (power_on_of compat)
unfolding power_on_of dma_at_rest
power_on_small compat =
    record {
      engine = record {
        block = record { remaining = lit< tt; edge = lit< tt; cells = lit< tt; ready = lit< tt; seized = lit< tt };
        arb = record { falls = lit< tt; age = lit< tt; tenure = lit< tt; blind = lit< tt; pend_blind = lit< tt; granted = lit< tt };
      };
      rest = record {
        blackout = lit< tt;
        wake = lit< tt;
        ff72 = lit< tt;
        ff73 = lit< tt;
        ff74 = lit< tt;
        ff75 = lit< tt;
        anchor = lit< tt;
        start = lit< tt;
        extra = zero_bytes 24;
      };
    }

run_small : {h : History} {s : Cgb} → RunsTo h s → FitsHistory h → Small s
unfolding FitsHistory
run_small (at_power_on k s g) i = subst Small (sym g.told) (power_on_small k.compat)
run_small (called {h = h} {s = s} c o r returned) i =
    subst (λ (x : Outcome). Small x.state) (sym (returned_step returned)) (step_small s (run_small r i.0) c i.1)

-- with what 7 and the ledger know
run_fits : (h : History) (s : Cgb) → RunsTo h s → FitsHistory h → Fits s
run_fits h s r i =
    let f = run_small r i in
    let block = f.engine.block in
    let arb = f.engine.arb in
    let rest = f.rest in
    let within = seven.reached s (invariant r).reached in
    let pointers = demand3.pointer_widths h s r in
    record {
      cursor = record {
        source = omega (arith, pointers.0);
        dest = omega (arith, pointers.1);
        remaining = omega (arith, within.engine.left);
        quota = omega (arith, within.engine.quota);
      };
      block = record {
        remaining = block.remaining;
        start_edge = block.edge;
        setup_cells = block.cells;
        ready_in = block.ready;
        seize_falls = block.seized;
      };
      arb = record {
        halted_falls = arb.falls;
        pend_age = arb.age;
        wake_tenure = arb.tenure;
        halt_wake_blind = arb.blind;
        wake_pend_blind = arb.pend_blind;
        granted_ahead = arb.granted;
      };
      svbk = omega (arith, within.banks.svbk);
      speed_switch_blackout = rest.blackout;
      speed_switch_wake_latency = rest.wake;
      ff72 = rest.ff72;
      ff73 = rest.ff73;
      ff74 = rest.ff74;
      ff75 = rest.ff75;
      extra_oam = rest.extra;
      selected = omega (arith, within.banks.bank);
      blackout_anchor = rest.anchor;
      object = record {
        page = omega (arith, within.object.page);
        counted = omega (arith, within.object.counted);
        start_edge = rest.start;
      };
    }

pub widths : Widths
widths = record { fits = run_fits; comes_back = λ h s r i. round_trip.back s (run_fits h s r i) }
