-- Every call has a return, with any slices of its lengths, and the definitions leave it no choice: every list of calls has exactly
-- one run (specs, `OneRun`). Assumes nothing.
use Prim.Native.Nat.{ℕ}
use mathlib.Core.Path.{◌≡◌, refl, sym, ap, subst, ◌∙◌}
use mathlib.Core.List.{List, [], ◌∷◌}
use lib.ListN.{length, replicate, length-replicate}
use contract.Lifetimes.{Lfts}
use denote.Ref.{Bor, MutBor}
use Rattle.console.specs.PowerOn.{power_on_of}
use Rattle.console.specs.Reached.{state_refusal}
use Rattle.console.specs.declared.Cgb.{Cgb}
use Rattle.bus.specs.declared.arbitration.Arbitration.{Arbitration}
use Rattle.bus.specs.declared.commit.BusInput.{BusInput}
use Rattle.bus.specs.declared.hold.HoldInput.{HoldInput}
use Rattle.map_write.specs.declared.WriteInput.{WriteInput}
use Rattle.map_read.specs.Read.{map_byte}
use Rattle.registers.specs.Map.{place_of}
use Rattle.blackout.specs.Blackout.{drained_of, woken_of}
use Rattle.speed_switch.specs.Switch.{switched_of}
use Rattle.transfer.specs.Pair.{next_byte_of, drain_of}
use Rattle.engine.specs.Calls.{read_refusal, read_of, read_said, write_refusal, write_of, write_said, write_wram}
use Rattle.engine.specs.Calls.{fallen, fall_refusal, fall_call_of, fall_said}
use Rattle.engine.specs.Calls.{next_pair_of, next_pair_said, Lengths, lengths_of, bus_vram, bus_oam, bus_of, arbitrated, arbitration_call_of, arbitration_said}
use Rattle.engine.specs.Calls.{switch_refusal, switch_call_of, switch_said, blackout_call_of, blackout_said, wake_call_of, wake_said}
use Rattle.engine.specs.Calls.{escape_drain_of, escape_drain_said, lcd_call_of, retired_call_of, done_said, asked, conflict_found}
use Rattle.engine.specs.Calls.{inside_arbitration, inside_bus, cycle_oam, cycle_of}
use Rattle.answers.specs.Answers.{done_values, byte_values, flag_values, claim_values, pair_values, switch_values, arbitration_values, conflict_values}
use Rattle.ledger.proofs.Answered.{some_answer}
use Rattle.ledger.specs.Calls
use Rattle.ledger.specs.Calls.{Call, Outcome, step}
use Rattle.ledger.specs.Code
use Rattle.ledger.specs.Code.{Returned}
use Rattle.ledger.specs.LedgerInput.{Configuration}
use Rattle.ledger.specs.Demand3.{History, from_power_on, then, RunsTo, at_power_on, called}
use Rattle.ledger.specs.OneRun.{configuration_of, calls_of, RunOf, OneRun}
use Rattle.ledger.proofs.Tied.{returned_step}
use Rattle.answers.proofs.Numbers.{told}
use Rattle.answers.proofs.Queries.{asked_told}
use Rattle.bus_calls.proofs.Says.{bus_told, causes_told}
use Rattle.object_dma_calls.proofs.Cycles.{cycle_told}

-- a slice of these bytes
slice : List ℕ → Bor (List ℕ)
slice bytes = record { ref_ptr = (0, 0); now = bytes }

-- and one that a call may write
lent : List ℕ → MutBor (List ℕ)
lent bytes = record { ref_ptr = (0, 0); ghost_name = 0; now = bytes }

κ1 : Lfts 1
κ1 = ([], tt)

κ4 : Lfts 4
κ4 = ([], ([], ([], ([], tt))))

-- what a call may return
pub record Some (s : Cgb) (c : Call) : Type 0 where
  pub outcome : Outcome
  pub returned : Returned s c outcome

some_by : {s : Cgb} {c : Call} {o : Outcome} → Returned s c o → Some s c
some_by {o = o} r = record { outcome = o; returned = r }

-- some list has the length n
sized : (P : ℕ → Type 0) (n : ℕ) → ((bytes : List ℕ) → P (length bytes)) → P n
sized P n f = subst P (length-replicate {A = ℕ} n 0) (f (replicate n 0))

-- some four lists have these lengths
sized_four : (P : Lengths → Type 0) (n : Lengths) → ((c w v o : List ℕ) → P (lengths_of c w v o)) → P n
sized_four P n f =
    sized (λ k. P (record { cartridge = k; wram = n.wram; vram = n.vram; oam = n.oam })) n.cartridge (λ c.
    sized (λ k. P (record { cartridge = length c; wram = k; vram = n.vram; oam = n.oam })) n.wram (λ w.
    sized (λ k. P (record { cartridge = length c; wram = length w; vram = k; oam = n.oam })) n.vram (λ v.
    sized (λ k. P (record { cartridge = length c; wram = length w; vram = length v; oam = k })) n.oam (λ o.
    f c w v o))))

module _ (s : Cgb) where
  write_some : (a : ℕ) (w : WriteInput) (byte : _) (wram : List ℕ) → Some s (Calls.write a w (length wram) byte)
  unfolding lent κ1 write_of write_said
  write_some a w byte wram =
      some_by
      (Code.by_write κ1 (lent wram) a w byte (write_of s w a (length wram))
      (record {
        exit = (s, (lent (write_wram s w a wram), (a, (w, tt))));
        told = record { result = refl; says = told done_values (write_refusal s w.value (length wram) a) tt; memory = refl };
      }))

  read_some : (a : ℕ) (wram : List ℕ) → Some s (Calls.read a (length wram))
  unfolding slice κ1 read_of read_said
  read_some a wram =
      some_by
      (Code.by_read κ1 (slice wram) a (read_of s wram a)
      (record {
        exit = (s, (slice wram, (a, tt)));
        told = record { is = refl; says = told byte_values (read_refusal s (length wram) a) (map_byte s wram (place_of a)) };
      }))

  bus_some : (i : BusInput) (c w v o : List ℕ) → Some s (Calls.bus_call i (lengths_of c w v o))
  unfolding slice lent κ4
  bus_some i c w v o =
      let n = lengths_of c w v o in
      some_by
      (Code.by_bus_call κ4 i (slice c) (slice w) (lent v) (lent o) (bus_of s i c w v o)
      (record {
        exit = (s, (i, (slice c, (slice w, (lent (bus_vram s i n c w v), (lent (bus_oam s i n c w o), tt))))));
        told =
            record {
              result = refl;
              says = bus_told s i c w v o;
              says_causes = causes_told s i c w v o;
              stored = refl;
              deposit = refl;
            };
      }))

  bus_inside_some : (i : HoldInput) (c w v o : List ℕ) → Some s (Calls.bus_call_inside i (lengths_of c w v o))
  unfolding slice lent κ4
  bus_inside_some i c w v o =
      let n = lengths_of c w v o in
      let given = inside_bus s i in
      some_by
      (Code.by_bus_call_inside κ4 i (slice c) (slice w) (lent v) (lent o) (bus_of s given c w v o)
      (record {
        exit = (s, (i, (slice c, (slice w, (lent (bus_vram s given n c w v), (lent (bus_oam s given n c w o), tt))))));
        told =
            record {
              result = refl;
              says = bus_told s given c w v o;
              says_causes = causes_told s given c w v o;
              stored = refl;
              deposit = refl;
            };
      }))

  cycle_some : (a : Arbitration) (c w v o : List ℕ) → Some s (Calls.object_dma_cycle a (lengths_of c w v o))
  unfolding slice lent κ4
  cycle_some a c w v o =
      some_by
      (Code.by_object_dma_cycle κ4 a (slice c) (slice w) (slice v) (lent o) (cycle_of s a c w v o)
      (record {
        exit = (s, (a, (slice c, (slice w, (slice v, (lent (cycle_oam s a (lengths_of c w v o) c w v o), tt))))));
        told = record { result = refl; says = cycle_told s a c w v o; stored = refl };
      }))

  pub some_call : (c : Call) → Some s c
  unfolding fall_call_of fall_said next_pair_of next_pair_said escape_drain_of escape_drain_said switch_call_of switch_said lcd_call_of
      retired_call_of done_said blackout_call_of blackout_said wake_call_of wake_said arbitration_call_of arbitration_said
  some_call (Calls.write a w n byte) = sized (λ k. Some s (Calls.write a w k byte)) n (write_some a w byte)
  some_call (Calls.read a n) = sized (λ k. Some s (Calls.read a k)) n (read_some a)
  some_call (Calls.bus_call i n) = sized_four (λ m. Some s (Calls.bus_call i m)) n (bus_some i)
  some_call (Calls.fall i) =
      some_by (Code.by_fall i (fall_call_of s i)
      (record { exit = (s, (i, tt)); told = record { is = refl; says = told claim_values (fall_refusal s i) (fallen s i).claim } }))
  some_call Calls.next_pair =
      some_by (Code.by_next_pair (next_pair_of s)
      (record { exit = (s, tt); told = record { is = refl; says = told pair_values (state_refusal s) (next_byte_of s.vram_dma).answer } }))
  some_call Calls.escape_drain =
      some_by (Code.by_escape_drain (escape_drain_of s)
      (record { exit = (s, tt); told = record { is = refl; says = told pair_values (state_refusal s) (drain_of s.vram_dma).answer } }))
  some_call (Calls.switch_speed i) =
      some_by (Code.by_switch_speed i (switch_call_of s i)
      (record { exit = (s, (i, tt)); told = record { is = refl; says = told switch_values (switch_refusal s i) (switched_of i s).outcome } }))
  some_call Calls.lcd_off =
      some_by (Code.by_lcd_off (lcd_call_of s)
      (record { exit = (s, tt); told = record { is = refl; says = told done_values (state_refusal s) tt } }))
  some_call Calls.retired =
      some_by (Code.by_retired (retired_call_of s)
      (record { exit = (s, tt); told = record { is = refl; says = told done_values (state_refusal s) tt } }))
  some_call (Calls.blackout elapsed) =
      some_by
      (Code.by_blackout elapsed (blackout_call_of s elapsed)
      (record { exit = (s, (elapsed, tt)); told = record { is = refl; says = told flag_values (state_refusal s) (drained_of elapsed s).flag } }))
  some_call (Calls.wake boundary) =
      some_by
      (Code.by_wake boundary (wake_call_of s boundary)
      (record { exit = (s, (boundary, tt)); told = record { is = refl; says = told flag_values (state_refusal s) (woken_of boundary s).flag } }))
  some_call (Calls.arbitrate i) =
      some_by (Code.by_arbitrate i (arbitration_call_of s i)
      (record { exit = (s, (i, tt)); told = record { is = refl; says = told arbitration_values (state_refusal s) (arbitrated s i).answer } }))
  some_call (Calls.conflict a) =
      some_by (Code.by_conflict a (asked s (conflict_found s a))
      (record { exit = (s, (a, tt)); told = record { is = refl; says = asked_told conflict_values s (conflict_found s a) } }))
  some_call (Calls.arbitrate_inside i) =
      let given = inside_arbitration s i in
      some_by
      (Code.by_arbitrate_inside i (arbitration_call_of s given)
      (record { exit = (s, (i, tt)); told = record { is = refl; says = told arbitration_values (state_refusal s) (arbitrated s given).answer } }))
  some_call (Calls.bus_call_inside i n) = sized_four (λ m. Some s (Calls.bus_call_inside i m)) n (bus_inside_some i)
  some_call (Calls.object_dma_cycle a n) = sized_four (λ m. Some s (Calls.object_dma_cycle a m)) n (cycle_some a)
  some_call (Calls.query q) = some_by (Code.by_query q _ (some_answer s q))

some : (k : Configuration) (calls : List Call) → RunOf k calls
some k [] =
    record {
      history = from_power_on k;
      state = power_on_of k.compat;
      runs = at_power_on k (power_on_of k.compat) (record { exit = (k.compat, tt); told = refl });
      fixed = refl;
      list = refl;
    }
some k (c ∷ cs) =
    let r = some k cs in
    let o = some_call r.state c in
    record {
      history = then r.history (record { call = c; reply = o.outcome.reply });
      state = o.outcome.state;
      runs = called c o.outcome r.runs o.returned;
      fixed = r.fixed;
      list = ap (λ (xs : List Call). c ∷ xs) r.list;
    }

-- what the definitions give for a list of calls, newest first
state_after : Configuration → List Call → Cgb
state_after k [] = power_on_of k.compat
state_after k (c ∷ cs) = (step (state_after k cs) c).state

history_of : Configuration → List Call → History
history_of k [] = from_power_on k
history_of k (c ∷ cs) = then (history_of k cs) (record { call = c; reply = (step (state_after k cs) c).reply })

is_state : {h : History} {s : Cgb} → RunsTo h s → s ≡ state_after (configuration_of h) (calls_of h)
unfolding state_after
is_state (at_power_on k s g) = g.told
is_state (called {h = h} {s = s} c o r returned) =
    ap (λ (x : Outcome). x.state) (returned_step returned) ∙ ap (λ (x : Cgb). (step x c).state) (is_state r)

-- a history leaves one state
pub same_state : {h : History} {s t : Cgb} → RunsTo h s → RunsTo h t → s ≡ t
same_state a b = is_state a ∙ sym (is_state b)

is_history : {h : History} {s : Cgb} → RunsTo h s → h ≡ history_of (configuration_of h) (calls_of h)
unfolding history_of
is_history (at_power_on k s g) = refl
is_history (called {h = h} {s = s} c o r returned) =
    ap (λ (x : Outcome). then h (record { call = c; reply = x.reply })) (returned_step returned)
    ∙ ap (λ (x : Cgb). then h (record { call = c; reply = (step x c).reply })) (is_state r)
    ∙ ap (λ (x : History). then x (record { call = c; reply = (step (state_after (configuration_of h) (calls_of h)) c).reply }))
    (is_history r)

only_history : (k : Configuration) (calls : List Call) (a : RunOf k calls) → a.history ≡ history_of k calls
only_history k calls a =
    is_history a.runs ∙ ap (λ (x : Configuration). history_of x (calls_of a.history)) a.fixed ∙ ap (history_of k) a.list

only_state : (k : Configuration) (calls : List Call) (a : RunOf k calls) → a.state ≡ state_after k calls
only_state k calls a =
    is_state a.runs ∙ ap (λ (x : Configuration). state_after x (calls_of a.history)) a.fixed ∙ ap (state_after k) a.list

pub one_run : OneRun
one_run =
    record {
      some = some;
      only = λ k calls a b. (
        only_history k calls a ∙ sym (only_history k calls b),
        only_state k calls a ∙ sym (only_state k calls b),
      );
    }
