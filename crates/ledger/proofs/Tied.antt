-- What the public functions may return is what the definitions give: each function's contract, in a line. Assumes nothing.
use Prim.Native.Nat.{ℕ, zero, suc, ◌≤◌}
use native.Mathlib.Omega.{arith}
use mathlib.Core.Path.{◌≡◌, refl, ap, ◌∙◌}
use mathlib.Core.List.{List, [], ◌∷◌}
use lib.ListN.{length, take}
use Rattle.std.proofs.Common.{Option, Some, None, Result}
use Rattle.console.specs.Reached.{unreached}
use Rattle.console.specs.declared.Cgb.{Cgb}
use Rattle.console.specs.declared.refusal.Refusal.{Refusal}
use Rattle.console.specs.declared.refusal.Refusal.TheVariants.{State}
use Rattle.console.specs.declared.vram_dma.VramDma.{VramDma}
use Rattle.console.specs.Refusals.{◌⇒◌, number_of, answered, kept}
use Rattle.console.proofs.Reached as seven
use Rattle.console.proofs.Refusals.{none_holds}
use Rattle.bus.specs.Commit.{Taken, after_answer, taken_of, pairs_of, bus_taken, first_two}
use Rattle.bus.proofs.BusSteps.{bus_steps}
use Rattle.bus.specs.declared.commit.BusInput.{BusInput}
use Rattle.transfer.specs.Pair.{NextAnswer, next_byte_of}
use Rattle.transfer.specs.declared.pair.BytePair.{BytePair}
use Rattle.transfer.specs.declared.pair.Cause.{Cause}
use Rattle.transfer.specs.declared.pair.Cause.TheVariants.{GoingOn}
use Rattle.bus.specs.Deposit.{no_pair}
use Rattle.engine.specs.Calls.{read_said, Lengths, lengths_of, taken_in, bus_refusal, bus_pairs, bus_causes, bus_answer, bus_state, bus_of}
use Rattle.engine.specs.Calls as bus
use Rattle.engine.specs.Calls.{inside_bus, cycle_said, cycle_of}
use Rattle.answers.specs.Answers.{Said, says, done_values, flag_values, arbitration_values, moved_values, conflict_values}
use Rattle.ledger.proofs.Answered.{answered_is}
use Rattle.ledger.specs.Calls
use Rattle.ledger.specs.Calls.{Call, Outcome, handing, plain, of_outcome, of_fell, of_handed, of_switched, of_bussed, moved_in, step}
use Rattle.ledger.specs.Code.{Returned, by_write, by_read, by_fall, by_next_pair, by_escape_drain, by_bus_call, by_switch_speed}
use Rattle.ledger.specs.Code.{by_lcd_off, by_retired, by_blackout, by_wake, by_arbitrate, by_conflict, by_query}
use Rattle.ledger.specs.Code.{by_arbitrate_inside, by_bus_call_inside, by_object_dma_cycle}
use Rattle.ledger.proofs.AcceptedOrDeclined.{reasons_of}
use Rattle.ledger.proofs.BusKinds.{of_each}

-- no more pairs than asked for
taken_count : (n : ℕ) (d : VramDma) → length (taken_of n d).pairs ≤ n
unfolding taken_of
taken_count zero d = omega arith
taken_count (suc n) d = by (next_byte_of d).answer (taken_count n (next_byte_of d).dma)
  where
    by : (a : NextAnswer) → length (taken_of n (next_byte_of d).dma).pairs ≤ n → length (after_answer d a (taken_of n (next_byte_of d).dma)).pairs ≤ suc n
    by (Some (p, k)) h = omega arith
    by None h = omega arith

bus_count : (i : BusInput) (d : VramDma) → length (bus_taken i d).pairs ≤ d.cursor.quota
unfolding pairs_of
bus_count i d =
    of_each (λ (t : Taken). length t.pairs ≤ d.cursor.quota) i d (omega arith) (omega arith) (taken_count d.cursor.quota d)

-- two places hold them all
two_places : {A : Type 0} (none : A) (xs : List A) → length xs ≤ 2 → take (length xs) (first_two none xs) ≡ xs
two_places none [] h = refl
two_places none (a ∷ []) h = refl
two_places none (a ∷ b ∷ []) h = refl
two_places none (a ∷ b ∷ c ∷ more) h = absurd (omega arith)

two_causes :
    (ks : List Cause) (ps : List BytePair) → length ks ≡ length ps → length ps ≤ 2 →
    take (length ps) (first_two GoingOn ks) ≡ ks
two_causes ks ps same few = rw (← same) (two_places GoingOn ks (omega (arith, same, few)))

module _ (s : Cgb) (i : BusInput) (n : Lengths) where
  -- an accepted bus call is of a state that passes 7
  accepted_pairs : bus_refusal s n ≡ None → length (taken_in s i).pairs ≤ 2
  unfolding bus_refusal
  accepted_pairs none =
      let passes = (none_holds ((unreached s ⇒ State) ∷ reasons_of s (Calls.bus_call i n)) (ap number_of none)).0 in
      omega (arith, bus_count i s.vram_dma, (seven.reached s passes).engine.quota)

  bus_reply :
      ◌≡◌ {A = Outcome}
      (record {
        reply =
            handing (says moved_values (bus_answer s i n)).number (moved_in (bus_answer s i n) (first_two no_pair (bus_pairs s i n)))
            (moved_in (bus_answer s i n) (first_two GoingOn (bus_causes s i n)));
        state = bus_state s i n;
      })
      (step s (Calls.bus_call i n))
  unfolding step bus_answer bus_pairs bus_causes bus_state
  bus_reply = by (bus_refusal s n) refl
    where
      by :
          (k : Option Refusal) → bus_refusal s n ≡ k →
          (let a = answered k (bus.moved_by s i) in
          let ps = kept k [] (taken_in s i).pairs in
          let ks = kept k [] (taken_in s i).causes in
          ◌≡◌ {A = Outcome}
          (record {
            reply = handing (says moved_values a).number (moved_in a (first_two no_pair ps)) (moved_in a (first_two GoingOn ks));
            state = bus_state s i n;
          })
          (record { reply = handing (number_of k) ps ks; state = bus_state s i n }))
      by None e =
          let each = (bus_steps i s.vram_dma).cause_each in
          rw (two_places no_pair (taken_in s i).pairs (accepted_pairs e), two_causes _ _ each (accepted_pairs e))
      by (Some r) e = refl

pub returned_step : {s : Cgb} {c : Call} {o : Outcome} → Returned s c o → o ≡ step s c
unfolding step read_said bus_of cycle_said cycle_of
returned_step (by_write κs wram a w byte r m) = ap (of_outcome done_values) m.told.result
returned_step {s = s} (by_read κs wram a r m) = ap (λ (x : Said). plain x s) m.told.says
returned_step (by_fall i r m) = ap of_fell m.told.is
returned_step (by_next_pair r m) = ap of_handed m.told.is
returned_step (by_escape_drain r m) = ap of_handed m.told.is
returned_step {s = s} (by_bus_call κs i cartridge wram vram oam r m) =
    ap of_bussed m.told.result ∙ bus_reply s i (lengths_of cartridge.now wram.now vram.now oam.now)
returned_step (by_switch_speed i r m) = ap of_switched m.told.is
returned_step (by_lcd_off r m) = ap (of_outcome done_values) m.told.is
returned_step (by_retired r m) = ap (of_outcome done_values) m.told.is
returned_step (by_blackout elapsed r m) = ap (of_outcome flag_values) m.told.is
returned_step (by_wake boundary r m) = ap (of_outcome flag_values) m.told.is
returned_step (by_arbitrate i r m) = ap (of_outcome arbitration_values) m.told.is
returned_step {s = s} (by_conflict a r m) = ap (λ (x : Result (Option ℕ) Refusal). plain (says conflict_values x) s) m.told.is
returned_step {s = s} (by_query q said m) = ap (λ (x : Said). plain x s) (answered_is m)
returned_step (by_arbitrate_inside i r m) = ap (of_outcome arbitration_values) m.told.is
returned_step {s = s} (by_bus_call_inside κs i cartridge wram vram oam r m) =
    ap of_bussed m.told.result ∙ bus_reply s (inside_bus s i) (lengths_of cartridge.now wram.now vram.now oam.now)
returned_step (by_object_dma_cycle κs a cartridge wram vram oam r m) = λ k. plain (m.told.says k) (m.told.result k).state
