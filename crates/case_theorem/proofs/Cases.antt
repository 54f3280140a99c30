-- The cases (specs, `Cases`): each is computed from the definitions. Assumes nothing.
use Prim.Native.Nat.{ℕ, zero, suc, ◌<◌}
use native.Mathlib.Omega.{arith}
use mathlib.Core.Path.{◌≡◌, refl, ap, ◌∙◌}
use mathlib.Core.Bool.{Bool, true, false, ◌&&◌, false≢true}
use mathlib.Core.List.{List, [], ◌∷◌, ◌++◌}
use lib.Dec.{eqb}
use borrow.Author.Tests.{eqb-true}
use Rattle.std.proofs.Common.{Ok}
use Rattle.std.proofs.lemmas.Bool.{and_parts}
use Rattle.console.specs.PowerOn.{power_on_of, dma_at_rest}
use Rattle.console.specs.declared.Cgb.{Cgb}
use Rattle.memory.specs.Lengths.{wram_length}
use Rattle.console.specs.Reached.{unreached, state_refusal}
use Rattle.console.specs.Refusals.{answered}
use Rattle.hdma.specs.Hdma5.{hdma5_written, armed_of, cancelled_of, general_started, status_byte}
use Rattle.registers.specs.Map.{place_of, locks_at}
use Rattle.map_read.specs.Read.{map_byte}
use Rattle.map_write.specs.Write.{map_write_of, stored_of}
use Rattle.bus.specs.Arbitration.{contends, stalls, arbitration_of, arbitrated_of}
use Rattle.bus.specs.Commit.{taken_of, pairs_of, bus_taken, bytes_of, vram_after, oam_after}
use Rattle.bus.specs.Deposit.{deposited}
use Rattle.bus.specs.Source.{source_byte}
use Rattle.bus.specs.Store.{oam_with}
use Rattle.transfer.specs.Conflict.{will_move}
use Rattle.transfer.specs.Pair.{moving_of, cursor_after, block_after, arb_after, advanced_of, next_byte_of}
use Rattle.transfer.specs.Questions.{seizes_bus}
use Rattle.fall_stages.specs.Fall.{view_of}
use Rattle.fall_stages.specs.Fall.{settled_of, observed_arb, observed_of, judged_block, ungranted_arb, probation_of, dropped_block, halt_latch_arb}
use Rattle.fall_stages.specs.Fall.{halt_latch_of, aged_arb, pended_arb, grants, granted_arb, gated_of, refilled_of, blinds_arb, blinds_of}
use Rattle.fall_stages.specs.Fall.{commit_block, commit_arb, commit_of, tenure_arb, tenure_of, pend_arb, pend_of, readied_block, readiness_of}
use Rattle.fall_stages.specs.Fall.{seized_block, seizure_of}
use Rattle.fall_stages.specs.Fall as stages
use Rattle.fall_stages.specs.Fall.{fall_of, ran_of, decided_of, served_of}
use Rattle.cut.specs.Cut as switch
use Rattle.cut.specs.Cut.{outcome_of, ungranted, cut_of, discarded_of, graded_of, upward_of, engine_after}
use Rattle.speed_switch.specs.Switch.{blackout_of, switched_of}
use Rattle.blackout.specs.Blackout.{drained_of}
use Rattle.engine.specs.Calls.{read_refusal, access_refusal, read_of, write_of, fall_refusal, fallen_state, fall_call_of, Lengths, lengths_of, wrong_lengths}
use Rattle.engine.specs.Calls.{bus_refusal, bus_pairs, bus_answer, bus_state, bus_vram, bus_oam, arbitration_call_of, defers, switch_refusal, switch_call_of}
use Rattle.engine.specs.Calls.{blackout_call_of}
use Rattle.ledger.specs.Ledger.{empty, followed, after_pair, after_pairs, after_call}
use Rattle.ledger.specs.Calls.{bus_call, step, ledger_input}
use Rattle.case_theorem.specs.Cases.{Progress, in_compat, without_compat, start, after_one, after_calls, vram_run, run, ff55_is, to, falls, held_beside}
use Rattle.case_theorem.specs.Cases.{lengths, addresses, upward}
use Rattle.case_theorem.specs.Cases.{k1, K1, two_falls, K2, K3, K4, K5, k6, K6, K7, k8, Lent, first_lands, second_lands, K8, K10, Cases}

-- lists of addresses are compared number by number
abbrev same : List (ℕ × ℕ) → List (ℕ × ℕ) → Bool
same [] [] = true
same [] (q ∷ qs) = false
same (p ∷ ps) [] = false
same (p ∷ ps) (q ∷ qs) = eqb p.0 q.0 && (eqb p.1 q.1 && same ps qs)

is_same : (ps qs : List (ℕ × ℕ)) → same ps qs ≡ true → ps ≡ qs
is_same [] [] h = refl
is_same [] (q ∷ qs) h = absurd (false≢true h)
is_same (p ∷ ps) [] h = absurd (false≢true h)
is_same (p ∷ ps) (q ∷ qs) h =
    let parts = and_parts (eqb p.0 q.0) (eqb p.1 q.1 && same ps qs) h in
    let rest = and_parts (eqb p.1 q.1) (same ps qs) parts.1 in
    let source = eqb-true p.0 q.0 parts.0 in
    let dest = eqb-true p.1 q.1 rest.0 in
    ap (λ (x : ℕ × ℕ). x ∷ ps) (λ i. (source i, dest i))
    ∙ ap (λ (xs : List (ℕ × ℕ)). q ∷ xs) (is_same ps qs rest.1)

-- a read of FF55 looks at no more of the work RAM than its length
ff55_by :
    (v : ℕ) (w : Progress) →
    answered (read_refusal w.engine wram_length 0xFF55) (map_byte w.engine [] (place_of 0xFF55)) ≡ Ok v → ff55_is v w
unfolding read_of place_of
ff55_by v w h wram sized =
    ap (λ (n : ℕ). answered (read_refusal w.engine n 0xFF55) (map_byte w.engine [] (place_of 0xFF55))) sized ∙ h

-- and a bus call's deposit at no more of the four slices than their lengths
at_exit :
    (s : Cgb) (edge : ℕ) (m : Lent) (last : List ℕ) →
    bus_oam s (held_beside edge) lengths m.cartridge m.wram m.oam ≡ last →
    bus_oam s (held_beside edge) (lengths_of m.cartridge m.wram m.vram m.oam) m.cartridge m.wram m.oam ≡ last
at_exit s edge m last h =
    ap (λ (n : Lengths). bus_oam s (held_beside edge) n m.cartridge m.wram m.oam) m.sized ∙ h

-- What the cases compute with, by what their calls do: to open one of these is to open all that it names
opens_runs : Unit {0}
unfolding start after_one after_calls step ledger_input power_on_of dma_at_rest unreached state_refusal after_call after_pairs after_pair followed empty
opens_runs = tt

opens_writes : Unit {0}
unfolding write_of access_refusal place_of map_write_of stored_of locks_at hdma5_written armed_of cancelled_of general_started status_byte
opens_writes = tt

opens_fall_decides : Unit {0}
unfolding fall_call_of fall_refusal fallen_state fall_of view_of ran_of decided_of stages.started_of served_of settled_of moving_of seizes_bus
opens_fall_decides = tt

opens_fall_grants : Unit {0}
unfolding observed_arb observed_of judged_block ungranted_arb probation_of dropped_block halt_latch_arb halt_latch_of aged_arb pended_arb grants granted_arb
opens_fall_grants = tt

opens_fall_commits : Unit {0}
unfolding gated_of refilled_of blinds_arb blinds_of commit_block commit_arb commit_of tenure_arb tenure_of pend_arb pend_of
    readied_block readiness_of seized_block seizure_of
opens_fall_commits = tt

opens_fall : Unit {0}
unfolding opens_fall_decides opens_fall_grants opens_fall_commits
opens_fall = tt

opens_moves : Unit {0}
unfolding bus_answer bus_refusal wrong_lengths bus_pairs bus_state bus_taken pairs_of taken_of next_byte_of advanced_of cursor_after block_after arb_after
opens_moves = tt

opens_switches : Unit {0}
unfolding switch_call_of switch_refusal switched_of defers switch.ready_block outcome_of ungranted cut_of discarded_of graded_of
    upward_of engine_after blackout_of
opens_switches = tt

opens_drains_blackout : Unit {0}
unfolding blackout_call_of drained_of
opens_drains_blackout = tt

opens_stores : Unit {0}
unfolding vram_run bus_vram vram_after source_byte
opens_stores = tt

opens_deposits : Unit {0}
unfolding bus_oam oam_after bytes_of deposited source_byte oam_with
opens_deposits = tt

opens_arbitrates : Unit {0}
unfolding arbitration_call_of arbitrated_of arbitration_of contends stalls will_move
opens_arbitrates = tt

case1 : (mode : ℕ) → mode < 4 → K1 mode
unfolding opens_runs opens_writes opens_fall opens_moves opens_stores
case1 zero h =
    record {
      moved = is_same _ _ refl;
      reads = ff55_by 0xFF (k1 0) refl;
      counted = (refl, refl);
      stored = λ cartridge wram vram. refl;
    }
case1 (suc zero) h =
    record {
      moved = is_same _ _ refl;
      reads = ff55_by 0xFF (k1 1) refl;
      counted = (refl, refl);
      stored = λ cartridge wram vram. refl;
    }
case1 (suc (suc zero)) h =
    record {
      moved = is_same _ _ refl;
      reads = ff55_by 0xFF (k1 2) refl;
      counted = (refl, refl);
      stored = λ cartridge wram vram. refl;
    }
case1 (suc (suc (suc zero))) h =
    record {
      moved = is_same _ _ refl;
      reads = ff55_by 0xFF (k1 3) refl;
      counted = (refl, refl);
      stored = λ cartridge wram vram. refl;
    }
case1 (suc (suc (suc (suc m)))) h = absurd (omega arith)

case2 : K2
unfolding opens_runs opens_writes opens_fall opens_moves
case2 =
    record {
      second = ff55_by 0x00 (run (two_falls 0x80 tt)) refl;
      third = ff55_by 0xFF (run (two_falls 0x80 tt ++ (falls 0 ∷ []))) refl;
      fourth = refl;
      fifth = refl;
      moved = is_same _ _ refl;
    }

case3 : K3
unfolding opens_runs opens_writes
case3 = record { reads = ff55_by 0x80 (run (to 0xFF55 0x83 tt ∷ to 0xFF55 0x00 tt ∷ [])) refl }

case4 : K4
unfolding opens_runs opens_writes opens_fall opens_moves
case4 = record { moved = is_same _ _ refl; cut_off = refl; left = refl }

case5 : K5
unfolding opens_runs opens_writes opens_fall opens_moves
case5 = record { moved = is_same _ _ refl; cut_off = refl }

case6 : K6
unfolding opens_runs opens_writes opens_fall opens_moves opens_switches opens_drains_blackout
case6 = record { cut = refl; moved = is_same _ _ refl; free = refl; left = (refl, refl); reads = ff55_by 0x80 k6 refl }

case7 : K7
unfolding opens_runs opens_writes opens_switches opens_drains_blackout
case7 = record { up = refl; down = refl; again = refl }

-- the bus call beside OAM DMA moves both bytes
moved8 : addresses (after_calls without_compat (k8 100) (bus_call (held_beside 98) lengths ∷ [])).pairs ≡ upward 2 0x1230 0x8000
unfolding opens_runs opens_writes opens_fall opens_moves opens_arbitrates
moved8 = is_same (addresses (after_calls without_compat (k8 100) (bus_call (held_beside 98) lengths ∷ [])).pairs) (upward 2 0x1230 0x8000) refl

case8 : K8
unfolding opens_runs opens_writes opens_fall opens_moves opens_deposits opens_arbitrates
case8 =
    record {
      block_edge = refl;
      contended = refl;
      moved = moved8;
      at_98 = λ m. at_exit (k8 100).engine 98 m (second_lands m) refl;
      at_92 = λ m. at_exit (k8 100).engine 92 m (second_lands m) refl;
      at_96 = λ m. at_exit (k8 100).engine 96 m (first_lands m) refl;
      at_94 = λ m. at_exit (k8 100).engine 94 m (first_lands m) refl;
      both_0 = λ m. at_exit (k8 0).engine 0 m (second_lands m) refl;
      wraps = λ m. at_exit (k8 0).engine 4 m (first_lands m) refl;
    }

case10 : K10
unfolding opens_runs opens_writes
case10 = record { reads = ff55_by 0xFF (after_calls in_compat (start in_compat) (to 0xFF55 0x00 tt ∷ [])) refl }

pub cases : Cases
cases =
    record {
      case1 = case1;
      case2 = case2;
      case3 = case3;
      case4 = case4;
      case5 = case5;
      case6 = case6;
      case7 = case7;
      case8 = case8;
      case10 = case10;
    }
