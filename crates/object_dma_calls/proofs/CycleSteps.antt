-- One M-cycle call does what document 02 says of it (specs, `CycleLaws`). Assumes nothing.
use Prim.Native.Nat.{ℕ, ◌+◌, ◌-◌, ◌<◌}
use native.Mathlib.Omega.{arith}
use mathlib.Core.Path.{◌≡◌, refl, ap}
use mathlib.Core.Bool.{Bool, true, false, cond, ◌&&◌, false≢true, and-false}
use mathlib.Core.List.{List}
use lib.ListN.{set}
use borrow.Author.Tests.{le-leb}
use Rattle.std.proofs.Common.{None, Ok}
use Rattle.console.specs.Reached.{ObjectDmaWithin}
use Rattle.console.specs.declared.Cgb.{Cgb}
use Rattle.console.specs.declared.object.ObjectDma.{ObjectDma}
use Rattle.bus.specs.Store.{oam_with}
use Rattle.bus.specs.declared.arbitration.Arbitration.{Arbitration}
use Rattle.bus.specs.declared.arbitration.Arbitration.TheVariants.{Stall}
use Rattle.answers.specs.declared.Cycle.TheVariants.{Nothing}
use Rattle.bus_calls.specs.BusCall.{lengths_of}
use Rattle.bus_calls.proofs.BusCallSteps.{bus_refusals}
use Rattle.object_dma.specs.ObjectDma.{runs, after_byte}
use Rattle.object_dma_calls.specs.Cycle.{counts_byte, counts_now, moves_now, running_answer, cycle_answer_of, after_cycle, byte_moved}
use Rattle.object_dma_calls.specs.Cycle.{oam_after_cycle, cycle_refusal}
use Rattle.object_dma_calls.specs.Cycle.{cycle_answer, cycle_state, cycle_byte, cycle_oam, cycle_of}
use Rattle.object_dma_calls.specs.CycleSteps.{CycleRefusals, CycleSteps, ObjectDmaQuery, CycleLaws}
use Rattle.answers.specs.Queries.{asked}
use Rattle.answers.proofs.Numbers.{state_7, state_passes}
use Rattle.object_dma_calls.proofs.Cycles.{runs_below}

left : (b c : Bool) → (b && c) ≡ true → b ≡ true
left true c e = refl
left false c e = absurd (false≢true e)

pub cycle_within : (a : Arbitration) (o : ObjectDma) → ObjectDmaWithin o → ObjectDmaWithin (after_cycle a o)
unfolding after_cycle
cycle_within a o w = by (counts_now a o) refl
  where
    by : (b : Bool) → counts_now a o ≡ b → ObjectDmaWithin (cond b (after_byte o) o)
    by true e = let below = runs_below o (left (runs o) (counts_byte a) e) in record { counted = omega arith; page = w.page }
    by false e = w

-- page and start edge stay
pub cycle_keeps : (a : Arbitration) (o : ObjectDma) → ((after_cycle a o).page ≡ o.page) × ((after_cycle a o).start_edge ≡ o.start_edge)
unfolding after_cycle
cycle_keeps a o = by (counts_now a o)
  where
    by : (b : Bool) → ((cond b (after_byte o) o).page ≡ o.page) × ((cond b (after_byte o) o).start_edge ≡ o.start_edge)
    by true = (refl, refl)
    by false = (refl, refl)

module _ (s : Cgb) (a : Arbitration) (cartridge wram vram oam : List ℕ) where
  cycle_refusals : CycleRefusals s a cartridge wram vram oam
  unfolding cycle_of cycle_answer cycle_state cycle_byte cycle_oam
  cycle_refusals =
      let n = lengths_of cartridge wram vram oam in
      let by = bus_refusals s n in
      record {
        first_7 = by.first_7;
        then_2 = by.then_2;
        accepted = by.accepted;
        declined = λ r is. (rw is, rw is);
      }

-- OAM has a place for every byte of a run
inside : (oam : List ℕ) (k byte : ℕ) → k < 160 → oam_with oam (0xFE00 + k) byte ≡ set oam k byte
unfolding oam_with
inside oam k byte h = rw (le-leb (0xFE00 + k) 0xFE9F (omega arith)) (ap (λ (i : ℕ). set oam i byte) (back k))
  where
    back : (k : ℕ) → (0xFE00 + k) - 0xFE00 ≡ k
    back k = omega arith

module _ (s : Cgb) (cartridge wram vram oam : List ℕ) (zero : cycle_refusal s (lengths_of cartridge wram vram oam) ≡ None) where
  resting :
      (a : Arbitration) → counts_now a s.object_dma ≡ false → moves_now a s.object_dma ≡ false →
      cycle_answer_of a s.object_dma ≡ Nothing →
      (cycle_of s a cartridge wram vram oam ≡ record { answer = Ok Nothing; byte = 0; state = s }) ×
      (cycle_oam s a (lengths_of cartridge wram vram oam) cartridge wram vram oam ≡ oam)
  unfolding cycle_of cycle_answer cycle_state cycle_byte cycle_oam after_cycle byte_moved oam_after_cycle
  resting a c m n = (rw (zero, c, m, n), rw (zero, m))

  nothing_at_rest : runs s.object_dma ≡ false → (a : Arbitration) → cycle_answer_of a s.object_dma ≡ Nothing
  unfolding cycle_answer_of
  nothing_at_rest r a = rw r

  nothing_stalled : (b : Bool) → cond b (running_answer Stall s.object_dma) Nothing ≡ Nothing
  nothing_stalled true = refl
  nothing_stalled false = refl

  stalled_answer : cycle_answer_of Stall s.object_dma ≡ Nothing
  unfolding cycle_answer_of
  stalled_answer = nothing_stalled (runs s.object_dma)

  cycle_steps : CycleSteps s cartridge wram vram oam
  unfolding cycle_of cycle_answer cycle_state cycle_byte cycle_oam cycle_answer_of after_cycle byte_moved oam_after_cycle
  cycle_steps =
      let o = s.object_dma in
      record {
        rests = λ r a. resting a (rw r) (rw r) (nothing_at_rest r a);
        clear = λ r. (rw (zero, r), rw (zero, r) (inside oam o.counted _ (runs_below o r)));
        contended = λ r. (rw (zero, r), rw (zero, r));
        stalled = resting Stall (and-false (runs o)) (and-false (runs o)) stalled_answer;
      }

object_dma_query : (s : Cgb) → ObjectDmaQuery s
unfolding asked
object_dma_query s = record { tells = λ reached. rw (state_passes s reached); declined = λ seven. (rw (state_7 s seven), refl) }

pub cycle_laws : CycleLaws
cycle_laws = record { refusals = cycle_refusals; accepted = cycle_steps; query = object_dma_query; within = cycle_within }
