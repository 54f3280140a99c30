-- Object DMA over runs (specs, `ObjectDmaRun`). Assumes nothing.
use Prim.Native.Nat.{ℕ, ◌+◌, ◌*◌, ◌<◌, ◌≤◌, min}
use native.Mathlib.Omega.{arith}
use mathlib.Core.Path.{◌≡◌, refl, ap, ◌∙◌}
use mathlib.Core.Bool.{Bool, true, false}
use mathlib.Core.List.{List}
use lib.Dec.{ltb}
use borrow.Author.Tests.{lt-ltb, le-ltb, ltb-true, ltb-false}
use Rattle.std.proofs.Common.{None, Ok}
use Rattle.console.specs.declared.Cgb.{Cgb}
use Rattle.console.specs.declared.object.ObjectDma.{ObjectDma}
use Rattle.bus.specs.declared.arbitration.Arbitration.{Arbitration}
use Rattle.bus.specs.declared.arbitration.Arbitration.TheVariants as given
use Rattle.bus.specs.declared.hold.HoldInput.{HoldInput}
use Rattle.answers.specs.declared.Cycle.TheVariants.{Nothing, Moved}
use Rattle.answers.specs.declared.Cycled.{Cycled}
use Rattle.bus_calls.specs.BusCallSteps.{WholeSlices}
use Rattle.engine.specs.Calls.{lengths_of, inside_arbitration, inside_bus, cycle_refusal, cycle_of, cycle_oam}
use Rattle.object_dma_calls.proofs.CycleSteps.{cycle_laws}
use Rattle.console.proofs.Reached as seven
use Rattle.object_dma.specs.ObjectDma.{runs}
use Rattle.ledger.specs.Demand3.{History, RunsTo}
use Rattle.ledger.proofs.Keeps.{step_keeps}
use Rattle.ledger.proofs.Theorem.{invariant}
use Rattle.object_dma_run.specs.Since.{Start, none, since, start_of, object_at, transfers_at, edge_at}
use Rattle.object_dma_run.specs.ObjectDmaRun.{ObjectDmaRun}
use Rattle.object_dma_run.proofs.Since.{object_state}
use Rattle.object_dma_run.proofs.Copy.{copies}
use Rattle.object_dma_run.proofs.Shared.{one_more, fall_between, more_between}

least : (n : ℕ) → n < 160 → min n 160 ≡ n
least n h = omega arith

run_below : (page edge n : ℕ) → n < 160 → runs (object_at (since page edge n)) ≡ true
unfolding object_at
run_below page edge n h = rw (least n h, lt-ltb n 160 h)

run_over : (page edge n : ℕ) → 160 ≤ n → runs (object_at (since page edge n)) ≡ false
unfolding object_at
run_over page edge n h = rw (le-ltb n 160 h)

rest_first : runs (object_at none) ≡ false
unfolding object_at
rest_first = refl

-- ---- an M-cycle call after a list
module _ (h : History) (s : Cgb) (r : RunsTo h s) (page edge n : ℕ) (is : start_of h ≡ since page edge n) where
  object_is : s.object_dma ≡ object_at (since page edge n)
  object_is = object_state r ∙ ap object_at is

  module _ (cartridge wram vram oam : List ℕ) (slices : WholeSlices (lengths_of cartridge wram vram oam)) where
    zero : (a : Arbitration) → cycle_refusal s (lengths_of cartridge wram vram oam) ≡ None
    zero a = (cycle_laws.refusals s a cartridge wram vram oam).accepted (invariant r).reached slices

    source_is : n < 160 → s.object_dma.page * 256 + s.object_dma.counted ≡ page * 256 + n
    unfolding object_at
    source_is low = ap (λ (o : ObjectDma). o.page * 256 + o.counted) object_is ∙ ap (λ (k : ℕ). page * 256 + k) (least n low)

    moves_next : n < 160 → (cycle_of s given.Clear cartridge wram vram oam).answer ≡ Ok (Moved (page * 256 + n))
    moves_next low =
        let steps = cycle_laws.accepted s cartridge wram vram oam (zero given.Clear) in
        ap (λ (c : Cycled). c.answer) (steps.clear (ap runs object_is ∙ run_below page edge n low)).0 ∙ ap (λ (k : ℕ). Ok (Moved k)) (source_is low)

    none_after :
        160 ≤ n → (a : Arbitration) →
        (cycle_of s a cartridge wram vram oam ≡ record { answer = Ok Nothing; byte = 0; state = s }) ×
        (cycle_oam s a (lengths_of cartridge wram vram oam) cartridge wram vram oam ≡ oam)
    none_after high a = (cycle_laws.accepted s cartridge wram vram oam (zero a)).rests (ap runs object_is ∙ run_over page edge n high) a

runs_at : (l : Start) → runs (object_at l) ≡ transfers_at l
unfolding object_at
runs_at none = refl
runs_at (since page edge n) = by (ltb n 160) refl
  where
    by : (b : Bool) → ltb n 160 ≡ b → runs (object_at (since page edge n)) ≡ b
    by true e = run_below page edge n (ltb-true n 160 e)
    by false e = run_over page edge n (ltb-false n 160 e)

edge_at_lem : (l : Start) → (object_at l).start_edge ≡ edge_at l
unfolding object_at
edge_at_lem none = refl
edge_at_lem (since page edge n) = refl

module _ (h : History) (s : Cgb) (r : RunsTo h s) (i : HoldInput) where
  transfers : inside_arbitration s i ≡ record { hold = i.hold; suspended = i.suspended; oam_transferring = transfers_at (start_of h) }
  transfers =
      ap (λ (b : Bool). record { hold = i.hold; suspended = i.suspended; oam_transferring = b }) (ap runs (object_state r) ∙ runs_at (start_of h))

  edge : inside_bus s i ≡ record { hold = i.hold; suspended = i.suspended; oam_start_edge = edge_at (start_of h) }
  edge =
      ap (λ (x : ℕ). record { hold = i.hold; suspended = i.suspended; oam_start_edge = x })
      (ap (λ (o : ObjectDma). o.start_edge) (object_state r) ∙ edge_at_lem (start_of h))

pub object_dma_run : ObjectDmaRun
object_dma_run =
    record {
      state = λ h s r. object_state r;
      runs_below = λ h s r page edge n is low. ap runs (object_state r ∙ ap object_at is) ∙ run_below page edge n low;
      rests_after = λ h s r page edge n is high. ap runs (object_state r ∙ ap object_at is) ∙ run_over page edge n high;
      rests_before = λ h s r is. ap runs (object_state r ∙ ap object_at is) ∙ rest_first;
      moves_next = λ h s r page edge n is low c w v o slices. moves_next h s r page edge n is c w v o slices low;
      none_after = λ h s r page edge n is high a c w v o slices. none_after h s r page edge n is c w v o slices high a;
      transfers = transfers;
      edge = edge;
      copies = copies;
      one_more = λ s t u i j k n l before after. one_more s t u i j k n l before after;
      fall_between = fall_between;
      more_between = more_between;
      keeps_7 = step_keeps;
      within = λ h s r. let w = (seven.reached s (invariant r).reached).object in (w.counted, w.page);
    }
