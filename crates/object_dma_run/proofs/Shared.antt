-- The bus is shared for one M-cycle past the 160th byte, and no longer (specs, `OneMore`). Assumes nothing.
use mathlib.Core.Path.{◌≡◌, refl, sym, ap, ◌∙◌}
use mathlib.Core.Bool.{Bool, true, false, false≢true}
use mathlib.Core.Logic.{inr, ⊎_elim}
use Rattle.console.specs.Reached.{unreached}
use Rattle.console.specs.Set.{with_vram_dma, with_dma_oam, with_object_dma}
use Rattle.console.specs.declared.Cgb.{Cgb}
use Rattle.console.specs.declared.object.ObjectDma.{ObjectDma}
use Rattle.console.specs.declared.vram_dma.OamContention.{OamContention}
use Rattle.console.specs.declared.vram_dma.VramDma.{VramDma}
use Rattle.transfer.specs.Pair.{next_byte_of, advanced_of}
use Rattle.transfer.proofs.Keeps.{next_keeps}
use Rattle.bus.specs.Arbitration.{contends, stalls, arbitration_of, arbitrated_of}
use Rattle.bus.specs.Commit.{bus_taken}
use Rattle.bus.proofs.Taken.{bus_keeps}
use Rattle.bus.specs.declared.arbitration.Arbitration.{Arbitration}
use Rattle.bus.specs.declared.arbitration.ArbitrationInput.{ArbitrationInput}
use Rattle.bus.specs.declared.commit.BusInput.{BusInput}
use Rattle.bus.specs.declared.hold.HoldInput.{HoldInput}
use Rattle.fall_stages.specs.Fall.{settled_of, started_of, halt_latch_of, probation_of, observed_of, gated_of, refilled_of, blinds_of, served_of, seizure_of}
use Rattle.fall_stages.specs.Fall.{readiness_of, pend_of, tenure_of, commit_of, fall_of}
use Rattle.fall_stages.specs.declared.FallInput.{FallInput}
use Rattle.fall_stages.proofs.Steps.{Course, settled, gated, overflowed, served, course}
use Rattle.object_dma.specs.ObjectDma.{runs}
use Rattle.answers.proofs.Numbers.{state_passes}
use Rattle.bus_calls.specs.BusCallSteps.{WholeSlices}
use Rattle.bus_calls.proofs.BusCallSteps.{bus_refusals}
use Rattle.bus_calls.proofs.SharedBusSteps.{shared_bus_steps}
use Rattle.engine.specs.Calls.{Lengths, taken_in, bus_state, arbitrated, arbitration_call_of, inside_arbitration, inside_bus}
use Rattle.engine.specs.Calls.{fallen_state, counts_byte, after_cycle, cycle_state}
use Rattle.ledger.specs.Calls.{Outcome, fall, arbitrate_inside, bus_call_inside, object_dma_cycle, step}
use Rattle.ledger.proofs.AcceptedOrDeclined.{either_way}
use Rattle.ledger.proofs.Keeps.{step_keeps}
use Rattle.object_dma_run.specs.Shared.{given_in, after_m_cycle}
use Rattle.object_dma_run.specs.ObjectDmaRun.{LastByte, BetweenCycles, OneMore}

-- ---- a bus call leaves what arbitration keeps
next_oam : (d : VramDma) → (next_byte_of d).dma.oam ≡ d.oam
unfolding advanced_of
next_oam d = next_keeps (λ x. x.oam ≡ d.oam) d refl refl

bus_oam : (i : BusInput) (d : VramDma) → (bus_taken i d).dma.oam ≡ d.oam
bus_oam i d = bus_keeps (λ x. x.oam ≡ d.oam) (λ x k. next_oam x ∙ k) (λ x cells k. k) i d refl

-- ---- the three calls of an M-cycle, each accepted
module _ (s : Cgb) (reached : unreached s ≡ false) where
  arbitrated_state : (i : ArbitrationInput) → (arbitration_call_of s i).state ≡ with_vram_dma (with_dma_oam (arbitrated s i).oam s.vram_dma) s
  unfolding arbitration_call_of
  arbitrated_state i = rw (state_passes s reached)

  module _ (n : Lengths) (slices : WholeSlices n) where
    cycled_state : (a : Arbitration) → cycle_state s a n ≡ with_object_dma (after_cycle a s.object_dma) s
    unfolding cycle_state
    cycled_state a = rw ((bus_refusals s n).accepted reached slices)

    bussed_state : (i : BusInput) → bus_state s i n ≡ with_vram_dma (taken_in s i).dma s
    unfolding bus_state
    bussed_state i = rw ((bus_refusals s n).accepted reached slices)

-- what an M-cycle leaves of what the next arbitration looks at
record Left (s : Cgb) (i : HoldInput) (t : Cgb) : Type 0 where
  reached : unreached t ≡ false
  speed : t.double_speed ≡ s.double_speed
  was : t.vram_dma.oam.was_transferring ≡ runs s.object_dma
  object : t.object_dma ≡ after_cycle (given_in s i) s.object_dma

module _ (s : Cgb) (i : HoldInput) (n : Lengths) (reached : unreached s ≡ false) (slices : WholeSlices n) where
  abbrev first : Cgb
  first = (arbitration_call_of s (inside_arbitration s i)).state

  abbrev second : Cgb
  second = cycle_state first (given_in s i) n

  first_reached : unreached first ≡ false
  unfolding step
  first_reached = step_keeps s reached (arbitrate_inside i)

  second_reached : unreached second ≡ false
  unfolding step
  second_reached = step_keeps first first_reached (object_dma_cycle (given_in s i) n)

  third_reached : unreached (after_m_cycle s i n) ≡ false
  unfolding step after_m_cycle
  third_reached = step_keeps second second_reached (bus_call_inside i n)

  first_is : first ≡ with_vram_dma (with_dma_oam (arbitrated s (inside_arbitration s i)).oam s.vram_dma) s
  first_is = arbitrated_state s reached (inside_arbitration s i)

  second_is : second ≡ with_object_dma (after_cycle (given_in s i) first.object_dma) first
  second_is = cycled_state first first_reached n slices (given_in s i)

  third_is : after_m_cycle s i n ≡ with_vram_dma (taken_in second (inside_bus second i)).dma second
  unfolding after_m_cycle
  third_is = bussed_state second second_reached n slices (inside_bus second i)

  left : Left s i (after_m_cycle s i n)
  unfolding arbitrated_of
  left =
      record {
        reached = third_reached;
        speed = ap (λ (x : Cgb). x.double_speed) third_is ∙ ap (λ (x : Cgb). x.double_speed) second_is ∙ ap (λ (x : Cgb). x.double_speed) first_is;
        was =
            ap (λ (x : Cgb). x.vram_dma.oam.was_transferring) third_is
            ∙ ap (λ (x : OamContention). x.was_transferring) (bus_oam (inside_bus second i) second.vram_dma)
            ∙ ap (λ (x : Cgb). x.vram_dma.oam.was_transferring) second_is
            ∙ ap (λ (x : Cgb). x.vram_dma.oam.was_transferring) first_is;
        object =
            ap (λ (x : Cgb). x.object_dma) third_is
            ∙ ap (λ (x : Cgb). x.object_dma) second_is
            ∙ ap (λ (x : Cgb). after_cycle (given_in s i) x.object_dma) first_is;
      }

-- ---- at single speed nothing stalls, so that the byte counts
counting : (contended : Bool) → counts_byte (arbitration_of contended false) ≡ true
unfolding arbitration_of
counting true = refl
counting false = refl

no_stall : (j : ArbitrationInput) (d : VramDma) → stalls false j d ≡ false
unfolding stalls
no_stall j d = refl

counts_single : (s : Cgb) (i : HoldInput) → s.double_speed ≡ false → counts_byte (given_in s i) ≡ true
unfolding arbitrated_of
counts_single s i single =
    let j = inside_arbitration s i in
    let contended = contends s.double_speed j s.vram_dma in
    ap (λ (b : Bool). counts_byte (arbitration_of contended (stalls b j s.vram_dma))) single
    ∙ ap (λ (b : Bool). counts_byte (arbitration_of contended b)) (no_stall j s.vram_dma)
    ∙ counting contended

-- the 160th ends the run, and at rest nothing changes
last_one : (o : ObjectDma) (a : Arbitration) → runs o ≡ true → o.counted ≡ 159 → counts_byte a ≡ true → runs (after_cycle a o) ≡ false
unfolding after_cycle
last_one o a r c k = rw (r, k, c)

still : (o : ObjectDma) (a : Arbitration) → runs o ≡ false → after_cycle a o ≡ o
unfolding after_cycle
still o a r = rw r

module _ (s t u : Cgb) (i j k : HoldInput) (n : Lengths) (l : LastByte s n) (before : BetweenCycles (after_m_cycle s i n) t)
    (after : BetweenCycles (after_m_cycle t j n) u) where
  at_one : Left s i (after_m_cycle s i n)
  at_one = left s i n l.reached l.slices

  at_two : Left t j (after_m_cycle t j n)
  at_two = left t j n before.reached l.slices

  rests : runs (after_m_cycle s i n).object_dma ≡ false
  rests = ap runs at_one.object ∙ last_one s.object_dma (given_in s i) l.runs l.counted (counts_single s i l.single)

  t_rests : runs t.object_dma ≡ false
  t_rests = ap runs before.object ∙ rests

  t_single : t.double_speed ≡ false
  t_single = before.speed ∙ at_one.speed ∙ l.single

  u_rests : runs u.object_dma ≡ false
  u_rests = ap runs (after.object ∙ at_two.object ∙ still t.object_dma (given_in t j) t_rests) ∙ t_rests

  u_was : u.vram_dma.oam.was_transferring ≡ false
  u_was = after.was ∙ at_two.was ∙ t_rests

  pub one_more : OneMore s t u i j k n
  one_more =
      let told = shared_bus_steps.arbitration t (inside_arbitration t j) before.reached in
      let last = shared_bus_steps.arbitration u (inside_arbitration u k) after.reached in
      record {
        rests = rests;
        shared = (
          λ e. let c = told.contended.0 e in (c.active, c.moves),
          λ h. told.contended.1 (record { speed = t_single; oam = inr (before.was ∙ at_one.was ∙ l.runs); active = h.0; moves = h.1 }),
        );
        over = last.clear.1 (
          λ c. ⊎_elim (λ now. absurd (false≢true (sym u_rests ∙ now))) (λ was. absurd (false≢true (sym u_was ∙ was))) c.oam,
          λ c. absurd (false≢true (sym u_rests ∙ c.oam)),
        );
      }

-- ---- a fall leaves what arbitration keeps
fall_oam : (i : FallInput) (double : Bool) (d : VramDma) → (fall_of i double d).dma.oam ≡ d.oam
unfolding settled_of started_of halt_latch_of probation_of observed_of gated_of refilled_of blinds_of served_of seizure_of
    readiness_of pend_of tenure_of commit_of
fall_oam i double d = by (course i double d)
  where
    by : Course i double d → (fall_of i double d).dma.oam ≡ d.oam
    by (settled p e) = rw e
    by (gated p g e) = rw e
    by (overflowed p g o e) = rw e
    by (served p g o e) = rw e

module _ (s : Cgb) (f : FallInput) (reached : unreached s ≡ false) where
  -- accepted or declined
  abbrev Stands : Outcome → Type 0
  Stands o =
      (o.state.object_dma ≡ s.object_dma) × (o.state.double_speed ≡ s.double_speed) ×
      (o.state.vram_dma.oam.was_transferring ≡ s.vram_dma.oam.was_transferring)

  fallen_stands : Stands (step s (fall f))
  unfolding fallen_state
  fallen_stands =
      either_way s Stands (fall f)
      (λ none. (refl, refl, ap (λ (x : OamContention). x.was_transferring) (fall_oam f s.double_speed s.vram_dma)))
      (λ number. (refl, refl, refl))

  pub fall_between : BetweenCycles s (step s (fall f)).state
  fall_between =
      let stands = fallen_stands in
      record { reached = step_keeps s reached (fall f); object = stands.0; speed = stands.1; was = stands.2 }

pub more_between : (s t u : Cgb) → BetweenCycles s t → BetweenCycles t u → BetweenCycles s u
more_between s t u a b =
    record { reached = b.reached; object = b.object ∙ a.object; speed = b.speed ∙ a.speed; was = b.was ∙ a.was }
