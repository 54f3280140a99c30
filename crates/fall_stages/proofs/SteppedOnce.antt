-- The blind of 3, the blind of 6, the tenure of 36 and readiness are stepped once by an ungated fall and rest under the gate
-- (specs/Windows.antt, `SteppedOnce`). Assumes nothing.
use Prim.Native.Nat.{ℕ}
use mathlib.Core.Path.{◌≡◌, refl, sym, ap, ◌∙◌}
use mathlib.Core.Bool.{Bool, true, false, cond, not, ◌&&◌, ◌||◌, true≢false}
use lib.Dec.{eqb}
use Rattle.std.proofs.lemmas.Bool.{and_left}
use Rattle.countdown.specs.Countdown.{armed, cleared, stepped}
use Rattle.countdown.specs.declared.Countdown.{Countdown}
use Rattle.console.specs.declared.VramDmaClaim.{VramDmaClaim}
use Rattle.console.specs.declared.vram_dma.HaltArbiter.{HaltArbiter}
use Rattle.console.specs.declared.vram_dma.HblankBlock.{HblankBlock}
use Rattle.console.specs.declared.vram_dma.VramDma.{VramDma}
use Rattle.fall_stages.specs.Fall.{view_of, gates, settled_of, observed_arb, observed_of, judged_block, ungranted_arb, probation_of}
use Rattle.fall_stages.specs.Fall.{joins_halt, dropped_block, halt_latch_arb, halt_latch_of, refilled_of, aged_arb, pended_arb, granted_arb}
use Rattle.fall_stages.specs.Fall.{halt_pends, gated_of, blinds_arb, blinds_of, commits, precharged, commit_block, commit_arb, commit_of}
use Rattle.fall_stages.specs.Fall.{tenure_arb, tenure_of, pend_arb, pend_of, readied_block, readiness_of, seized_block, seizure_of}
use Rattle.fall_stages.specs.Fall.{started_of, served_of, fall_of, fell}
use Rattle.fall_stages.specs.Steps.{settles}
use Rattle.fall_stages.specs.Windows.{Window, at_step, blind_of_3, blind_of_6, tenure_of_36, latch_drops, readiness, SteppedOnce}
use Rattle.fall_stages.specs.declared.FallInput.{FallInput}
use Rattle.fall_stages.specs.declared.Fallen.{Fallen}
use Rattle.fall_stages.specs.declared.View.{View}
use Rattle.fall_stages.proofs.Steps.{Course, settled, gated, overflowed, served, course, v, s, t, resting, ungates}

-- ---- any countdown
-- a countdown along the course of a fall: at rest, under the gate, in step 6
record Along (w : Window) : Type 0 where
  pub rest :
      (i : FallInput) (double : Bool) (d : VramDma) → settles i d ≡ true → (fall_of i double d).claim.committed ≡ false →
      w.countdown (settled_of (eqb i.mode 0) d) ≡ stepped (at_step w i double d)
  pub gate :
      (i : FallInput) (double : Bool) (d : VramDma) → (fall_of i double d).claim.committed ≡ false →
      w.countdown (gated_of (v i double d) (s i double d)) ≡ at_step w i double d
  pub serve :
      (i : FallInput) (double : Bool) (d : VramDma) →
      (fall_of i double d).claim.committed ≡ commits (v i double d) (t i double d) →
      w.countdown (served_of (commits (v i double d) (t i double d)) (v i double d) (t i double d)) ≡ stepped (at_step w i double d)

pub committed : {f : Fallen} {e : VramDma} {claim : VramDmaClaim} → f ≡ fell claim e → f.claim.committed ≡ claim.committed
committed e = ap (λ (f : Fallen). f.claim.committed) e

module _ (w : Window) (a : Along w) where
  after_fall : {f : Fallen} {e : VramDma} {claim : VramDmaClaim} → f ≡ fell claim e → w.countdown f.dma ≡ w.countdown e
  after_fall e = ap (λ (f : Fallen). w.countdown f.dma) e

  ungated :
      (i : FallInput) (double : Bool) (d : VramDma) → Course i double d → (fall_of i double d).refused ≡ false → gates i ≡ false →
      w.countdown (fall_of i double d).dma ≡ stepped (at_step w i double d)
  ungated i double d (settled p e) n g = after_fall e ∙ a.rest i double d p (committed e)
  ungated i double d (gated p h e) n g = absurd (true≢false (sym h ∙ g))
  ungated i double d (overflowed p h o e) n g = absurd (true≢false (sym (ap (λ (f : Fallen). f.refused) e) ∙ n))
  ungated i double d (served p h o e) n g = after_fall e ∙ a.serve i double d (committed e)

  under_gate :
      (i : FallInput) (double : Bool) (d : VramDma) → Course i double d → gates i ≡ true →
      w.countdown (fall_of i double d).dma ≡ at_step w i double d
  under_gate i double d (settled p e) g = absurd (true≢false (sym g ∙ ungates i double d p))
  under_gate i double d (gated p h e) g = after_fall e ∙ a.gate i double d (committed e)
  under_gate i double d (overflowed p h o e) g = absurd (true≢false (sym g ∙ h))
  under_gate i double d (served p h o e) g = absurd (true≢false (sym g ∙ h))

  stepped_once : SteppedOnce w
  stepped_once =
      record {
        ungated = λ i double d. ungated i double d (course i double d);
        gated = λ i double d. under_gate i double d (course i double d);
      }

-- ---- what single parts keep, whichever way their choice goes
record SameTimers (a b : HaltArbiter) : Type 0 where
  pub blind3 : a.halt_wake_blind ≡ b.halt_wake_blind
  pub blind6 : a.wake_pend_blind ≡ b.wake_pend_blind
  pub tenure : a.wake_tenure ≡ b.wake_tenure

latch_timers : (h j : Bool) (a : HaltArbiter) → SameTimers (halt_latch_arb h j a) a
unfolding halt_latch_arb
latch_timers h true a = record { blind3 = refl; blind6 = refl; tenure = refl }
latch_timers h false a = record { blind3 = refl; blind6 = refl; tenure = refl }

pended_timers : (p : Bool) (a : HaltArbiter) → SameTimers (pended_arb p a) a
unfolding pended_arb
pended_timers true a = record { blind3 = refl; blind6 = refl; tenure = refl }
pended_timers false a = record { blind3 = refl; blind6 = refl; tenure = refl }

pend_timers : (p : Bool) (a : HaltArbiter) → SameTimers (pend_arb p a) a
unfolding pend_arb
pend_timers true a = record { blind3 = refl; blind6 = refl; tenure = refl }
pend_timers false a = record { blind3 = refl; blind6 = refl; tenure = refl }

pend_tenure : (p : Bool) (a : HaltArbiter) → (pend_arb p a).wake_tenure ≡ a.wake_tenure
pend_tenure p a = (pend_timers p a).tenure

dropped_ready : (j : Bool) (b : HblankBlock) → (dropped_block j b).ready_in ≡ cond j cleared b.ready_in
unfolding dropped_block
dropped_ready true b = refl
dropped_ready false b = refl

commit_blind3 : (c : Bool) (v : View) (a : HaltArbiter) → (commit_arb c v a).halt_wake_blind ≡ a.halt_wake_blind
unfolding commit_arb
commit_blind3 true v a = refl
commit_blind3 false v a = refl

commit_blind6 : (c : Bool) (v : View) (a : HaltArbiter) → (commit_arb c v a).wake_pend_blind ≡ a.wake_pend_blind
unfolding commit_arb
commit_blind6 true v a = refl
commit_blind6 false v a = refl

pub commit_tenure :
    (c : Bool) (v : View) (a : HaltArbiter) →
    (commit_arb c v a).wake_tenure ≡ cond (c && a.pend_granted && not v.in_hblank) (armed 36) a.wake_tenure
unfolding commit_arb
commit_tenure true v a = refl
commit_tenure false v a = refl

-- ready in 2, or in 0 where the grant charged it
charged : (p : Bool) (x : Countdown) → armed (cond p 0 2) ≡ cond (not p) (armed 2) (cond p cleared x)
charged true x = refl
charged false x = refl

commit_ready :
    (c : Bool) (v : View) (a : HaltArbiter) (b : HblankBlock) →
    (commit_block c v a b).ready_in ≡
    cond (c && not (c && a.pend_granted && not v.in_hblank && not v.cpu_halted)) (armed 2)
    (cond (c && a.pend_granted && not v.in_hblank && not v.cpu_halted) cleared b.ready_in)
unfolding commit_block
commit_ready true v a b = charged (precharged v a) b.ready_in
commit_ready false v a b = refl

-- ---- the stages
module _ (v : View) (d : VramDma) where
  pub started_blind3 :
      (started_of v d).arb.halt_wake_blind ≡
      cond (v.was_halted && not v.cpu_halted) (armed 3) d.arb.halt_wake_blind
  unfolding started_of halt_latch_of probation_of ungranted_arb observed_of observed_arb
  started_blind3 = (latch_timers _ _ _).blind3

  pub started_blind6 : (started_of v d).arb.wake_pend_blind ≡ d.arb.wake_pend_blind
  unfolding started_of halt_latch_of probation_of ungranted_arb observed_of observed_arb
  started_blind6 = (latch_timers _ _ _).blind6

  pub started_tenure : (started_of v d).arb.wake_tenure ≡ d.arb.wake_tenure
  unfolding started_of halt_latch_of probation_of ungranted_arb observed_of observed_arb
  started_tenure = (latch_timers _ _ _).tenure

  -- what the halt latch finds
  abbrev judged : HblankBlock
  judged = (probation_of v (observed_of v d)).block

  judged_ready : judged.ready_in ≡ d.block.ready_in
  unfolding probation_of judged_block observed_of
  judged_ready = refl

  started_ready : (started_of v d).block.ready_in ≡ cond (joins_halt v judged) cleared d.block.ready_in
  unfolding started_of halt_latch_of
  started_ready = dropped_ready (joins_halt v judged) judged ∙ ap (cond (joins_halt v judged) cleared) judged_ready

  gated_timers : SameTimers (gated_of v d).arb d.arb
  unfolding gated_of refilled_of granted_arb aged_arb
  gated_timers = let p = pended_timers (halt_pends v d) (aged_arb d.arb) in record { blind3 = p.blind3; blind6 = p.blind6; tenure = p.tenure }

  gated_ready : (gated_of v d).block.ready_in ≡ d.block.ready_in
  unfolding gated_of refilled_of
  gated_ready = refl

module _ (c : Bool) (v : View) (d : VramDma) where
  served_blind3 : (served_of c v d).arb.halt_wake_blind ≡ d.arb.halt_wake_blind
  unfolding served_of seizure_of refilled_of readiness_of pend_of tenure_of tenure_arb commit_of
  served_blind3 = (pend_timers _ _).blind3 ∙ commit_blind3 c v d.arb

  served_blind6 : (served_of c v d).arb.wake_pend_blind ≡ d.arb.wake_pend_blind
  unfolding served_of seizure_of refilled_of readiness_of pend_of tenure_of tenure_arb commit_of
  served_blind6 = (pend_timers _ _).blind6 ∙ commit_blind6 c v d.arb

  served_tenure :
      (served_of c v d).arb.wake_tenure ≡
      stepped (cond (c && d.arb.pend_granted && not v.in_hblank) (armed 36) d.arb.wake_tenure)
  unfolding served_of seizure_of refilled_of readiness_of pend_of tenure_of tenure_arb commit_of
  served_tenure = rw (pend_tenure, commit_tenure)

  served_ready :
      (served_of c v d).block.ready_in ≡
      stepped
      (cond (c && not (c && d.arb.pend_granted && not v.in_hblank && not v.cpu_halted)) (armed 2)
      (cond (c && d.arb.pend_granted && not v.in_hblank && not v.cpu_halted) cleared d.block.ready_in))
  unfolding served_of seizure_of seized_block refilled_of readiness_of readied_block pend_of tenure_of commit_of
  served_ready = ap stepped (commit_ready c v d.arb d.block)

-- ---- the four, along the course
-- a countdown at rest stays where no fall arms it
rests : (a b : Bool) (n : ℕ) (c : Countdown) → a ≡ false → cleared ≡ c → c ≡ stepped (cond a (armed n) (cond b cleared c))
rests true b n c e r = absurd (true≢false e)
rests false true n c e r = sym r
rests false false n c e r = sym r ∙ ap stepped r

module _ (i : FallInput) (double : Bool) (d : VramDma) where
  rest3 : settles i d ≡ true → d.arb.halt_wake_blind ≡ stepped (at_step blind_of_3 i double d)
  rest3 p =
      let r = resting i double d p in
      rests (d.arb.prev_cpu_halted && not i.halted) false 3 d.arb.halt_wake_blind
      (and_left d.arb.prev_cpu_halted (not i.halted) r.awake) (sym r.blind3)

  rest6 : settles i d ≡ true → d.arb.wake_pend_blind ≡ stepped (at_step blind_of_6 i double d)
  rest6 p = rests false false 6 d.arb.wake_pend_blind refl (sym (resting i double d p).blind6)

  rest36 :
      settles i d ≡ true → (fall_of i double d).claim.committed ≡ false →
      d.arb.wake_tenure ≡ stepped (at_step tenure_of_36 i double d)
  rest36 p c = rests (tenure_of_36.arms i double d) false 36 d.arb.wake_tenure (rw c) (sym (resting i double d p).tenure)

  rest2 :
      settles i d ≡ true → (fall_of i double d).claim.committed ≡ false →
      d.block.ready_in ≡ stepped (at_step readiness i double d)
  rest2 p c =
      rests (readiness.arms i double d) (readiness.clears i double d) 2 d.block.ready_in
      (and_left (fall_of i double d).claim.committed _ c) (sym (resting i double d p).ready)

along3 : Along blind_of_3
unfolding settled_of view_of blinds_of blinds_arb
along3 =
    record {
      rest = λ i double d p c. rest3 i double d p;
      gate = λ i double d c. (gated_timers (v i double d) (s i double d)).blind3 ∙ started_blind3 (v i double d) d;
      serve =
          λ i double d c.
          served_blind3 (commits (v i double d) (t i double d)) (v i double d) (t i double d)
          ∙ ap stepped (started_blind3 (v i double d) d);
    }

along6 : Along blind_of_6
unfolding settled_of view_of blinds_of blinds_arb
along6 =
    record {
      rest = λ i double d p c. rest6 i double d p;
      gate = λ i double d c. (gated_timers (v i double d) (s i double d)).blind6 ∙ started_blind6 (v i double d) d;
      serve =
          λ i double d c.
          served_blind6 (commits (v i double d) (t i double d)) (v i double d) (t i double d)
          ∙ ap stepped (started_blind6 (v i double d) d);
    }

-- a fall without a commit arms no tenure
along36 : Along tenure_of_36
unfolding settled_of view_of blinds_of blinds_arb
along36 =
    record {
      rest = rest36;
      gate = λ i double d c. rw c ((gated_timers (v i double d) (s i double d)).tenure ∙ started_tenure (v i double d) d);
      serve =
          λ i double d c.
          rw c
          (served_tenure (commits (v i double d) (t i double d)) (v i double d) (t i double d)
          ∙ ap
          (λ x. stepped
          (cond (commits (v i double d) (t i double d) && (s i double d).arb.pend_granted && not (eqb i.mode 0)) (armed 36) x))
          (started_tenure (v i double d) d));
    }

-- a block that a commit has charged, or that joins the halt
either_clears : (a b j : Bool) (x y : Countdown) → cond a x (cond b cleared (cond j cleared y)) ≡ cond a x (cond (b || j) cleared y)
either_clears a true j x y = refl
either_clears a false j x y = refl

along2 : Along readiness
unfolding settled_of view_of blinds_of blinds_arb
along2 =
    record {
      rest = rest2;
      gate = λ i double d c. rw c (gated_ready (v i double d) (s i double d) ∙ started_ready (v i double d) d);
      serve =
          λ i double d c.
          let k = commits (v i double d) (t i double d) in
          let p = k && (s i double d).arb.pend_granted && not (eqb i.mode 0) && not i.halted in
          rw c
          (served_ready k (v i double d) (t i double d)
          ∙ (ap (λ x. stepped (cond (k && not p) (armed 2) (cond p cleared x))) (started_ready (v i double d) d)
          ∙ ap stepped (either_clears (k && not p) p (latch_drops i double d) (armed 2) d.block.ready_in)));
    }

pub blind3_steps : SteppedOnce blind_of_3
blind3_steps = stepped_once blind_of_3 along3

pub blind6_steps : SteppedOnce blind_of_6
blind6_steps = stepped_once blind_of_6 along6

pub tenure_steps : SteppedOnce tenure_of_36
tenure_steps = stepped_once tenure_of_36 along36

pub ready_steps : SteppedOnce readiness
ready_steps = stepped_once readiness along2
