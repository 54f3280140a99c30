-- The stages do what document 01 says of them (specs, `StageSteps`). Assumes nothing.
use Prim.Native.Nat.{ℕ, ◌-◌, ◌/◌, ◌<◌, ◌≤◌}
use native.Mathlib.Omega.{arith}
use mathlib.Core.Path.{◌≡◌, refl, sym, ◌∙◌}
use mathlib.Core.Bool.{Bool, true, false, cond, not, ◌&&◌, ◌||◌, and-false, and-true, or-false, or-true}
use lib.Dec.{eqb}
use borrow.Author.Tests.{lt-ltb, le-ltb, le-leb, lt-leb, eq-eqb, ne_eqb}
use Rattle.countdown.specs.Countdown.{armed, cleared, active_of, stepped}
use Rattle.arithmetic.specs.SmallSteps.{saturating_inc}
use Rattle.console.specs.Set.{with_block_remaining, with_block_start_edge, with_block_taken, with_block_ready_in, with_block_setup_cells}
use Rattle.console.specs.Set.{with_block_from_arm, with_block_arm_ready_probation, with_block_seize_falls, with_arb_pend, with_arb_pend_from_arm}
use Rattle.console.specs.Set.{with_arb_pend_age, with_arb_pend_granted, with_arb_armed_this_fall, with_arb_grant_counted, with_arb_granted_ahead}
use Rattle.console.specs.Set.{with_arb_prev_cpu_halted, with_arb_halt_wake_blind, with_arb_wake_pend_blind, with_arb_wake_tenure}
use Rattle.console.specs.Set.{with_arb_park_waits_for_fetch, with_arb_idle_claim, with_dma_block, with_dma_arb}
use Rattle.console.specs.declared.vram_dma.HaltArbiter.{HaltArbiter}
use Rattle.console.specs.declared.vram_dma.VramDma.{VramDma}
use Rattle.transfer.specs.Questions.{seizes_bus}
use Rattle.fall_stages.specs.Fall.{observed_arb, observed_of, reverts, judged_block, ungranted_arb, probation_of, joins_halt}
use Rattle.fall_stages.specs.Fall.{dropped_block, halt_latch_arb, halt_latch_of, refilled_of, aged_arb, pended_arb, halt_pends, grants}
use Rattle.fall_stages.specs.Fall.{granted_arb, gated_of, blinds_arb, blinds_of, commit_block, commit_arb, commit_of, tenure_arb}
use Rattle.fall_stages.specs.Fall.{tenure_of, pends, pend_arb, pend_of, readied_block, readiness_of, seized_block, seizure_of}
use Rattle.fall_stages.specs.StageSteps.{StageSteps}
use Rattle.fall_stages.specs.declared.View.{View}

-- the new pend, by its test
pend_is : (p : Bool) (a : HaltArbiter) → (pend_arb p a).pend ≡ p
unfolding pend_arb
pend_is true a = refl
pend_is false a = refl

pend_rest :
    (p : Bool) (a : HaltArbiter) →
    pend_arb p a ≡
    with_arb_pend (pend_arb p a).pend
    (with_arb_pend_from_arm (pend_arb p a).pend_from_arm (with_arb_pend_age (pend_arb p a).pend_age (with_arb_armed_this_fall false a)))
unfolding pend_arb
pend_rest true a = refl
pend_rest false a = refl

-- a choice by a test and by its contrary
unless : (b : Bool) (x y : ℕ) → cond (not b) x y ≡ cond b y x
unless true x y = refl
unless false x y = refl

pub none_of : (a b c : Bool) → not (a || (b || c)) ≡ (not a && not b && not c)
none_of true b c = refl
none_of false true c = refl
none_of false false c = refl

module _ (v : View) (d : VramDma) where
  taken_running : v.in_hblank ≡ false → v.cpu_halted ≡ false → (observed_of v d).block.taken ≡ false
  unfolding observed_of observed_arb
  taken_running out runs = rw (out, runs, and-false)

  taken_halted :
      v.in_hblank ≡ false → v.cpu_halted ≡ true →
      saturating_inc d.arb.halted_falls ≤ cond v.double_speed 2 4 → (observed_of v d).block.taken ≡ false
  unfolding observed_of observed_arb
  taken_halted out halts few = rw (out, halts, le-leb _ _ few, and-false)

  taken_late :
      v.cpu_halted ≡ true → cond v.double_speed 2 4 < saturating_inc d.arb.halted_falls →
      (observed_of v d).block.taken ≡ d.block.taken
  unfolding observed_of observed_arb
  taken_late halts many = rw (halts, lt-leb _ _ many, and-false, and-true)

  taken_inside : v.in_hblank ≡ true → (observed_of v d).block.taken ≡ d.block.taken
  unfolding observed_of observed_arb
  taken_inside inside = rw (inside, and-true)

  wakes : v.was_halted ≡ true → v.cpu_halted ≡ false → (observed_of v d).arb.halt_wake_blind ≡ armed 3
  unfolding observed_of observed_arb
  wakes slept runs = rw (slept, runs)

  wakes_not :
      (v.was_halted && not v.cpu_halted) ≡ false → (observed_of v d).arb.halt_wake_blind ≡ d.arb.halt_wake_blind
  unfolding observed_of observed_arb
  wakes_not sleeps = rw sleeps

  judged :
      d.block.arm_ready_probation ≡ true → v.in_hblank ≡ false → d.block.from_arm ≡ true → d.block.remaining ≡ 16 →
      ((probation_of v d).block ≡ with_block_remaining 0 (with_block_from_arm false (with_block_arm_ready_probation false d.block))) ×
      ((probation_of v d).arb ≡ with_arb_granted_ahead (d.arb.granted_ahead - 1) d.arb)
  unfolding probation_of judged_block ungranted_arb
  judged probed out strobe whole =
      let r : reverts v d.block ≡ true = rw (probed, out, strobe, eq-eqb _ _ whole) in (rw (r, and-false), rw r)

  judged_not :
      reverts v d.block ≡ false →
      ((probation_of v d).block ≡ with_block_arm_ready_probation false d.block) × ((probation_of v d).arb ≡ d.arb)
  unfolding probation_of judged_block ungranted_arb
  judged_not r = (rw (r, and-true), rw r)

  latches :
      v.cpu_halted ≡ true → v.was_halted ≡ false → d.block.remaining ≡ 16 → 0 < d.block.ready_in.0 →
      ((halt_latch_of v d).arb.pend ≡ true) ×
      ((halt_latch_of v d).arb.pend_granted ≡ true) ×
      ((halt_latch_of v d).arb.grant_counted ≡ true) ×
      ((halt_latch_of v d).block.remaining ≡ 0)
  unfolding halt_latch_of halt_latch_arb dropped_block
  latches halts woke whole waits =
      let j : joins_halt v d.block ≡ true = rw (halts, woke, eq-eqb _ _ whole, lt-ltb 0 _ waits) in
      (rw j, rw j, rw j, rw j)

  latches_only :
      joins_halt v d.block ≡ true →
      ((halt_latch_of v d).arb ≡
      with_arb_pend true (with_arb_pend_granted true (with_arb_grant_counted true (with_arb_pend_age 0 (with_arb_prev_cpu_halted v.cpu_halted d.arb))))) ×
      ((halt_latch_of v d).block ≡ with_block_remaining 0 (with_block_ready_in cleared (with_block_setup_cells cleared d.block)))
  unfolding halt_latch_of halt_latch_arb dropped_block
  latches_only j = (rw j, rw j)

  latches_not :
      joins_halt v d.block ≡ false →
      ((halt_latch_of v d).arb ≡ with_arb_prev_cpu_halted v.cpu_halted d.arb) × ((halt_latch_of v d).block ≡ d.block)
  unfolding halt_latch_of halt_latch_arb dropped_block
  latches_not j = (rw j, rw j)

  ages : d.arb.pend ≡ true → halt_pends v d ≡ false → (gated_of v d).arb.pend_age ≡ saturating_inc d.arb.pend_age
  unfolding gated_of refilled_of granted_arb pended_arb aged_arb
  ages stands none = rw (none, stands)

  ages_not : d.arb.pend ≡ false → halt_pends v d ≡ false → (gated_of v d).arb.pend_age ≡ d.arb.pend_age
  unfolding gated_of refilled_of granted_arb pended_arb aged_arb
  ages_not none quiet = rw (quiet, none)

  halt_pends_lem : halt_pends v d ≡ true → ((gated_of v d).arb.pend ≡ true) × ((gated_of v d).arb.pend_age ≡ 0)
  unfolding gated_of refilled_of granted_arb pended_arb
  halt_pends_lem p = (rw p, rw p)

  halt_pends_arm : halt_pends v d ≡ true → (gated_of v d).arb.pend_from_arm ≡ false
  unfolding gated_of refilled_of granted_arb pended_arb
  halt_pends_arm p = rw p

  halt_pends_not :
      halt_pends v d ≡ false →
      ((gated_of v d).arb.pend ≡ d.arb.pend) × ((gated_of v d).arb.pend_from_arm ≡ d.arb.pend_from_arm)
  unfolding gated_of refilled_of granted_arb pended_arb aged_arb
  halt_pends_not p = (rw p, rw p)

  granted : (p : Bool) → (pended_arb p (aged_arb d.arb)).granted_ahead ≡ d.arb.granted_ahead
  unfolding pended_arb aged_arb
  granted true = refl
  granted false = refl

  halt_grants :
      grants v (d.cursor.remaining / 16) d.arb ≡ true →
      ((gated_of v d).arb.granted_ahead ≡ saturating_inc d.arb.granted_ahead) × ((gated_of v d).arb.pend_granted ≡ true)
  unfolding gated_of refilled_of granted_arb
  halt_grants g = (rw (g, granted (halt_pends v d)), rw (g, or-true))

  not_granted : grants v (d.cursor.remaining / 16) d.arb ≡ false → (gated_of v d).arb.granted_ahead ≡ d.arb.granted_ahead
  unfolding gated_of refilled_of granted_arb
  not_granted g = rw (g, granted (halt_pends v d))

  -- a pend set in the halt leaves the grant marks
  marked : (p : Bool) → (pended_arb p (aged_arb d.arb)).pend_granted ≡ d.arb.pend_granted
  unfolding pended_arb aged_arb
  marked true = refl
  marked false = refl

  counted : (p : Bool) → (pended_arb p (aged_arb d.arb)).grant_counted ≡ d.arb.grant_counted
  unfolding pended_arb aged_arb
  counted true = refl
  counted false = refl

  halt_counts : grants v (d.cursor.remaining / 16) d.arb ≡ true → (gated_of v d).arb.grant_counted ≡ true
  unfolding gated_of refilled_of granted_arb
  halt_counts g = rw (g, or-true)

  not_marked :
      grants v (d.cursor.remaining / 16) d.arb ≡ false →
      ((gated_of v d).arb.pend_granted ≡ d.arb.pend_granted) × ((gated_of v d).arb.grant_counted ≡ d.arb.grant_counted)
  unfolding gated_of refilled_of granted_arb
  not_marked g = (rw (g, marked (halt_pends v d), or-false), rw (g, counted (halt_pends v d), or-false))

  -- of the arbiter only six fields change under the gate, whether or not a pend is set
  rests :
      (p g : Bool) →
      let a = granted_arb g (pended_arb p (aged_arb d.arb)) in
      a ≡
      with_arb_pend a.pend
      (with_arb_pend_from_arm a.pend_from_arm
      (with_arb_pend_age a.pend_age
      (with_arb_pend_granted a.pend_granted
      (with_arb_grant_counted a.grant_counted (with_arb_granted_ahead a.granted_ahead d.arb)))))
  unfolding granted_arb pended_arb aged_arb
  rests true g = refl
  rests false g = refl

  gate_rests :
      ((gated_of v d).block ≡ d.block) ×
      ((gated_of v d).arb ≡
      with_arb_pend (gated_of v d).arb.pend
      (with_arb_pend_from_arm (gated_of v d).arb.pend_from_arm
      (with_arb_pend_age (gated_of v d).arb.pend_age
      (with_arb_pend_granted (gated_of v d).arb.pend_granted
      (with_arb_grant_counted (gated_of v d).arb.grant_counted
      (with_arb_granted_ahead (gated_of v d).arb.granted_ahead d.arb))))))
  unfolding gated_of refilled_of
  gate_rests = (refl, rests (halt_pends v d) (grants v (d.cursor.remaining / 16) d.arb))

  blinds_no_entry : v.entry_edge ≡ false → (blinds_of v d).block.taken ≡ d.block.taken
  unfolding blinds_of
  blinds_no_entry inside = simp (inside, and-false, or-false)

  blinds_over :
      d.arb.halt_wake_blind.0 ≡ 0 → d.arb.wake_pend_blind.0 ≡ 0 → (blinds_of v d).block.taken ≡ d.block.taken
  unfolding blinds_of
  blinds_over three six = rw (le-ltb 0 d.arb.halt_wake_blind.0 (omega arith), le-ltb 0 d.arb.wake_pend_blind.0 (omega arith), or-false)

  blind6_first :
      d.arb.halt_wake_blind.0 ≡ 0 → d.arb.wake_pend_blind.0 ≡ 6 → (blinds_of v d).block.taken ≡ d.block.taken
  unfolding blinds_of
  blind6_first three six = rw (le-ltb 0 d.arb.halt_wake_blind.0 (omega arith), eq-eqb _ _ six, and-false, or-false)

  blinds_only :
      blinds_of v d ≡
      with_dma_block (with_block_taken (blinds_of v d).block.taken d.block)
      (with_dma_arb
      (with_arb_halt_wake_blind (stepped d.arb.halt_wake_blind) (with_arb_wake_pend_blind (stepped d.arb.wake_pend_blind) d.arb)) d)
  unfolding blinds_of blinds_arb
  blinds_only = refl

  commits_block :
      (commit_of true v d).block ≡
      with_block_remaining 16
      (with_block_start_edge v.master_edge
      (with_block_taken true
      (with_block_from_arm d.arb.pend_from_arm
      (with_block_ready_in (armed (cond (d.arb.pend_granted && not v.in_hblank && not v.cpu_halted) 0 2))
      (with_block_setup_cells
      (armed (cond (d.arb.pend_from_arm || (d.arb.pend_granted && not v.in_hblank && not v.cpu_halted)) 0 1)) d.block)))))
  unfolding commit_of commit_block
  commits_block = refl

  commits_arb :
      (commit_of true v d).arb ≡
      with_arb_idle_claim false
      (with_arb_pend_granted false
      (with_arb_grant_counted false
      (with_arb_granted_ahead (cond d.arb.grant_counted d.arb.granted_ahead (saturating_inc d.arb.granted_ahead))
      (with_arb_park_waits_for_fetch (not d.arb.pend_from_arm && not v.cpu_halted && not v.was_halted)
      (with_arb_wake_tenure (cond (d.arb.pend_granted && not v.in_hblank) (armed 36) d.arb.wake_tenure) d.arb)))))
  unfolding commit_of commit_arb
  commits_arb =
      let count = unless d.arb.grant_counted (saturating_inc d.arb.granted_ahead) d.arb.granted_ahead in
      let park = none_of d.arb.pend_from_arm v.cpu_halted v.was_halted in
      λ k.
      with_arb_idle_claim false
      (with_arb_pend_granted false
      (with_arb_grant_counted false
      (with_arb_granted_ahead (count k)
      (with_arb_park_waits_for_fetch (park k)
      (with_arb_wake_tenure (cond (d.arb.pend_granted && not v.in_hblank) (armed 36) d.arb.wake_tenure) d.arb)))))

  commits_only : (c : Bool) → commit_of c v d ≡ with_dma_block (commit_of c v d).block (with_dma_arb (commit_of c v d).arb d)
  unfolding commit_of
  commits_only c = refl

  commits_not :
      ((commit_of false v d).block ≡ d.block) ×
      ((commit_of false v d).arb ≡ with_arb_pend_granted (d.arb.pend_granted && v.cpu_halted) d.arb)
  unfolding commit_of commit_block commit_arb
  commits_not = (refl, refl)

  tenure_not :
      (c : Bool) → (c && d.arb.pend_granted && not v.in_hblank) ≡ false →
      (commit_of c v d).arb.wake_tenure ≡ d.arb.wake_tenure
  unfolding commit_of commit_arb
  tenure_not true idle = rw idle
  tenure_not false idle = refl

  claims :
      0 < d.arb.wake_tenure.0 → v.entry_edge ≡ true → 0 < d.cursor.remaining → (tenure_of v d).arb.idle_claim ≡ true
  unfolding tenure_of tenure_arb
  claims runs entry some = rw (lt-ltb 0 d.arb.wake_tenure.0 runs, entry, lt-ltb 0 d.cursor.remaining some, or-true)

  consumes_not :
      (active_of d.arb.wake_tenure && v.entry_edge) ≡ false →
      ((tenure_of v d).block.taken ≡ d.block.taken) × ((tenure_of v d).arb.idle_claim ≡ d.arb.idle_claim)
  unfolding tenure_of tenure_arb
  consumes_not idle = (rw (idle, or-false), rw (idle, or-false))

  tenure_only :
      tenure_of v d ≡
      with_dma_block (with_block_taken (tenure_of v d).block.taken d.block)
      (with_dma_arb (with_arb_wake_tenure (stepped d.arb.wake_tenure) (with_arb_idle_claim (tenure_of v d).arb.idle_claim d.arb)) d)
  unfolding tenure_of tenure_arb
  tenure_only = refl

  tenure : d.arb.pend_granted ≡ true → v.in_hblank ≡ false → (commit_of true v d).arb.wake_tenure ≡ armed 36
  unfolding commit_of commit_arb
  tenure granted out = rw (granted, out)

  consumes_entry : 0 < d.arb.wake_tenure.0 → v.entry_edge ≡ true → (tenure_of v d).block.taken ≡ true
  unfolding tenure_of
  consumes_entry runs entry = rw (lt-ltb 0 _ runs, entry, or-true)

  blind3 : 0 < d.arb.halt_wake_blind.0 → v.entry_edge ≡ true → (blinds_of v d).block.taken ≡ true
  unfolding blinds_of
  blind3 runs entry = rw (lt-ltb 0 _ runs, entry, or-true)

  blind6 :
      0 < d.arb.wake_pend_blind.0 → (d.arb.wake_pend_blind.0 ≡ 6 → ⊥) → v.entry_edge ≡ true → (blinds_of v d).block.taken ≡ true
  unfolding blinds_of
  blind6 runs later entry = rw (lt-ltb 0 d.arb.wake_pend_blind.0 runs, entry, ne_eqb _ _ later, or-true, or-true)

  pend_both : (c : Bool) → (pend_of c v d).arb.pend ≡ pends c v d
  unfolding pend_of
  pend_both c = pend_is (pends c v d) d.arb

  new_pend_marks :
      (c : Bool) → (pend_of c v d).arb.pend ≡ true →
      ((pend_of c v d).arb.pend_from_arm ≡ d.arb.armed_this_fall) × ((pend_of c v d).arb.pend_age ≡ 0)
  unfolding pend_of pend_arb
  new_pend_marks c e = let p : pends c v d ≡ true = sym (pend_both c) ∙ e in (rw p, rw p)

  no_pend_marks :
      (c : Bool) → (pend_of c v d).arb.pend ≡ false →
      ((pend_of c v d).arb.pend_from_arm ≡ d.arb.pend_from_arm) × ((pend_of c v d).arb.pend_age ≡ d.arb.pend_age)
  unfolding pend_of pend_arb
  no_pend_marks c e = let p : pends c v d ≡ false = sym (pend_both c) ∙ e in (rw p, rw p)

  new_pend_only :
      (c : Bool) →
      pend_of c v d ≡
      with_dma_arb
      (with_arb_pend (pend_of c v d).arb.pend
      (with_arb_pend_from_arm (pend_of c v d).arb.pend_from_arm
      (with_arb_pend_age (pend_of c v d).arb.pend_age (with_arb_armed_this_fall false d.arb)))) d
  unfolding pend_of
  new_pend_only c = rw (← pend_rest (pends c v d) d.arb)

  readies :
      (double : Bool) →
      readiness_of double d ≡
      with_dma_block
      (with_block_ready_in (stepped d.block.ready_in)
      (with_block_arm_ready_probation (readiness_of double d).block.arm_ready_probation d.block)) d
  unfolding readiness_of readied_block
  readies double = refl

  probation :
      (double : Bool) →
      (readiness_of double d).block.arm_ready_probation ≡
      (d.block.arm_ready_probation || (eqb d.block.ready_in.0 1 && d.block.from_arm && eqb d.block.remaining 16 && not double))
  unfolding readiness_of readied_block
  probation double = refl

  seizes : seizes_bus d ≡ true → seizure_of d ≡ with_dma_block (with_block_seize_falls (saturating_inc d.block.seize_falls) d.block) d
  unfolding seizure_of seized_block
  seizes s = rw s

  seizes_not : seizes_bus d ≡ false → seizure_of d ≡ with_dma_block (with_block_seize_falls 0 d.block) d
  unfolding seizure_of seized_block
  seizes_not s = rw s

pub stage_steps : (v : View) (d : VramDma) → StageSteps v d
stage_steps v d =
    record {
      taken_running = taken_running v d;
      taken_halted = taken_halted v d;
      taken_late = taken_late v d;
      taken_inside = taken_inside v d;
      wakes = wakes v d;
      wakes_not = wakes_not v d;
      judged = judged v d;
      judged_not = judged_not v d;
      latches = latches v d;
      latches_only = latches_only v d;
      latches_not = latches_not v d;
      ages = ages v d;
      ages_not = ages_not v d;
      halt_pends_lem = halt_pends_lem v d;
      halt_pends_arm = halt_pends_arm v d;
      halt_pends_not = halt_pends_not v d;
      halt_grants = halt_grants v d;
      halt_counts = halt_counts v d;
      not_granted = not_granted v d;
      not_marked = not_marked v d;
      gate_rests = gate_rests v d;
      blind3 = blind3 v d;
      blind6 = blind6 v d;
      blinds_no_entry = blinds_no_entry v d;
      blinds_over = blinds_over v d;
      blind6_first = blind6_first v d;
      blinds_only = blinds_only v d;
      commits_block = commits_block v d;
      commits_arb = commits_arb v d;
      commits_only = commits_only v d;
      commits_not = commits_not v d;
      tenure = tenure v d;
      tenure_not = tenure_not v d;
      consumes = consumes_entry v d;
      claims = claims v d;
      consumes_not = consumes_not v d;
      tenure_only = tenure_only v d;
      new_pend = pend_both v d;
      new_pend_marks = new_pend_marks v d;
      no_pend_marks = no_pend_marks v d;
      new_pend_only = new_pend_only v d;
      readies = readies v d;
      probation = probation v d;
      seizes = seizes v d;
      seizes_not = seizes_not v d;
    }
