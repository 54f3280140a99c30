-- What is shown of single stages, for the numbers and conditions of document 01's steps 3 to 6: what a stage does where its
-- condition holds, and that it does nothing otherwise.
use Rattle.std.specs.Prelude.{◌-◌, ◌/◌, ◌<◌, ◌≤◌, ◌≡◌, Bool, true, false, cond, not, ◌&&◌, ◌||◌, ltb, eqb}
use Rattle.countdown.specs.Countdown.{armed, cleared, active_of, remaining_of, stepped}
use Rattle.arithmetic.specs.SmallSteps.{saturating_inc}
use Rattle.console.specs.Set.{with_block_remaining, with_block_start_edge, with_block_taken, with_block_ready_in, with_block_setup_cells}
use Rattle.console.specs.Set.{with_block_from_arm, with_block_arm_ready_probation, with_block_seize_falls, with_arb_pend, with_arb_pend_from_arm}
use Rattle.console.specs.Set.{with_arb_pend_age, with_arb_pend_granted, with_arb_armed_this_fall, with_arb_grant_counted, with_arb_granted_ahead}
use Rattle.console.specs.Set.{with_arb_prev_cpu_halted, with_arb_halt_wake_blind, with_arb_wake_pend_blind, with_arb_wake_tenure}
use Rattle.console.specs.Set.{with_arb_park_waits_for_fetch, with_arb_idle_claim, with_dma_block, with_dma_arb}
use Rattle.console.specs.declared.vram_dma.VramDma.{VramDma}
use Rattle.transfer.specs.Questions.{seizes_bus}
use Rattle.fall_stages.specs.Fall.{observed_of, reverts, probation_of, joins_halt, halt_latch_of, gated_of, halt_pends, grants, blinds_of}
use Rattle.fall_stages.specs.Fall.{commit_of, tenure_of, pend_of, readiness_of, seizure_of}
use Rattle.fall_stages.specs.declared.View.{View}

pub record StageSteps (v : View) (d : VramDma) : Type 0 where
  -- 3 "Outside mode 0, taken is cleared if running"
  pub taken_running : v.in_hblank ≡ false → v.cpu_halted ≡ false → (observed_of v d).block.taken ≡ false
  -- "or halted falls ≤ 4 (2 at double speed)", this fall counted
  pub taken_halted :
      v.in_hblank ≡ false → v.cpu_halted ≡ true →
      saturating_inc d.arb.halted_falls ≤ cond v.double_speed 2 4 → (observed_of v d).block.taken ≡ false
  -- and stays otherwise
  pub taken_late :
      v.cpu_halted ≡ true → cond v.double_speed 2 4 < saturating_inc d.arb.halted_falls →
      (observed_of v d).block.taken ≡ d.block.taken
  pub taken_inside : v.in_hblank ≡ true → (observed_of v d).block.taken ≡ d.block.taken
  -- 4 "A wake arms the blind of 3"
  pub wakes : v.was_halted ≡ true → v.cpu_halted ≡ false → (observed_of v d).arb.halt_wake_blind ≡ armed 3
  pub wakes_not :
      (v.was_halted && not v.cpu_halted) ≡ false → (observed_of v d).arb.halt_wake_blind ≡ d.arb.halt_wake_blind
  -- "probation is judged": outside mode 0 a block of 16 from an arm strobe goes, and its count with it
  pub judged :
      d.block.arm_ready_probation ≡ true → v.in_hblank ≡ false → d.block.from_arm ≡ true → d.block.remaining ≡ 16 →
      ((probation_of v d).block ≡ with_block_remaining 0 (with_block_from_arm false (with_block_arm_ready_probation false d.block))) ×
      ((probation_of v d).arb ≡ with_arb_granted_ahead (d.arb.granted_ahead - 1) d.arb)
  -- else only the probation ends
  pub judged_not :
      reverts v d.block ≡ false →
      ((probation_of v d).block ≡ with_block_arm_ready_probation false d.block) × ((probation_of v d).arb ≡ d.arb)
  -- "a block of 16 not yet ready at the halt latch becomes a granted pend"
  pub latches :
      v.cpu_halted ≡ true → v.was_halted ≡ false → d.block.remaining ≡ 16 → 0 < remaining_of d.block.ready_in →
      ((halt_latch_of v d).arb.pend ≡ true) ×
      ((halt_latch_of v d).arb.pend_granted ≡ true) ×
      ((halt_latch_of v d).arb.grant_counted ≡ true) ×
      ((halt_latch_of v d).block.remaining ≡ 0)
  -- of age 0; readiness and set-up cell go with the block, and nothing else changes but the halt that is noted
  pub latches_only :
      joins_halt v d.block ≡ true →
      ((halt_latch_of v d).arb ≡
      with_arb_pend true (with_arb_pend_granted true (with_arb_grant_counted true (with_arb_pend_age 0 (with_arb_prev_cpu_halted v.cpu_halted d.arb))))) ×
      ((halt_latch_of v d).block ≡ with_block_remaining 0 (with_block_ready_in cleared (with_block_setup_cells cleared d.block)))
  pub latches_not :
      joins_halt v d.block ≡ false →
      ((halt_latch_of v d).arb ≡ with_arb_prev_cpu_halted v.cpu_halted d.arb) × ((halt_latch_of v d).block ≡ d.block)
  -- 5 "a standing pend ages"
  pub ages : d.arb.pend ≡ true → halt_pends v d ≡ false → (gated_of v d).arb.pend_age ≡ saturating_inc d.arb.pend_age
  pub ages_not : d.arb.pend ≡ false → halt_pends v d ≡ false → (gated_of v d).arb.pend_age ≡ d.arb.pend_age
  -- "a pend is set"
  pub halt_pends_lem : halt_pends v d ≡ true → ((gated_of v d).arb.pend ≡ true) × ((gated_of v d).arb.pend_age ≡ 0)
  -- which is the screen's, not an arm strobe's
  pub halt_pends_arm : halt_pends v d ≡ true → (gated_of v d).arb.pend_from_arm ≡ false
  pub halt_pends_not :
      halt_pends v d ≡ false →
      ((gated_of v d).arb.pend ≡ d.arb.pend) × ((gated_of v d).arb.pend_from_arm ≡ d.arb.pend_from_arm)
  -- "one more is granted"
  pub halt_grants :
      grants v (d.cursor.remaining / 16) d.arb ≡ true →
      ((gated_of v d).arb.granted_ahead ≡ saturating_inc d.arb.granted_ahead) × ((gated_of v d).arb.pend_granted ≡ true)
  -- and is counted
  pub halt_counts : grants v (d.cursor.remaining / 16) d.arb ≡ true → (gated_of v d).arb.grant_counted ≡ true
  pub not_granted :
      grants v (d.cursor.remaining / 16) d.arb ≡ false → (gated_of v d).arb.granted_ahead ≡ d.arb.granted_ahead
  pub not_marked :
      grants v (d.cursor.remaining / 16) d.arb ≡ false →
      ((gated_of v d).arb.pend_granted ≡ d.arb.pend_granted) × ((gated_of v d).arb.grant_counted ≡ d.arb.grant_counted)
  -- "Quota is refilled, end": under the gate no blind, tenure, readiness or seize count steps
  pub gate_rests :
      ((gated_of v d).block ≡ d.block) ×
      ((gated_of v d).arb ≡
      with_arb_pend (gated_of v d).arb.pend
      (with_arb_pend_from_arm (gated_of v d).arb.pend_from_arm
      (with_arb_pend_age (gated_of v d).arb.pend_age
      (with_arb_pend_granted (gated_of v d).arb.pend_granted
      (with_arb_grant_counted (gated_of v d).arb.grant_counted
      (with_arb_granted_ahead (gated_of v d).arb.granted_ahead d.arb))))))
  -- 6 blinds: an entry in the blind of 3 takes the HBlank, and one in the blind of 6 from its second tick on
  pub blind3 : 0 < remaining_of d.arb.halt_wake_blind → v.entry_edge ≡ true → (blinds_of v d).block.taken ≡ true
  pub blind6 :
      0 < remaining_of d.arb.wake_pend_blind → (remaining_of d.arb.wake_pend_blind ≡ 6 → ⊥) →
      v.entry_edge ≡ true → (blinds_of v d).block.taken ≡ true
  pub blinds_no_entry : v.entry_edge ≡ false → (blinds_of v d).block.taken ≡ d.block.taken
  pub blinds_over :
      remaining_of d.arb.halt_wake_blind ≡ 0 → remaining_of d.arb.wake_pend_blind ≡ 0 → (blinds_of v d).block.taken ≡ d.block.taken
  pub blind6_first :
      remaining_of d.arb.halt_wake_blind ≡ 0 → remaining_of d.arb.wake_pend_blind ≡ 6 → (blinds_of v d).block.taken ≡ d.block.taken
  -- both step, and nothing else changes
  pub blinds_only :
      blinds_of v d ≡
      with_dma_block (with_block_taken (blinds_of v d).block.taken d.block)
      (with_dma_arb
      (with_arb_halt_wake_blind (stepped d.arb.halt_wake_blind) (with_arb_wake_pend_blind (stepped d.arb.wake_pend_blind) d.arb)) d)
  -- commit, as the Rust's branch has it: block 16 at this edge, the HBlank taken; ready in 0 where the pend is granted, outside
  -- mode 0 and running, else in 2; a set-up cell unless so, or from an arm strobe, which marks the block
  pub commits_block :
      (commit_of true v d).block ≡
      with_block_remaining 16
      (with_block_start_edge v.master_edge
      (with_block_taken true
      (with_block_from_arm d.arb.pend_from_arm
      (with_block_ready_in (armed (cond (d.arb.pend_granted && not v.in_hblank && not v.cpu_halted) 0 2))
      (with_block_setup_cells
      (armed (cond (d.arb.pend_from_arm || (d.arb.pend_granted && not v.in_hblank && not v.cpu_halted)) 0 1)) d.block)))))
  -- the idle claim and the marks of a grant go; one more is granted unless already counted; park waits for the fetch unless the
  -- pend is an arm strobe's or the CPU halted, now or at the previous fall; tenure 36 where granted, outside mode 0
  pub commits_arb :
      (commit_of true v d).arb ≡
      with_arb_idle_claim false
      (with_arb_pend_granted false
      (with_arb_grant_counted false
      (with_arb_granted_ahead (cond d.arb.grant_counted d.arb.granted_ahead (saturating_inc d.arb.granted_ahead))
      (with_arb_park_waits_for_fetch (not d.arb.pend_from_arm && not v.cpu_halted && not v.was_halted)
      (with_arb_wake_tenure (cond (d.arb.pend_granted && not v.in_hblank) (armed 36) d.arb.wake_tenure) d.arb)))))
  -- nothing else changes: cursor and contention with OAM DMA stay
  pub commits_only : (c : Bool) → commit_of c v d ≡ with_dma_block (commit_of c v d).block (with_dma_arb (commit_of c v d).arb d)
  -- without a commit a running CPU drops the pend's grant, and nothing else changes
  pub commits_not :
      ((commit_of false v d).block ≡ d.block) ×
      ((commit_of false v d).arb ≡ with_arb_pend_granted (d.arb.pend_granted && v.cpu_halted) d.arb)
  -- "tenure of 36": a commit that is granted, outside mode 0, arms it
  pub tenure : d.arb.pend_granted ≡ true → v.in_hblank ≡ false → (commit_of true v d).arb.wake_tenure ≡ armed 36
  pub tenure_not :
      (c : Bool) → (c && d.arb.pend_granted && not v.in_hblank) ≡ false →
      (commit_of c v d).arb.wake_tenure ≡ d.arb.wake_tenure
  -- an entry in the tenure takes the HBlank, and claims where bytes are left
  pub consumes : 0 < remaining_of d.arb.wake_tenure → v.entry_edge ≡ true → (tenure_of v d).block.taken ≡ true
  pub claims :
      0 < remaining_of d.arb.wake_tenure → v.entry_edge ≡ true → 0 < d.cursor.remaining → (tenure_of v d).arb.idle_claim ≡ true
  pub consumes_not :
      (active_of d.arb.wake_tenure && v.entry_edge) ≡ false →
      ((tenure_of v d).block.taken ≡ d.block.taken) × ((tenure_of v d).arb.idle_claim ≡ d.arb.idle_claim)
  -- it steps, and nothing else changes
  pub tenure_only :
      tenure_of v d ≡
      with_dma_block (with_block_taken (tenure_of v d).block.taken d.block)
      (with_dma_arb (with_arb_wake_tenure (stepped d.arb.wake_tenure) (with_arb_idle_claim (tenure_of v d).arb.idle_claim d.arb)) d)
  -- "new pend", in the Rust's words: not committing, armed, in mode 0, taken clear, left > 0, block 0
  pub new_pend :
      (c : Bool) →
      (pend_of c v d).arb.pend ≡
      (not c && v.armed && v.in_hblank && not d.block.taken && ltb 0 d.cursor.remaining && eqb d.block.remaining 0)
  -- it has age 0, and is an arm strobe's where one is noted; without a new pend both stay
  pub new_pend_marks :
      (c : Bool) → (pend_of c v d).arb.pend ≡ true →
      ((pend_of c v d).arb.pend_from_arm ≡ d.arb.armed_this_fall) × ((pend_of c v d).arb.pend_age ≡ 0)
  pub no_pend_marks :
      (c : Bool) → (pend_of c v d).arb.pend ≡ false →
      ((pend_of c v d).arb.pend_from_arm ≡ d.arb.pend_from_arm) × ((pend_of c v d).arb.pend_age ≡ d.arb.pend_age)
  -- the strobe is used up either way, and nothing else changes
  pub new_pend_only :
      (c : Bool) →
      pend_of c v d ≡
      with_dma_arb
      (with_arb_pend (pend_of c v d).arb.pend
      (with_arb_pend_from_arm (pend_of c v d).arb.pend_from_arm
      (with_arb_pend_age (pend_of c v d).arb.pend_age (with_arb_armed_this_fall false d.arb)))) d
  -- "readiness": it steps; a block of 16 from an arm strobe that becomes ready at single speed goes on probation
  pub readies :
      (double : Bool) →
      readiness_of double d ≡
      with_dma_block
      (with_block_ready_in (stepped d.block.ready_in)
      (with_block_arm_ready_probation (readiness_of double d).block.arm_ready_probation d.block)) d
  pub probation :
      (double : Bool) →
      (readiness_of double d).block.arm_ready_probation ≡
      (d.block.arm_ready_probation || (eqb (remaining_of d.block.ready_in) 1 && d.block.from_arm && eqb d.block.remaining 16 && not double))
  -- "seize count": falls that the bus is seized without a break, up to 255; nothing else changes
  pub seizes : seizes_bus d ≡ true → seizure_of d ≡ with_dma_block (with_block_seize_falls (saturating_inc d.block.seize_falls) d.block) d
  pub seizes_not : seizes_bus d ≡ false → seizure_of d ≡ with_dma_block (with_block_seize_falls 0 d.block) d
