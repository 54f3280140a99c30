-- What is shown of the fall, in document 01's words (section 2). A fall is accepted where it is not refused with 14.
use Rattle.std.specs.Prelude.{◌+◌, ◌≤◌, ◌≡◌, Bool, true, false, cond, not, ◌&&◌, ◌||◌, leb, eqb}
use Rattle.countdown.specs.Countdown.{armed, cleared, active_of}
use Rattle.arithmetic.specs.SmallSteps.{saturating_inc}
use Rattle.console.specs.Set.{with_cursor_quota}
use Rattle.console.specs.declared.vram_dma.VramDma.{VramDma}
use Rattle.transfer.specs.Pair.{moving_of, quota_of}
use Rattle.transfer.specs.Questions.{seizes_bus}
use Rattle.fall_stages.specs.Fall.{view_of, gates, inert_of, settled_of, commits, started_of, no_claim, fell, fall_of}
use Rattle.fall_stages.specs.declared.FallInput.{FallInput}

-- step 1 ends the fall
abbrev pub settles : FallInput → VramDma → Bool
settles i d = inert_of d && not i.halted && not i.stopped

-- its test, taken apart: a still engine ..
pub record AtRest (d : VramDma) : Type 0 where
  pub block : d.block.remaining ≡ 0
  pub setup : d.block.setup_cells ≡ cleared
  pub ready : d.block.ready_in ≡ cleared
  pub probation : d.block.arm_ready_probation ≡ false
  pub pend : d.arb.pend ≡ false
  pub granted : d.arb.pend_granted ≡ false
  pub awake : d.arb.prev_cpu_halted ≡ false
  pub strobe : d.arb.armed_this_fall ≡ false
  pub blind3 : d.arb.halt_wake_blind ≡ cleared
  pub blind6 : d.arb.wake_pend_blind ≡ cleared
  pub tenure : d.arb.wake_tenure ≡ cleared

-- .. with nothing left, and a CPU that neither halts nor stops
pub record Settles (i : FallInput) (d : VramDma) : Type 0 where
  pub left : d.cursor.remaining ≡ 0
  pub rest : AtRest d
  pub running : i.halted ≡ false
  pub going : i.stopped ≡ false

-- step 6 is reached
abbrev pub reaches6 : FallInput → VramDma → Bool
reaches6 i d = not (settles i d) && not (gates i)

-- the engine after steps 3 and 4, on which step 6 decides
abbrev pub before6 : FallInput → Bool → VramDma → VramDma
before6 i double d = started_of (view_of i double d) d

-- "a pend stands, HBlank is armed, and (mode 0, or the pend came from an arm strobe or is granted) and (running, or pend age
-- ≤ 2, or granted)", after steps 3 and 4
abbrev pub commit_test : FallInput → Bool → VramDma → Bool
commit_test i double d = reaches6 i d && commits (view_of i double d) (before6 i double d)

pub record FallSteps (i : FallInput) (double : Bool) (d : VramDma) : Type 0 where
  -- 1 "Inert, not halted, not stopped: `settle_inert`, end"
  pub inert : settles i d ≡ true → fall_of i double d ≡ fell no_claim (settled_of (eqb i.mode 0) d)
  -- "A commit comes exactly when step 6 is reached, .."
  pub commits_exactly : (fall_of i double d).refused ≡ false → (fall_of i double d).claim.committed ≡ commit_test i double d
  -- 14 exactly: "a commit not already counted would raise granted from 255"
  pub refused_exactly :
      (fall_of i double d).refused ≡
      (commit_test i double d
      && not (before6 i double d).arb.grant_counted
      && eqb (before6 i double d).arb.granted_ahead 255)
  -- refused, nothing changed
  pub refused_keeps : (fall_of i double d).refused ≡ true → ((fall_of i double d).dma ≡ d) × ((fall_of i double d).claim ≡ no_claim)
  -- no fall touches pointers, mode, left or escape: of the cursor only quota changes
  pub keeps_cursor : (fall_of i double d).dma.cursor ≡ with_cursor_quota (fall_of i double d).dma.cursor.quota d.cursor
  -- "Quota is 0 if not moving, else 2 at single speed, 1 at double"
  pub quota : (fall_of i double d).refused ≡ false → (fall_of i double d).dma.cursor.quota ≡ quota_of (moving_of (fall_of i double d).dma) double
  -- "seize count": an ungated fall counts on the engine that it leaves, after readiness; a gated one leaves the count
  pub seize_count :
      (fall_of i double d).refused ≡ false → gates i ≡ false →
      (fall_of i double d).dma.block.seize_falls ≡
      cond (seizes_bus (fall_of i double d).dma) (saturating_inc d.block.seize_falls) 0
  pub seize_rests : gates i ≡ true → (fall_of i double d).dma.block.seize_falls ≡ d.block.seize_falls
  -- "Halted falls are counted up to 255, 0 when running"
  pub halted_falls :
      (fall_of i double d).refused ≡ false →
      (fall_of i double d).dma.arb.halted_falls ≡ cond i.halted (saturating_inc d.arb.halted_falls) 0
  -- a commit "sets block 16 and raises granted unless already counted", takes the HBlank and notes the edge
  pub committed :
      (fall_of i double d).refused ≡ false → (fall_of i double d).claim.committed ≡ true →
      ((fall_of i double d).dma.block.remaining ≡ 16) ×
      ((fall_of i double d).dma.block.taken ≡ true) ×
      ((fall_of i double d).dma.block.start_edge ≡ i.master_edge) ×
      ((fall_of i double d).dma.arb.pend ≡ false)
  -- it charges a set-up cell unless an arm strobe or the halt's grant did; the block is an arm strobe's where the pend was; park
  -- waits for the fetch where it was not and the CPU ran, now and at the previous fall; the marks of the grant go
  pub committed_marks :
      (fall_of i double d).refused ≡ false → (fall_of i double d).claim.committed ≡ true →
      ((fall_of i double d).dma.block.setup_cells ≡
      armed
      (cond
      ((before6 i double d).arb.pend_from_arm
      || ((before6 i double d).arb.pend_granted && not (eqb i.mode 0) && not i.halted)) 0 1)) ×
      ((fall_of i double d).dma.block.from_arm ≡ (before6 i double d).arb.pend_from_arm) ×
      ((fall_of i double d).dma.arb.park_waits_for_fetch ≡
      (not (before6 i double d).arb.pend_from_arm && not i.halted && not d.arb.prev_cpu_halted)) ×
      ((fall_of i double d).dma.arb.pend_granted ≡ false) ×
      ((fall_of i double d).dma.arb.grant_counted ≡ false)
  -- without a commit no set-up cell is set
  pub no_cell :
      (fall_of i double d).claim.committed ≡ false → active_of d.block.setup_cells ≡ false →
      active_of (fall_of i double d).dma.block.setup_cells ≡ false
  pub counted_already :
      (fall_of i double d).refused ≡ false → (fall_of i double d).claim.committed ≡ true →
      (before6 i double d).arb.grant_counted ≡ true →
      (fall_of i double d).dma.arb.granted_ahead ≡ (before6 i double d).arb.granted_ahead
  pub raises :
      (fall_of i double d).refused ≡ false → (fall_of i double d).claim.committed ≡ true →
      (before6 i double d).arb.grant_counted ≡ false → (before6 i double d).arb.granted_ahead ≤ 255 →
      (fall_of i double d).dma.arb.granted_ahead ≡ (before6 i double d).arb.granted_ahead + 1
  -- "A claim is standing at pend age 4 or more with no bus owned by OAM DMA"
  pub standing :
      (fall_of i double d).refused ≡ false →
      (fall_of i double d).claim.standing ≡
      ((fall_of i double d).claim.committed && leb 4 (before6 i double d).arb.pend_age && not i.oam_owns_bus)
