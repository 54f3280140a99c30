-- The fall (document 01, section 2): its stages in the paper's order, each as the engine after it made of the engine in front
-- of it, first the arbiter's or the block's part, then the stage; and the steps that they make up, down to the whole fall.
use Rattle.std.specs.Prelude.{ℕ, ◌-◌, ◌/◌, Bool, true, false, cond, not, ◌&&◌, ◌||◌, ltb, leb, eqb}
use Rattle.countdown.specs.Countdown.{armed, cleared, active_of, remaining_of, ticked, expired_of}
use Rattle.arithmetic.specs.SmallSteps.{saturating_inc}
use Rattle.countdown.specs.declared.Countdown.{Countdown}
use Rattle.console.specs.Modes.{is_hblank}
use Rattle.console.specs.Set.{with_cursor_quota, with_block_remaining, with_block_start_edge, with_block_taken, with_block_setup_cells}
use Rattle.console.specs.Set.{with_block_ready_in, with_block_seize_falls, with_block_from_arm, with_block_arm_ready_probation, with_arb_pend}
use Rattle.console.specs.Set.{with_arb_pend_from_arm, with_arb_armed_this_fall, with_arb_halted_falls, with_arb_prev_view_hblank, with_arb_pend_age}
use Rattle.console.specs.Set.{with_arb_pend_granted, with_arb_wake_tenure, with_arb_park_waits_for_fetch, with_arb_idle_claim, with_arb_halt_wake_blind}
use Rattle.console.specs.Set.{with_arb_prev_cpu_halted, with_arb_grant_counted, with_arb_wake_pend_blind, with_arb_granted_ahead, with_dma_cursor}
use Rattle.console.specs.Set.{with_dma_block, with_dma_arb}
use Rattle.console.specs.declared.VramDmaClaim.{VramDmaClaim}
use Rattle.console.specs.declared.vram_dma.HaltArbiter.{HaltArbiter}
use Rattle.console.specs.declared.vram_dma.HblankBlock.{HblankBlock}
use Rattle.console.specs.declared.vram_dma.VramDma.{VramDma}
use Rattle.transfer.specs.Pair.{moving_of, quota_of}
use Rattle.transfer.specs.Questions.{seizes_bus}
use Rattle.fall_stages.specs.declared.FallInput.{FallInput}
use Rattle.fall_stages.specs.declared.Fallen.{Fallen}
use Rattle.fall_stages.specs.declared.View.{View}

-- ---- step 1: "Inert, not halted, not stopped: `settle_inert`, end"
-- no block, and none of its countdowns runs
abbrev pub still_block : HblankBlock → Bool
still_block b =
    eqb b.remaining 0 && not (active_of b.setup_cells) && not (active_of b.ready_in) && not b.arm_ready_probation

-- no pend, grant or strobe, no halt to unwind, and none of its countdowns runs
abbrev pub still_arb : HaltArbiter → Bool
still_arb a =
    not a.pend
    && not a.pend_granted
    && not a.prev_cpu_halted
    && not a.armed_this_fall
    && not (active_of a.halt_wake_blind)
    && not (active_of a.wake_pend_blind)
    && not (active_of a.wake_tenure)

abbrev pub still_of : VramDma → Bool
still_of d = still_block d.block && still_arb d.arb

abbrev pub inert_of : VramDma → Bool
inert_of d = eqb d.cursor.remaining 0 && still_of d

abbrev pub settled_block : Bool → HblankBlock → HblankBlock
settled_block hblank b = with_block_taken (b.taken && hblank) (with_block_seize_falls 0 b)

abbrev pub settled_arb : Bool → HaltArbiter → HaltArbiter
settled_arb hblank a = with_arb_prev_view_hblank hblank (with_arb_halted_falls 0 a)

unfoldable pub settled_of : Bool → VramDma → VramDma
settled_of hblank d =
    with_dma_cursor (with_cursor_quota 0 d.cursor)
    (with_dma_block (settled_block hblank d.block) (with_dma_arb (settled_arb hblank d.arb) d))

-- ---- step 2: "Gated = stopped, or halted without latched IRQ"
abbrev pub gates : FallInput → Bool
gates i = (i.halted && not i.irq_latched) || i.stopped

-- "Entry = mode 0 now and not at the previous fall"; armed is mode HBlank
unfoldable pub view_of : FallInput → Bool → VramDma → View
view_of i double d =
    record {
      in_hblank = eqb i.mode 0;
      entry_edge = eqb i.mode 0 && not d.arb.prev_view_hblank;
      cpu_halted = i.halted;
      was_halted = d.arb.prev_cpu_halted;
      armed = is_hblank d.cursor.mode;
      double_speed = double;
      master_edge = i.master_edge;
      oam_owns_bus = i.oam_owns_bus;
    }

-- ---- step 3: "Halted falls are counted up to 255, 0 when running. Outside mode 0, taken is cleared if running or halted
-- falls ≤ 4 (2 at double speed)"; step 4: "A wake arms the blind of 3"
abbrev pub halted_falls_of : Bool → ℕ → ℕ
halted_falls_of halted n = cond halted (saturating_inc n) 0

abbrev pub wake_blind_of : Bool → Countdown → Countdown
wake_blind_of woke blind = cond woke (armed 3) blind

unfoldable pub observed_arb : View → HaltArbiter → HaltArbiter
observed_arb v a =
    with_arb_prev_view_hblank v.in_hblank
    (with_arb_halted_falls (halted_falls_of v.cpu_halted a.halted_falls)
    (with_arb_halt_wake_blind (wake_blind_of (v.was_halted && not v.cpu_halted) a.halt_wake_blind) a))

abbrev pub taken_clears : View → ℕ → Bool
taken_clears v falls = not v.in_hblank && (not v.cpu_halted || leb falls (cond v.double_speed 2 4))

abbrev pub kept_taken : Bool → HblankBlock → HblankBlock
kept_taken clear b = with_block_taken (b.taken && not clear) b

unfoldable pub observed_of : View → VramDma → VramDma
observed_of v d =
    with_dma_block (kept_taken (taken_clears v (observed_arb v d.arb).halted_falls) d.block)
    (with_dma_arb (observed_arb v d.arb) d)

-- ---- step 4: "probation is judged"
abbrev pub reverts : View → HblankBlock → Bool
reverts v b = b.arm_ready_probation && not v.in_hblank && b.from_arm && eqb b.remaining 16

unfoldable pub judged_block : Bool → HblankBlock → HblankBlock
judged_block back b =
    with_block_remaining (cond back 0 b.remaining)
    (with_block_from_arm (b.from_arm && not back) (with_block_arm_ready_probation false b))

unfoldable pub ungranted_arb : Bool → HaltArbiter → HaltArbiter
ungranted_arb back a = with_arb_granted_ahead (cond back (a.granted_ahead - 1) a.granted_ahead) a

unfoldable pub probation_of : View → VramDma → VramDma
probation_of v d =
    with_dma_block (judged_block (reverts v d.block) d.block) (with_dma_arb (ungranted_arb (reverts v d.block) d.arb) d)

-- ---- step 4: "a block of 16 not yet ready at the halt latch becomes a granted pend"
abbrev pub joins_halt : View → HblankBlock → Bool
joins_halt v b = v.cpu_halted && not v.was_halted && eqb b.remaining 16 && active_of b.ready_in

unfoldable pub dropped_block : Bool → HblankBlock → HblankBlock
dropped_block joins b =
    cond joins (with_block_remaining 0 (with_block_ready_in cleared (with_block_setup_cells cleared b))) b

unfoldable pub halt_latch_arb : Bool → Bool → HaltArbiter → HaltArbiter
halt_latch_arb halted joins a =
    cond joins
    (with_arb_pend true
    (with_arb_pend_granted true (with_arb_grant_counted true (with_arb_pend_age 0 (with_arb_prev_cpu_halted halted a)))))
    (with_arb_prev_cpu_halted halted a)

unfoldable pub halt_latch_of : View → VramDma → VramDma
halt_latch_of v d =
    with_dma_block (dropped_block (joins_halt v d.block) d.block)
    (with_dma_arb (halt_latch_arb v.cpu_halted (joins_halt v d.block) d.arb) d)

-- steps 3 and 4
unfoldable pub started_of : View → VramDma → VramDma
started_of v d = halt_latch_of v (probation_of v (observed_of v d))

-- ---- quota: "Quota is 0 if not moving, else 2 at single speed, 1 at double"
unfoldable pub refilled_of : Bool → VramDma → VramDma
refilled_of double d = with_dma_cursor (with_cursor_quota (quota_of (moving_of d) double) d.cursor) d

-- ---- step 5: "a standing pend ages"
unfoldable pub aged_arb : HaltArbiter → HaltArbiter
aged_arb a = with_arb_pend_age (cond a.pend (saturating_inc a.pend_age) a.pend_age) a

-- "Halted, armed, at an entry with taken clear and left > 0, a pend is set"
abbrev pub halt_pends : View → VramDma → Bool
halt_pends v d = v.cpu_halted && v.entry_edge && v.armed && not d.block.taken && ltb 0 d.cursor.remaining

unfoldable pub pended_arb : Bool → HaltArbiter → HaltArbiter
pended_arb pends a = cond pends (with_arb_pend true (with_arb_pend_from_arm false (with_arb_pend_age 0 a))) a

-- "Halted and armed at an entry with halted falls ≤ 2 and left / 16 > granted, one more is granted"
unfoldable pub grants : View → ℕ → HaltArbiter → Bool
grants v blocks a =
    v.cpu_halted && v.entry_edge && v.armed && leb a.halted_falls 2 && ltb a.granted_ahead blocks

unfoldable pub granted_arb : Bool → HaltArbiter → HaltArbiter
granted_arb grants a =
    with_arb_granted_ahead (cond grants (saturating_inc a.granted_ahead) a.granted_ahead)
    (with_arb_grant_counted (a.grant_counted || grants) (with_arb_pend_granted (a.pend_granted || grants) a))

-- "Quota is refilled, end"
unfoldable pub gated_of : View → VramDma → VramDma
gated_of v d =
    refilled_of v.double_speed
    (with_dma_arb (granted_arb (grants v (d.cursor.remaining / 16) d.arb) (pended_arb (halt_pends v d) (aged_arb d.arb))) d)

-- ---- step 6, blinds: both tick; an entry in one of them is taken without service; the first tick of the blind of 6 is exempt
abbrev pub blinded : View → HaltArbiter → Bool
blinded v a =
    ((ticked a.halt_wake_blind).flag && v.entry_edge)
    || ((ticked a.wake_pend_blind).flag && v.entry_edge && not (eqb (remaining_of a.wake_pend_blind) 6))

unfoldable pub blinds_arb : HaltArbiter → HaltArbiter
blinds_arb a =
    with_arb_halt_wake_blind (ticked a.halt_wake_blind).next (with_arb_wake_pend_blind (ticked a.wake_pend_blind).next a)

abbrev pub taken_if : Bool → HblankBlock → HblankBlock
taken_if takes b = with_block_taken (b.taken || takes) b

unfoldable pub blinds_of : View → VramDma → VramDma
blinds_of v d = with_dma_block (taken_if (blinded v d.arb) d.block) (with_dma_arb (blinds_arb d.arb) d)

-- ---- step 6, commit: "exactly when step 6 is reached, a pend stands, HBlank is armed, and (mode 0, or the pend came from an
-- arm strobe or is granted) and (running, or pend age ≤ 2, or granted)"
abbrev pub commits : View → VramDma → Bool
commits v d =
    d.arb.pend
    && v.armed
    && (v.in_hblank || d.arb.pend_from_arm || d.arb.pend_granted)
    && (not v.cpu_halted || leb d.arb.pend_age 2 || d.arb.pend_granted)

-- refusal 14: "a commit not already counted would raise granted from 255"
abbrev pub overflows : View → VramDma → Bool
overflows v d = commits v d && not d.arb.grant_counted && eqb d.arb.granted_ahead 255

-- the commit is granted, outside mode 0
abbrev pub drives : View → HaltArbiter → Bool
drives v a = a.pend_granted && not v.in_hblank

-- and the CPU runs: the grant charged readiness and set-up during the halt
abbrev pub precharged : View → HaltArbiter → Bool
precharged v a = a.pend_granted && not v.in_hblank && not v.cpu_halted

abbrev pub armed_unless : Bool → ℕ → Countdown
armed_unless none n = armed (cond none 0 n)

-- "It sets block 16"
unfoldable pub commit_block : Bool → View → HaltArbiter → HblankBlock → HblankBlock
commit_block committing v a b =
    cond committing
    (with_block_remaining 16
    (with_block_start_edge v.master_edge
    (with_block_taken true
    (with_block_setup_cells (armed_unless (a.pend_from_arm || precharged v a) 1)
    (with_block_ready_in (armed_unless (precharged v a) 2) (with_block_from_arm a.pend_from_arm b))))))
    b

-- "tenure of 36"
abbrev pub tenure_if : Bool → Countdown → Countdown
tenure_if driven tenure = cond driven (armed 36) tenure

-- "and raises granted unless already counted"; without a commit a running CPU drops the pend's grant
unfoldable pub commit_arb : Bool → View → HaltArbiter → HaltArbiter
commit_arb committing v a =
    cond committing
    (with_arb_idle_claim false
    (with_arb_park_waits_for_fetch (not (a.pend_from_arm || (v.cpu_halted || v.was_halted)))
    (with_arb_granted_ahead (cond (not a.grant_counted) (saturating_inc a.granted_ahead) a.granted_ahead)
    (with_arb_grant_counted false (with_arb_wake_tenure (tenure_if (drives v a) a.wake_tenure) (with_arb_pend_granted false a))))))
    (with_arb_pend_granted (a.pend_granted && v.cpu_halted) a)

unfoldable pub commit_of : Bool → View → VramDma → VramDma
commit_of committing v d =
    with_dma_block (commit_block committing v d.arb d.block) (with_dma_arb (commit_arb committing v d.arb) d)

-- ---- step 6, tenure: it ticks; an entry in it is taken, and claims where bytes are left
abbrev pub consumes : View → HaltArbiter → Bool
consumes v a = (ticked a.wake_tenure).flag && v.entry_edge

unfoldable pub tenure_arb : Bool → HaltArbiter → HaltArbiter
tenure_arb claims a = with_arb_wake_tenure (ticked a.wake_tenure).next (with_arb_idle_claim (a.idle_claim || claims) a)

unfoldable pub tenure_of : View → VramDma → VramDma
tenure_of v d =
    with_dma_block (taken_if (consumes v d.arb) d.block)
    (with_dma_arb (tenure_arb (consumes v d.arb && ltb 0 d.cursor.remaining) d.arb) d)

-- ---- step 6, new pend: armed in mode 0 with taken clear, left > 0, no block and no commit in this fall
abbrev pub pends : Bool → View → VramDma → Bool
pends committing v d =
    not committing
    && v.armed
    && v.in_hblank
    && not d.block.taken
    && ltb 0 d.cursor.remaining
    && eqb d.block.remaining 0

unfoldable pub pend_arb : Bool → HaltArbiter → HaltArbiter
pend_arb pends a =
    cond pends
    (with_arb_pend true
    (with_arb_pend_from_arm a.armed_this_fall (with_arb_pend_age 0 (with_arb_armed_this_fall false a))))
    (with_arb_pend false (with_arb_armed_this_fall false a))

unfoldable pub pend_of : Bool → View → VramDma → VramDma
pend_of committing v d = with_dma_arb (pend_arb (pends committing v d) d.arb) d

-- ---- step 6, readiness: a launch by an arm strobe that readies at single speed goes on probation
unfoldable pub readied_block : Bool → HblankBlock → HblankBlock
readied_block double b =
    with_block_ready_in (expired_of b.ready_in).next
    (with_block_arm_ready_probation
    (b.arm_ready_probation || ((expired_of b.ready_in).flag && b.from_arm && eqb b.remaining 16 && not double)) b)

unfoldable pub readiness_of : Bool → VramDma → VramDma
readiness_of double d = with_dma_block (readied_block double d.block) d

-- ---- step 6, seize count: falls that the bus has been seized, up to 255
abbrev pub seizure_count : Bool → ℕ → ℕ
seizure_count seizes n = cond seizes (saturating_inc n) 0

unfoldable pub seized_block : Bool → HblankBlock → HblankBlock
seized_block seizes b = with_block_seize_falls (seizure_count seizes b.seize_falls) b

unfoldable pub seizure_of : VramDma → VramDma
seizure_of d = with_dma_block (seized_block (seizes_bus d) d.block) d

-- step 6 from the commit on: "commit, tenure of 36, new pend, readiness, quota, seize count, in the Rust's order"
unfoldable pub served_of : Bool → View → VramDma → VramDma
served_of committing v d =
    seizure_of
    (refilled_of v.double_speed
    (readiness_of v.double_speed (pend_of committing v (tenure_of v (commit_of committing v d)))))

-- ---- "A claim is standing at pend age 4 or more with no bus owned by OAM DMA"
abbrev pub claim_of : Bool → View → VramDma → VramDmaClaim
claim_of committing v d =
    record { committed = committing; standing = committing && leb 4 d.arb.pend_age && not v.oam_owns_bus }

abbrev pub no_claim : VramDmaClaim
no_claim = record { committed = false; standing = false }

-- refused with 14: the engine as given
abbrev pub refused_of : VramDma → Fallen
refused_of d = record { refused = true; claim = no_claim; dma = d }

abbrev pub fell : VramDmaClaim → VramDma → Fallen
fell claim d = record { refused = false; claim = claim; dma = d }

-- step 6 of the engine d after the blinds; refused, it is the engine given
unfoldable pub decided_of : View → VramDma → VramDma → Fallen
decided_of v given d =
    cond (overflows v d) (refused_of given)
    (fell (claim_of (commits v d) v (served_of (commits v d) v d)) (served_of (commits v d) v d))

-- steps 3 to 6
unfoldable pub ran_of : Bool → View → VramDma → Fallen
ran_of gated v d =
    cond gated (fell no_claim (gated_of v (started_of v d))) (decided_of v d (blinds_of v (started_of v d)))

-- steps 1 and 2
unfoldable pub fall_of : FallInput → Bool → VramDma → Fallen
fall_of i double d =
    cond (inert_of d && not i.halted && not i.stopped) (fell no_claim (settled_of (eqb i.mode 0) d))
    (ran_of (gates i) (view_of i double d) d)
