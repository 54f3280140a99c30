-- The shorter way gives what the definition gives (specs, `Quiet`). Assumes nothing.
use native.Mathlib.Omega.{arith}
use mathlib.Core.Path.{◌≡◌, refl, sym, ap, ◌∙◌}
use mathlib.Core.Bool.{Bool, true, false, cond, not, ◌&&◌, ◌||◌, and-true, or-false, false≢true}
use lib.Dec.{eqb}
use borrow.Author.Tests.{eqb-true, ltb-false, not-true}
use Rattle.std.proofs.lemmas.Bool.{and_parts}
use Rattle.countdown.specs.Countdown.{cleared, active_of}
use Rattle.countdown.specs.declared.Countdown.{Countdown}
use Rattle.console.specs.Modes.{is_general, is_hblank}
use Rattle.console.specs.Set.{with_cursor_mode, with_block_remaining, with_block_taken, with_block_setup_cells, with_block_ready_in, with_block_from_arm}
use Rattle.console.specs.Set.{with_block_arm_ready_probation, with_arb_pend, with_arb_pend_granted, with_arb_armed_this_fall, with_arb_wake_tenure}
use Rattle.console.specs.Set.{with_arb_idle_claim, with_arb_halt_wake_blind, with_arb_prev_cpu_halted, with_arb_wake_pend_blind, with_dma_cursor}
use Rattle.console.specs.Set.{with_dma_block, with_dma_arb}
use Rattle.console.specs.declared.vram_dma.HaltArbiter.{HaltArbiter}
use Rattle.console.specs.declared.vram_dma.HblankBlock.{HblankBlock}
use Rattle.console.specs.declared.vram_dma.TransferMode.{TransferMode}
use Rattle.console.specs.declared.vram_dma.TransferMode.TheVariants.{Idle, General, HBlank}
use Rattle.console.specs.declared.vram_dma.VramDma.{VramDma}
use Rattle.transfer.specs.Pair.{moving_of}
use Rattle.transfer.specs.Questions.{seizes_bus}
use Rattle.fall_stages.specs.Fall.{view_of, gates, still_block, still_arb, still_of, settled_of, observed_arb, observed_of, judged_block}
use Rattle.fall_stages.specs.Fall.{ungranted_arb, probation_of, dropped_block, halt_latch_arb, halt_latch_of, refilled_of, blinds_arb}
use Rattle.fall_stages.specs.Fall.{blinds_of, commit_block, commit_arb, commit_of, tenure_arb, tenure_of, pend_arb, pend_of, readied_block}
use Rattle.fall_stages.specs.Fall.{readiness_of, seized_block, seizure_of, started_of, served_of, decided_of, ran_of, fall_of, no_claim}
use Rattle.fall_stages.specs.Fall.{fell}
use Rattle.fall_stages.specs.Steps.{settles, AtRest, Settles}
use Rattle.fall_stages.specs.QuietFall.{wants, quiet_of, Quiet}
use Rattle.fall_stages.specs.declared.FallInput.{FallInput}
use Rattle.fall_stages.specs.declared.Fallen.{Fallen}
use Rattle.fall_stages.specs.declared.View.{View}

-- ---- a still engine, with the fields that are tested written out
abbrev rest_block : Bool → Bool → HblankBlock → HblankBlock
rest_block taken arm b =
    with_block_taken taken
    (with_block_from_arm arm
    (with_block_remaining 0 (with_block_setup_cells cleared (with_block_ready_in cleared (with_block_arm_ready_probation false b)))))

abbrev rest_arb : Bool → HaltArbiter → HaltArbiter
rest_arb claim a =
    with_arb_idle_claim claim
    (with_arb_pend false
    (with_arb_pend_granted false
    (with_arb_prev_cpu_halted false
    (with_arb_armed_this_fall false
    (with_arb_halt_wake_blind cleared (with_arb_wake_pend_blind cleared (with_arb_wake_tenure cleared a)))))))

abbrev rest_dma : TransferMode → Bool → Bool → Bool → VramDma → VramDma
rest_dma mode taken arm claim d =
    with_dma_cursor (with_cursor_mode mode d.cursor)
    (with_dma_block (rest_block taken arm d.block) (with_dma_arb (rest_arb claim d.arb) d))

abbrev running_view : Bool → TransferMode → Bool → FallInput → VramDma → View
running_view hblank mode double i d =
    record {
      in_hblank = hblank;
      entry_edge = hblank && not d.arb.prev_view_hblank;
      cpu_halted = false;
      was_halted = false;
      armed = is_hblank mode;
      double_speed = double;
      master_edge = i.master_edge;
      oam_owns_bus = i.oam_owns_bus;
    }

-- ---- its steps 3 to 6, running, where it wants nothing
abbrev settled : TransferMode → Bool → Bool → Bool → Bool → VramDma → Fallen
settled mode hblank taken arm claim d = fell no_claim (settled_of hblank (rest_dma mode taken arm claim d))

ran_steps :
    (mode : TransferMode) (hblank taken arm claim double : Bool) (i : FallInput) (d : VramDma) →
    not (is_general mode || (is_hblank mode && hblank && not taken)) ≡ true →
    ran_of false (running_view hblank mode double i d) (rest_dma mode taken arm claim d)
    ≡ settled mode hblank taken (arm && true) (claim || false) d
unfolding ran_of decided_of served_of started_of settled_of observed_of observed_arb probation_of judged_block ungranted_arb
    halt_latch_of dropped_block halt_latch_arb blinds_of blinds_arb commit_of commit_block commit_arb tenure_of tenure_arb
    pend_of pend_arb readiness_of readied_block refilled_of moving_of seizure_of seized_block seizes_bus
ran_steps Idle true true arm claim double i d e = refl
ran_steps Idle true false arm claim double i d e = refl
ran_steps Idle false true arm claim double i d e = refl
ran_steps Idle false false arm claim double i d e = refl
ran_steps General hblank taken arm claim double i d e = absurd (false≢true e)
ran_steps HBlank true true arm claim double i d e = refl
ran_steps HBlank true false arm claim double i d e = absurd (false≢true e)
ran_steps HBlank false true arm claim double i d e = refl
ran_steps HBlank false false arm claim double i d e = refl

ran :
    (mode : TransferMode) (hblank taken arm claim double : Bool) (i : FallInput) (d : VramDma) →
    not (is_general mode || (is_hblank mode && hblank && not taken)) ≡ true →
    ran_of false (running_view hblank mode double i d) (rest_dma mode taken arm claim d) ≡ settled mode hblank taken arm claim d
ran mode hblank taken arm claim double i d e =
    ran_steps mode hblank taken arm claim double i d e
    ∙ (ap (λ x. settled mode hblank taken x (claim || false) d) (and-true arm)
    ∙ ap (λ x. settled mode hblank taken arm x d) (or-false claim))

-- ---- step 1's test, taken apart
rests : (c : Countdown) → not (active_of c) ≡ true → c ≡ cleared
rests c e = let none = ltb-false 0 c.0 (not-true _ e) in let zero : c.0 ≡ 0 = omega arith in λ k. record { 0 = zero k }

four : (a b c d : Bool) → (a && b && c && d) ≡ true → (a ≡ true) × (b ≡ true) × (c ≡ true) × (d ≡ true)
four a b c d e =
    let e3 = and_parts (a && b && c) d e in
    let e2 = and_parts (a && b) c e3.0 in
    let e1 = and_parts a b e2.0 in
    (e1.0, e1.1, e2.1, e3.1)

pub at_rest : (d : VramDma) → still_of d ≡ true → AtRest d
at_rest d e =
    let b = d.block in
    let a = d.arb in
    let parts = and_parts (still_block b) (still_arb a) e in
    let block =
    four (eqb b.remaining 0) (not (active_of b.setup_cells)) (not (active_of b.ready_in))
    (not b.arm_ready_probation) parts.0 in
    let timers =
    four (not a.pend && not a.pend_granted && not a.prev_cpu_halted && not a.armed_this_fall)
    (not (active_of a.halt_wake_blind)) (not (active_of a.wake_pend_blind)) (not (active_of a.wake_tenure))
    parts.1 in
    let flags =
    four (not a.pend) (not a.pend_granted) (not a.prev_cpu_halted) (not a.armed_this_fall) timers.0 in
    record {
      block = eqb-true b.remaining 0 block.0;
      setup = rests b.setup_cells block.1;
      ready = rests b.ready_in block.2;
      probation = not-true b.arm_ready_probation block.3;
      pend = not-true a.pend flags.0;
      granted = not-true a.pend_granted flags.1;
      awake = not-true a.prev_cpu_halted flags.2;
      strobe = not-true a.armed_this_fall flags.3;
      blind3 = rests a.halt_wake_blind timers.1;
      blind6 = rests a.wake_pend_blind timers.2;
      tenure = rests a.wake_tenure timers.3;
    }

pub settles_means : (i : FallInput) (d : VramDma) → settles i d ≡ true → Settles i d
settles_means i d e =
    let all = four (eqb d.cursor.remaining 0) (still_of d) (not i.halted) (not i.stopped) e in
    record {
      left = eqb-true d.cursor.remaining 0 all.0;
      rest = at_rest d all.1;
      running = not-true i.halted all.2;
      going = not-true i.stopped all.3;
    }

-- a still engine is one with these fields written out
still : (d : VramDma) → still_of d ≡ true → rest_dma d.cursor.mode d.block.taken d.block.from_arm d.arb.idle_claim d ≡ d
still d e =
    let r = at_rest d e in
    λ k.
    with_dma_block
    (with_block_remaining (sym r.block k)
    (with_block_setup_cells (sym r.setup k)
    (with_block_ready_in (sym r.ready k) (with_block_arm_ready_probation (sym r.probation k) d.block))))
    (with_dma_arb
    (with_arb_pend (sym r.pend k)
    (with_arb_pend_granted (sym r.granted k)
    (with_arb_prev_cpu_halted (sym r.awake k)
    (with_arb_armed_this_fall (sym r.strobe k)
    (with_arb_halt_wake_blind (sym r.blind3 k)
    (with_arb_wake_pend_blind (sym r.blind6 k) (with_arb_wake_tenure (sym r.tenure k) d.arb)))))))
    d)

-- ---- the whole fall
view :
    (i : FallInput) (double : Bool) (d : VramDma) → i.halted ≡ false → d.arb.prev_cpu_halted ≡ false →
    view_of i double d ≡ running_view (eqb i.mode 0) d.cursor.mode double i d
unfolding view_of
view i double d runs ran =
    λ k.
    record {
      in_hblank = eqb i.mode 0;
      entry_edge = eqb i.mode 0 && not d.arb.prev_view_hblank;
      cpu_halted = runs k;
      was_halted = ran k;
      armed = is_hblank d.cursor.mode;
      double_speed = double;
      master_edge = i.master_edge;
      oam_owns_bus = i.oam_owns_bus;
    }

running :
    (i : FallInput) (double : Bool) (d : VramDma) →
    not (wants (eqb i.mode 0) d) ≡ true →
    still_of d ≡ true →
    i.halted ≡ false → ran_of false (view_of i double d) d ≡ fell no_claim (settled_of (eqb i.mode 0) d)
running i double d w s runs =
    let out = still d s in
    ap (λ v. ran_of false v d) (view i double d runs (ap (λ x. x.arb.prev_cpu_halted) (sym out)))
    ∙ (ap (λ x. ran_of false (running_view (eqb i.mode 0) d.cursor.mode double i d) x) (sym out)
    ∙ (ran d.cursor.mode (eqb i.mode 0) d.block.taken d.block.from_arm d.arb.idle_claim double i d w
    ∙ ap (λ x. fell no_claim (settled_of (eqb i.mode 0) x)) out))

-- the test of step 1 and that of the shorter way, over plain flags: none left, nothing wanted, still, halted, stopped, latched
either :
    (none nothing : Bool) (settled : Fallen) (ran : Bool → Fallen) →
    (none || nothing) ≡ true →
    (nothing ≡ true → ran false ≡ settled) → cond (none && true && true && true) settled (ran false) ≡ settled
either true nothing settled ran e r = refl
either false nothing settled ran e r = r e

shorter :
    (none nothing rest halted stopped irq : Bool) (settled : Fallen) (ran : Bool → Fallen) →
    ((none || nothing) && rest && not halted && not stopped) ≡ true →
    (nothing ≡ true → rest ≡ true → halted ≡ false → ran false ≡ settled) →
    cond (none && rest && not halted && not stopped) settled (ran ((halted && not irq) || stopped)) ≡ settled
shorter none nothing rest halted stopped irq settled ran e r =
    let e3 = and_parts ((none || nothing) && rest && not halted) (not stopped) e in
    let e2 = and_parts ((none || nothing) && rest) (not halted) e3.0 in
    let e1 = and_parts (none || nothing) rest e2.0 in
    let runs = not-true halted e2.1 in
    let goes = not-true stopped e3.1 in
    rw (e1.1, runs, goes) (either none nothing settled ran e1.0 (λ n. r n e1.1 runs))

pub quiet_fall : Quiet
unfolding fall_of
quiet_fall i double d e =
    shorter (eqb d.cursor.remaining 0) (not (wants (eqb i.mode 0) d)) (still_of d) i.halted i.stopped
    i.irq_latched (fell no_claim (settled_of (eqb i.mode 0) d)) (λ g. ran_of g (view_of i double d) d) e
    (running i double d)

-- ---- where it is not quiet it is not inert either, and the steps follow
longer :
    (none nothing rest halted stopped : Bool) →
    ((none || nothing) && rest && not halted && not stopped) ≡ false → (none && rest && not halted && not stopped) ≡ false
longer true nothing rest halted stopped e = e
longer false nothing rest halted stopped e = refl

pub loud_fall :
    (i : FallInput) (double : Bool) (d : VramDma) →
    quiet_of i d ≡ false → fall_of i double d ≡ ran_of (gates i) (view_of i double d) d
unfolding fall_of
loud_fall i double d e =
    rw (longer (eqb d.cursor.remaining 0) (not (wants (eqb i.mode 0) d)) (still_of d) i.halted i.stopped e)
