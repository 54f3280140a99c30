-- How long the fall's windows last (document 01: "One lemma serves every countdown length and both speeds"): the blind of 3, the
-- blind of 6, readiness and the tenure of 36. Each is a countdown of the engine that an ungated fall steps once and a gated fall
-- leaves as it is (vram_dma.rs: "the countdown runs on engine ticks only"). A fall is accepted where it is not refused with 14.
use Rattle.std.specs.Prelude.{ℕ, suc, ◌-◌, ◌<◌, ◌≤◌, ◌≡◌, Bool, true, false, cond, not, ◌&&◌, ◌||◌, ltb, eqb}
use Rattle.countdown.specs.Countdown.{armed, cleared, active_of, remaining_of, stepped}
use Rattle.countdown.specs.declared.Countdown.{Countdown}
use Rattle.console.specs.Modes.{is_general, is_hblank}
use Rattle.console.specs.Set.{with_block_setup_cells, with_dma_block, with_dma_oam}
use Rattle.console.specs.declared.vram_dma.OamContention.{OamContention}
use Rattle.console.specs.declared.vram_dma.VramDma.{VramDma}
use Rattle.transfer.specs.Latch.{latches_dark, lcd_disabled_of, retired_of}
use Rattle.transfer.specs.Pair.{moving_of, next_byte_of, drain_of}
use Rattle.fall_stages.specs.Fall.{view_of, gates, observed_of, probation_of, joins_halt, fall_of}
use Rattle.fall_stages.specs.Steps.{reaches6, before6}
use Rattle.fall_stages.specs.Once.{Period}
use Rattle.fall_stages.specs.declared.FallInput.{FallInput}

-- A countdown of the engine, with what a fall does to it in front of its own step.
pub record Window : Type 0 where
  pub countdown : VramDma → Countdown
  -- what it is armed to
  pub ticks : ℕ
  -- this fall arms it
  pub arms : FallInput → Bool → VramDma → Bool
  -- this fall clears it, where it does not arm it
  pub clears : FallInput → Bool → VramDma → Bool

abbrev pub no_fall : FallInput → Bool → VramDma → Bool
no_fall i double d = false

-- what it holds where the fall steps it
abbrev pub at_step : Window → FallInput → Bool → VramDma → Countdown
at_step w i double d = cond (w.arms i double d) (armed w.ticks) (cond (w.clears i double d) cleared (w.countdown d))

-- ---- the four windows
-- "A wake arms the blind of 3": halted at the previous fall and not now, in step 4, in front of the gate
abbrev pub wakes : FallInput → Bool → VramDma → Bool
wakes i double d = d.arb.prev_cpu_halted && not i.halted

abbrev pub blind_of_3 : Window
blind_of_3 = record { countdown = λ d. d.arb.halt_wake_blind; ticks = 3; arms = wakes; clears = no_fall }

-- "Every upward switch .. arms the blind of 6": no fall does
abbrev pub blind_of_6 : Window
blind_of_6 = record { countdown = λ d. d.arb.wake_pend_blind; ticks = 6; arms = no_fall; clears = no_fall }

-- this fall commits a granted pend outside mode 0
abbrev pub driven_commit : FallInput → Bool → VramDma → Bool
driven_commit i double d = (fall_of i double d).claim.committed && (before6 i double d).arb.pend_granted && not (eqb i.mode 0)

-- "tenure of 36"
abbrev pub tenure_of_36 : Window
tenure_of_36 = record { countdown = λ d. d.arb.wake_tenure; ticks = 36; arms = driven_commit; clears = no_fall }

-- the same while the CPU runs: the grant charged readiness during the halt
abbrev pub charged_commit : FallInput → Bool → VramDma → Bool
charged_commit i double d = driven_commit i double d && not i.halted

-- every other commit waits for readiness
abbrev pub waiting_commit : FallInput → Bool → VramDma → Bool
waiting_commit i double d = (fall_of i double d).claim.committed && not (charged_commit i double d)

-- "a block of 16 not yet ready at the halt latch becomes a granted pend", and its readiness goes with it
abbrev pub latch_drops : FallInput → Bool → VramDma → Bool
latch_drops i double d = joins_halt (view_of i double d) (probation_of (view_of i double d) (observed_of (view_of i double d) d)).block

-- readiness: armed to 2 by such a commit; and between falls by the latch of a block with the LCD off ("ready in 2")
abbrev pub readiness : Window
readiness =
    record {
      countdown = λ d. d.block.ready_in;
      ticks = 2;
      arms = waiting_commit;
      clears = λ i double d. charged_commit i double d || latch_drops i double d;
    }

-- ---- the one lemma
-- an ungated fall steps the countdown once; a gated one does not
pub record SteppedOnce (w : Window) : Type 0 where
  pub ungated :
      (i : FallInput) (double : Bool) (d : VramDma) → (fall_of i double d).refused ≡ false → gates i ≡ false →
      w.countdown (fall_of i double d).dma ≡ stepped (at_step w i double d)
  pub gated :
      (i : FallInput) (double : Bool) (d : VramDma) → gates i ≡ true →
      w.countdown (fall_of i double d).dma ≡ at_step w i double d

-- The engine after k ungated falls of the window. The fall that arms it is the first of them, unless it is gated; no later one
-- arms or clears it. Each fall is at its own speed. Falls that are gated may come between, and anything else that leaves the
-- countdown as it is: other calls (`KeepsWindows` below), and a refused fall, which changes nothing.
pub data Since (w : Window) : ℕ → VramDma → Type 0 where
  -- armed between two falls, by another call: an upward switch, or the latch of a block with the LCD off
  by_call : (d : VramDma) → w.countdown d ≡ armed w.ticks → Since w 0 d
  -- armed by a fall
  by_fall :
      (i : FallInput) (double : Bool) (d : VramDma) → (fall_of i double d).refused ≡ false → w.arms i double d ≡ true →
      Since w (cond (gates i) 0 1) (fall_of i double d).dma
  then_fall :
      (i : FallInput) (double : Bool) (k : ℕ) (d : VramDma) → Since w k d → (fall_of i double d).refused ≡ false →
      w.arms i double d ≡ false → w.clears i double d ≡ false → Since w (cond (gates i) k (suc k)) (fall_of i double d).dma
  then_other : (k : ℕ) (d e : VramDma) → Since w k d → w.countdown e ≡ w.countdown d → Since w k e

-- The fall i of the engine d, with k ungated falls of the window in front of it.
pub data Nth (w : Window) : ℕ → FallInput → Bool → VramDma → Type 0 where
  arming : (i : FallInput) (double : Bool) (d : VramDma) → w.arms i double d ≡ true → Nth w 0 i double d
  later :
      (i : FallInput) (double : Bool) (k : ℕ) (d : VramDma) → Since w k d → w.arms i double d ≡ false →
      w.clears i double d ≡ false → Nth w k i double d

pub record Lasts (w : Window) : Type 0 where
  -- after k ungated falls it holds what is left of its ticks
  pub holds : (k : ℕ) (e : VramDma) → Since w k e → remaining_of (w.countdown e) ≡ w.ticks - k
  -- so does it for the fall with k of them in front of it, which finds it active exactly for k < ticks
  pub finds :
      (k : ℕ) (i : FallInput) (double : Bool) (d : VramDma) → Nth w k i double d → remaining_of (at_step w i double d) ≡ w.ticks - k
  pub active :
      (k : ℕ) (i : FallInput) (double : Bool) (d : VramDma) → Nth w k i double d →
      active_of (at_step w i double d) ≡ ltb k w.ticks
  -- and drains it, if it is ungated, exactly where it is the last of the ticks
  pub drains :
      (k : ℕ) (i : FallInput) (double : Bool) (d : VramDma) → Nth w k i double d →
      eqb (remaining_of (at_step w i double d)) 1 ≡ eqb (suc k) w.ticks

-- for every countdown, every length and both speeds, from the law of every countdown (`Counts`)
abbrev pub OneLemma : Type 0
OneLemma = (w : Window) → SteppedOnce w → Lasts w

-- ---- entries
-- "Entry = mode 0 now and not at the previous fall", at an ungated fall
pub record Enters (i : FallInput) (double : Bool) (d : VramDma) : Type 0 where
  pub accepted : (fall_of i double d).refused ≡ false
  pub ungated : gates i ≡ false
  pub mode0 : i.mode ≡ 0
  pub fresh : d.arb.prev_view_hblank ≡ false

-- a window passes the entry over; the first tick of the blind of 6 is exempt
abbrev pub passes : FallInput → Bool → VramDma → Bool
passes i double d =
    eqb i.mode 0
    && not d.arb.prev_view_hblank
    && (active_of (at_step blind_of_3 i double d)
    || (active_of (at_step blind_of_6 i double d) && not (eqb (remaining_of (at_step blind_of_6 i double d)) 6))
    || active_of (at_step tenure_of_36 i double d))

-- passed over: the HBlank counts as taken, no pend stands, and no running fall in the rest of the mode-0 period commits
pub record PassedOver (e : VramDma) : Type 0 where
  pub taken : e.block.taken ≡ true
  pub pend : e.arb.pend ≡ false
  pub unserved : (n : ℕ) → Period e n → n ≡ 0

-- Step 6 of the whole fall, over its stages in their order: blinds, commit, tenure, new pend.
pub record Entries (i : FallInput) (double : Bool) (d : VramDma) : Type 0 where
  -- taken after the fall: by a commit, by an entry that is passed over, or as it was
  pub taken :
      (fall_of i double d).refused ≡ false → reaches6 i d ≡ true →
      (fall_of i double d).dma.block.taken ≡
      ((fall_of i double d).claim.committed || (before6 i double d).block.taken || passes i double d)
  -- a pend after the fall: no commit in it, armed, in mode 0, taken clear and the entry not passed over, left > 0, no block
  pub pend :
      (fall_of i double d).refused ≡ false → reaches6 i d ≡ true →
      (fall_of i double d).dma.arb.pend ≡
      (not (fall_of i double d).claim.committed
      && is_hblank d.cursor.mode
      && eqb i.mode 0
      && not ((before6 i double d).block.taken || passes i double d)
      && ltb 0 d.cursor.remaining
      && eqb (before6 i double d).block.remaining 0)
  -- the idle claim after the fall: a commit drops it, an entry in the tenure with bytes left sets it
  pub claim :
      (fall_of i double d).refused ≡ false → reaches6 i d ≡ true →
      (fall_of i double d).dma.arb.idle_claim ≡
      ((not (fall_of i double d).claim.committed && d.arb.idle_claim)
      || (active_of (at_step tenure_of_36 i double d)
      && (eqb i.mode 0 && not d.arb.prev_view_hblank)
      && ltb 0 d.cursor.remaining))

-- what leaves all four countdowns as they are
pub record KeepsWindows (d e : VramDma) : Type 0 where
  pub blind3 : e.arb.halt_wake_blind ≡ d.arb.halt_wake_blind
  pub blind6 : e.arb.wake_pend_blind ≡ d.arb.wake_pend_blind
  pub tenure : e.arb.wake_tenure ≡ d.arb.wake_tenure
  pub ready : e.block.ready_in ≡ d.block.ready_in

-- what keeps all four comes between two falls of any window
abbrev pub GoesOn : Type 0
GoesOn = (d e : VramDma) → KeepsWindows d e → (k : ℕ) →
    (Since blind_of_3 k d → Since blind_of_3 k e) × (Since blind_of_6 k d → Since blind_of_6 k e) ×
    (Since tenure_of_36 k d → Since tenure_of_36 k e) × (Since readiness k d → Since readiness k e)

-- ---- the four, by document 01's numbers
pub record Windows : Type 0 where
  pub one_lemma : OneLemma
  pub goes_on : GoesOn
  -- "A wake arms the blind of 3": the waking fall is the first of the three
  pub blind3_steps : SteppedOnce blind_of_3
  pub blind3_lasts : (k : ℕ) (e : VramDma) → Since blind_of_3 k e → remaining_of e.arb.halt_wake_blind ≡ 3 - k
  pub blind3_passes :
      (k : ℕ) (i : FallInput) (double : Bool) (d : VramDma) → Nth blind_of_3 k i double d → k < 3 → Enters i double d →
      PassedOver (fall_of i double d).dma
  -- the blind of 6: the first ungated fall after the switch is exempt, the five after it are blind
  pub blind6_steps : SteppedOnce blind_of_6
  pub blind6_lasts : (k : ℕ) (e : VramDma) → Since blind_of_6 k e → remaining_of e.arb.wake_pend_blind ≡ 6 - k
  pub blind6_first :
      (i : FallInput) (double : Bool) (d : VramDma) → Nth blind_of_6 0 i double d → active_of (at_step blind_of_3 i double d) ≡ false →
      active_of (at_step tenure_of_36 i double d) ≡ false → passes i double d ≡ false
  pub blind6_passes :
      (k : ℕ) (i : FallInput) (double : Bool) (d : VramDma) → Nth blind_of_6 k i double d → 1 ≤ k → k < 6 → Enters i double d →
      PassedOver (fall_of i double d).dma
  -- "tenure of 36": the committing fall is the first of them, and lies outside mode 0. An entry in it leaves no pend, and claims
  -- where bytes are left.
  pub tenure_steps : SteppedOnce tenure_of_36
  pub tenure_lasts : (k : ℕ) (e : VramDma) → Since tenure_of_36 k e → remaining_of e.arb.wake_tenure ≡ 36 - k
  pub tenure_passes :
      (k : ℕ) (i : FallInput) (double : Bool) (d : VramDma) → Nth tenure_of_36 k i double d → k < 36 → Enters i double d →
      PassedOver (fall_of i double d).dma
  pub tenure_claims :
      (k : ℕ) (i : FallInput) (double : Bool) (d : VramDma) → Nth tenure_of_36 k i double d → k < 36 → Enters i double d →
      0 < d.cursor.remaining → (fall_of i double d).dma.arb.idle_claim ≡ true
  -- readiness: a block is ready at the second fall, the committing one counted, and moves from there on where bytes are left;
  -- not before, whatever the speed, but under a General transfer
  pub ready_steps : SteppedOnce readiness
  pub ready_lasts : (k : ℕ) (e : VramDma) → Since readiness k e → remaining_of e.block.ready_in ≡ 2 - k
  pub ready_waits : (k : ℕ) (e : VramDma) → Since readiness k e → k < 2 → is_general e.cursor.mode ≡ false → moving_of e ≡ false
  pub ready_moves :
      (k : ℕ) (e : VramDma) → Since readiness k e → 2 ≤ k → 0 < e.block.remaining → 0 < e.cursor.remaining → moving_of e ≡ true
  -- whatever came before: an entry in a window is passed over, so one in the tenure leaves no pend
  pub passed : (i : FallInput) (double : Bool) (d : VramDma) → Enters i double d → passes i double d ≡ true → PassedOver (fall_of i double d).dma
  pub in_tenure :
      (i : FallInput) (double : Bool) (d : VramDma) → Enters i double d → 0 < remaining_of d.arb.wake_tenure → PassedOver (fall_of i double d).dma
  -- and outside the windows none is passed over: what decides on taken and on the pend, exactly
  pub entries : (i : FallInput) (double : Bool) (d : VramDma) → Entries i double d
  -- pairs, escape drains, retired instructions, a bus call's set-up cell and an arbitration leave all four; so does LCD off, but
  -- where it latches a block: ready in 2
  pub pair : (d : VramDma) → KeepsWindows d (next_byte_of d).dma
  pub drain : (d : VramDma) → KeepsWindows d (drain_of d).dma
  pub retired : (d : VramDma) → KeepsWindows d (retired_of d)
  pub cell : (cells : Countdown) (d : VramDma) → KeepsWindows d (with_dma_block (with_block_setup_cells cells d.block) d)
  pub arbitration : (oam : OamContention) (d : VramDma) → KeepsWindows d (with_dma_oam oam d)
  pub lcd_off : (d : VramDma) → latches_dark d ≡ false → KeepsWindows d (lcd_disabled_of d)
  pub lcd_off_latches : (d : VramDma) → latches_dark d ≡ true → Since readiness 0 (lcd_disabled_of d)
