-- The cut does what document 01 says of it (specs, `CutSteps`). Assumes nothing.
use Prim.Native.Nat.{◌-◌, ◌<◌}
use native.Mathlib.Omega.{arith}
use mathlib.Core.Path.{◌≡◌, refl}
use mathlib.Core.Bool.{Bool, true, false, cond, not, ◌&&◌, false≢true}
use mathlib.Core.Logic.{◌↔◌}
use lib.Dec.{ltb}
use borrow.Author.Tests.{ltb-true, ltb-false, lt-ltb, le-ltb}
use Rattle.std.proofs.lemmas.Bool.{and_parts}
use Rattle.countdown.specs.Countdown.{armed, cleared, active_of}
use Rattle.console.specs.Set.{with_cursor_mode, with_cursor_escape_byte, with_block_remaining, with_block_ready_in, with_block_setup_cells}
use Rattle.console.specs.Set.{with_arb_granted_ahead}
use Rattle.console.specs.Set.{with_arb_grant_counted}
use Rattle.console.specs.declared.vram_dma.TransferMode.TheVariants as mode
use Rattle.console.specs.declared.vram_dma.VramDma.{VramDma}
use Rattle.cut.specs.Cut.{ready_block, outcome_of, ungranted, cut_of, discarded_of, graded_of, upward_of, engine_after}
use Rattle.cut.specs.CutSteps.{ReadyBlock, every_arb, CutSteps}
use Rattle.cut.specs.declared.SwitchOutcome.TheVariants.{None, Discarded, Cut}

module _ (d : VramDma) where
  ready_block_lem : (ready_block d ≡ true) ↔ ReadyBlock d
  unfolding ready_block
  ready_block_lem = (λ e. by (ltb 0 d.block.remaining) (ltb 0 d.block.ready_in.0) refl refl e, back)
    where
      by :
          (some waiting : Bool) → ltb 0 d.block.remaining ≡ some → ltb 0 d.block.ready_in.0 ≡ waiting →
          (some && not waiting) ≡ true → ReadyBlock d
      by true false p q e =
          let low = ltb-false 0 d.block.ready_in.0 q in
          record { latched = ltb-true 0 d.block.remaining p; ready = omega arith }
      by true true p q e = absurd (false≢true e)
      by false waiting p q e = absurd (false≢true e)

      back : ReadyBlock d → (ltb 0 d.block.remaining && not (ltb 0 d.block.ready_in.0)) ≡ true
      back k = rw (lt-ltb 0 d.block.remaining k.latched, le-ltb 0 d.block.ready_in.0 (omega (arith, k.ready)))

-- a ready block has bytes
latched : (d : VramDma) → ready_block d ≡ true → ltb 0 d.block.remaining ≡ true
unfolding ready_block
latched d e = (and_parts (ltb 0 d.block.remaining) (not (active_of d.block.ready_in)) e).0

module _ (d : VramDma) (some : ltb 0 d.block.remaining ≡ true) where
  graded_cut : ready_block d ≡ true → graded_of d ≡ cut_of (ungranted d)
  unfolding graded_of
  graded_cut ready = rw (some, ready)

  graded_discard : ready_block d ≡ false → graded_of d ≡ discarded_of (ungranted d)
  unfolding graded_of
  graded_discard ready = rw (some, ready)

  lowered :
      (ready : Bool) → ready_block d ≡ ready →
      (upward_of d).arb ≡ every_arb (with_arb_granted_ahead (d.arb.granted_ahead - 1) (with_arb_grant_counted false d.arb))
  unfolding upward_of cut_of discarded_of ungranted
  lowered true ready = rw (graded_cut ready)
  lowered false ready = rw (graded_discard ready)

lowers_only :
    (d : VramDma) → 0 < d.block.remaining →
    (upward_of d).arb ≡ every_arb (with_arb_granted_ahead (d.arb.granted_ahead - 1) (with_arb_grant_counted false d.arb))
lowers_only d some = lowered d (lt-ltb 0 d.block.remaining some) (ready_block d) refl

cuts :
    (d : VramDma) → ready_block d ≡ true →
    (outcome_of true d ≡ Cut) ×
    ((upward_of d).cursor.mode ≡ mode.Idle) ×
    ((upward_of d).block.remaining ≡ 1) ×
    ((upward_of d).cursor.escape_byte ≡ true) ×
    ((upward_of d).cursor.remaining ≡ d.cursor.remaining)
unfolding outcome_of upward_of cut_of ungranted
cuts d ready =
    let g : graded_of d ≡ cut_of (ungranted d) = graded_cut d (latched d ready) ready in
    (rw (latched d ready, ready), rw g, rw g, rw g, rw g)

cuts_only :
    (d : VramDma) → ready_block d ≡ true →
    ((upward_of d).cursor ≡ with_cursor_mode mode.Idle (with_cursor_escape_byte true d.cursor)) ×
    ((upward_of d).block ≡ with_block_remaining 1 d.block)
unfolding upward_of cut_of ungranted
cuts_only d ready =
    let g : graded_of d ≡ cut_of (ungranted d) = graded_cut d (latched d ready) ready in (rw g, rw g)

discards :
    (d : VramDma) → 0 < d.block.remaining → ready_block d ≡ false →
    (outcome_of true d ≡ Discarded) × ((upward_of d).block.remaining ≡ 0) × ((upward_of d).cursor ≡ d.cursor)
unfolding outcome_of upward_of discarded_of ungranted
discards d some ready =
    let t : ltb 0 d.block.remaining ≡ true = lt-ltb 0 d.block.remaining some in
    let g : graded_of d ≡ discarded_of (ungranted d) = graded_discard d t ready in
    (rw (t, ready), rw g, rw g)

discards_only :
    (d : VramDma) → 0 < d.block.remaining → ready_block d ≡ false →
    (upward_of d).block ≡ with_block_remaining 0 (with_block_ready_in cleared (with_block_setup_cells cleared d.block))
unfolding upward_of discarded_of ungranted
discards_only d some ready = rw (graded_discard d (lt-ltb 0 d.block.remaining some) ready)

no_block :
    (d : VramDma) → d.block.remaining ≡ 0 →
    (outcome_of true d ≡ None) × ((upward_of d).cursor ≡ d.cursor) × ((upward_of d).block ≡ d.block)
unfolding outcome_of upward_of graded_of
no_block d none =
    let t : ltb 0 d.block.remaining ≡ false = le-ltb 0 d.block.remaining (omega arith) in (rw t, rw t, rw t)

no_block_arb : (d : VramDma) → d.block.remaining ≡ 0 → (upward_of d).arb ≡ every_arb d.arb
unfolding upward_of graded_of
no_block_arb d none = rw (le-ltb 0 d.block.remaining (omega arith))

graded_oam : (latched ready : Bool) (d : VramDma) → (cond latched (cond ready (cut_of (ungranted d)) (discarded_of (ungranted d))) d).oam ≡ d.oam
unfolding cut_of discarded_of ungranted
graded_oam true true d = refl
graded_oam true false d = refl
graded_oam false ready d = refl

keeps_oam : (d : VramDma) → (upward_of d).oam ≡ d.oam
unfolding upward_of graded_of
keeps_oam d = graded_oam (ltb 0 d.block.remaining) (ready_block d) d

every : (d : VramDma) → ((upward_of d).arb.pend ≡ false) × ((upward_of d).arb.wake_pend_blind ≡ armed 6)
unfolding upward_of
every d = (refl, refl)

downward : (d : VramDma) → (outcome_of false d ≡ None) × (engine_after false d ≡ d)
unfolding outcome_of engine_after
downward d = (refl, refl)

pub cut_steps : CutSteps
cut_steps =
    record {
      ready_block_lem = ready_block_lem;
      lowers = λ d some. rw (lowers_only d some);
      lowers_only = lowers_only;
      cuts = cuts;
      cuts_only = cuts_only;
      discards = discards;
      discards_only = discards_only;
      every = every;
      keeps_oam = keeps_oam;
      no_block = no_block;
      no_block_arb = no_block_arb;
      downward = downward;
    }
