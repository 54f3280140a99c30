-- What a fall refills (specs, `Refills`). Assumes nothing.
use Prim.Native.Nat.{◌<◌, ◌≤◌}
use mathlib.Core.Path.{◌≡◌, ap, ◌∙◌}
use mathlib.Core.Bool.{Bool, true, false, cond, or-true}
use lib.Dec.{lit≤}
use borrow.Author.Tests.{lt-ltb}
use Rattle.console.specs.Modes.{is_general}
use Rattle.console.specs.declared.vram_dma.TransferCursor.{TransferCursor}
use Rattle.console.specs.declared.vram_dma.TransferMode.TheVariants as mode
use Rattle.console.specs.declared.vram_dma.VramDma.{VramDma}
use Rattle.transfer.specs.Pair.{moving_of, quota_of}
use Rattle.transfer.proofs.PairSteps.{pair_steps}
use Rattle.fall_stages.specs.Fall.{fall_of}
use Rattle.fall_stages.specs.Refills.{Refills}
use Rattle.fall_stages.specs.declared.FallInput.{FallInput}
use Rattle.fall_stages.proofs.Steps.{fall_steps}

bound : (m double : Bool) → quota_of m double ≤ cond double 1 2
bound true true = lit≤ tt
bound true false = lit≤ tt
bound false true = lit≤ tt
bound false false = lit≤ tt

-- General with bytes left moves, whatever block stands
pub general_moves : (d : VramDma) → d.cursor.mode ≡ mode.General → 0 < d.cursor.remaining → moving_of d ≡ true
unfolding moving_of
general_moves d general some = rw (ap is_general general, lt-ltb 0 d.cursor.remaining some, or-true)

module _ (i : FallInput) (double : Bool) (d : VramDma) where
  bounded : (fall_of i double d).refused ≡ false → (fall_of i double d).dma.cursor.quota ≤ cond double 1 2
  bounded n = rw ((fall_steps i double d).quota n) (bound (moving_of (fall_of i double d).dma) double)

  -- a fall keeps mode and left
  mode_kept : (fall_of i double d).dma.cursor.mode ≡ d.cursor.mode
  mode_kept = ap (λ (c : TransferCursor). c.mode) (fall_steps i double d).keeps_cursor

  left_kept : (fall_of i double d).dma.cursor.remaining ≡ d.cursor.remaining
  left_kept = ap (λ (c : TransferCursor). c.remaining) (fall_steps i double d).keeps_cursor

  general :
      (fall_of i double d).refused ≡ false → d.cursor.mode ≡ mode.General → 0 < d.cursor.remaining →
      (fall_of i double d).dma.cursor.quota ≡ cond double 1 2
  general n mode some =
      rw ((fall_steps i double d).quota n, general_moves (fall_of i double d).dma (mode_kept ∙ mode) (rw left_kept some))

  spent : (fall_of i double d).refused ≡ false → d.cursor.remaining ≡ 0 → (fall_of i double d).dma.cursor.quota ≡ 0
  spent n none = rw ((fall_steps i double d).quota n, pair_steps.never (fall_of i double d).dma (left_kept ∙ none))

pub refills : (i : FallInput) (double : Bool) (d : VramDma) → Refills i double d
refills i double d = record { bounded = bounded i double d; general = general i double d; spent = spent i double d }
