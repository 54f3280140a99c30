-- The fall keeps what refusal 7 tests of the engine. Assumes nothing.
use Prim.Native.Nat.{◌≤◌}
use mathlib.Core.Path.{◌≡◌, refl}
use mathlib.Core.Bool.{Bool, true, false}
use lib.Dec.{lit≤}
use Rattle.console.specs.Reached.{Sound}
use Rattle.console.specs.declared.vram_dma.HaltArbiter.{HaltArbiter}
use Rattle.console.specs.declared.vram_dma.HblankBlock.{HblankBlock}
use Rattle.console.specs.declared.vram_dma.VramDma.{VramDma}
use Rattle.transfer.specs.Pair.{moving_of, quota_of}
use Rattle.fall_stages.specs.Fall.{settled_of, observed_of, judged_block, probation_of, dropped_block, halt_latch_of, refilled_of, gated_of}
use Rattle.fall_stages.specs.Fall.{blinds_of, commits, commit_block, commit_of, tenure_of, pend_of, readied_block, readiness_of}
use Rattle.fall_stages.specs.Fall.{seized_block, seizure_of, started_of, served_of, fall_of}
use Rattle.fall_stages.specs.declared.FallInput.{FallInput}
use Rattle.fall_stages.specs.declared.View.{View}
use Rattle.fall_stages.proofs.Steps.{Course, settled, gated, overflowed, served, course, fall_steps, v, t}

judged : (back : Bool) (b : HblankBlock) → b.remaining ≤ 16 → (judged_block back b).remaining ≤ 16
unfolding judged_block
judged true b h = lit≤ tt
judged false b h = h

dropped : (joins : Bool) (b : HblankBlock) → b.remaining ≤ 16 → (dropped_block joins b).remaining ≤ 16
unfolding dropped_block
dropped true b h = lit≤ tt
dropped false b h = h

committed : (c : Bool) (w : View) (a : HaltArbiter) (b : HblankBlock) → b.remaining ≤ 16 → (commit_block c w a b).remaining ≤ 16
unfolding commit_block
committed true w a b h = lit≤ tt
committed false w a b h = h

started_block : (w : View) (d : VramDma) → d.block.remaining ≤ 16 → (started_of w d).block.remaining ≤ 16
unfolding started_of halt_latch_of probation_of observed_of
started_block w d h = dropped _ _ (judged _ _ h)

served_block : (c : Bool) (w : View) (d : VramDma) → d.block.remaining ≤ 16 → (served_of c w d).block.remaining ≤ 16
unfolding served_of seizure_of seized_block refilled_of readiness_of readied_block pend_of tenure_of commit_of
served_block c w d h = committed c w d.arb d.block h

quota_bound : (m double : Bool) → quota_of m double ≤ 2
quota_bound true true = lit≤ tt
quota_bound true false = lit≤ tt
quota_bound false double = lit≤ tt

module _ (i : FallInput) (double : Bool) (d : VramDma) (k : Sound d) where
  block : Course i double d → (fall_of i double d).dma.block.remaining ≤ 16
  unfolding settled_of gated_of refilled_of blinds_of
  block (settled p e) = rw e k.block
  block (gated p g e) = rw e (started_block (v i double d) d k.block)
  block (overflowed p g o e) = rw e k.block
  block (served p g o e) =
      let c = commits (v i double d) (t i double d) in
      rw e (served_block c (v i double d) (t i double d) (started_block (v i double d) d k.block))

  quota : (r : Bool) → (fall_of i double d).refused ≡ r → (fall_of i double d).dma.cursor.quota ≤ 2
  quota false n = rw ((fall_steps i double d).quota n) (quota_bound (moving_of (fall_of i double d).dma) double)
  quota true n = rw ((fall_steps i double d).refused_keeps n).0 k.quota

  pub fall_sound : Sound (fall_of i double d).dma
  fall_sound =
      record {
        quota = quota (fall_of i double d).refused refl;
        block = block (course i double d);
        left = rw (fall_steps i double d).keeps_cursor k.left;
        idle = rw (fall_steps i double d).keeps_cursor k.idle;
      }
