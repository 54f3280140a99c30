-- The pair, the escape drain, LCD off and instruction retired leave alone what `Keeps` says (specs). Assumes nothing.
use native.Mathlib.Omega.{arith}
use mathlib.Core.Path.{◌≡◌, refl}
use mathlib.Core.Bool.{Bool, true, false, cond, ◌&&◌}
use lib.Dec.{ltb}
use Rattle.std.specs.Prelude.{Some, None}
use Rattle.console.specs.declared.vram_dma.VramDma.{VramDma}
use Rattle.transfer.specs.Keeps.{KeepsMarks, SixteenBits, Keeps}
use Rattle.transfer.specs.Latch.{latched_block, latched_of, unclaimed, latches_dark, lcd_disabled_of, retired_of}
use Rattle.transfer.specs.Pair.{moving_of, cursor_after, block_after, arb_after, advanced_of, pair_of, cause_of, next_byte_of, with_quota, drain_of}
use Rattle.transfer.specs.declared.pair.NextByte.{NextByte}

pub keeps_refl : (d : VramDma) → KeepsMarks d d
keeps_refl d = record { pend = refl; from_arm = refl; granted = refl; strobe = refl; taken = refl }

-- a property of engines that a pair keeps, kept by the call that may take one
pub next_keeps : (P : VramDma → Type 0) (d : VramDma) → P d → P (advanced_of d) → P (next_byte_of d).dma
unfolding next_byte_of
next_keeps P d same moved = by (ltb 0 d.cursor.quota && moving_of d)
  where
    by :
        (b : Bool) →
        (let taken : NextByte = record { answer = Some (pair_of d.cursor, cause_of d.cursor); dma = advanced_of d } in
        P (cond b taken (record { answer = None; dma = d })).dma)
    by true = moved
    by false = same

pub drain_keeps : (P : VramDma → Type 0) (d : VramDma) → P d → P (with_quota 1 d) → P (advanced_of (with_quota 1 d)) → P (drain_of d).dma
unfolding drain_of
drain_keeps P d same one moved = by (d.cursor.escape_byte && moving_of d)
  where
    by : (b : Bool) → P (cond {A = NextByte} b (next_byte_of (with_quota 1 d)) (record { answer = None; dma = d })).dma
    by true = next_keeps P (with_quota 1 d) one moved
    by false = same

advanced_marks : (d : VramDma) → KeepsMarks d (advanced_of d)
unfolding advanced_of block_after arb_after
advanced_marks d = record { pend = refl; from_arm = refl; granted = refl; strobe = refl; taken = refl }

drained_marks : (d : VramDma) → KeepsMarks d (advanced_of (with_quota 1 d))
unfolding advanced_of block_after arb_after
drained_marks d = record { pend = refl; from_arm = refl; granted = refl; strobe = refl; taken = refl }

one_marks : (d : VramDma) → KeepsMarks d (with_quota 1 d)
one_marks d = record { pend = refl; from_arm = refl; granted = refl; strobe = refl; taken = refl }

retired_marks : (d : VramDma) → KeepsMarks d (retired_of d)
retired_marks d = record { pend = refl; from_arm = refl; granted = refl; strobe = refl; taken = refl }

advanced_bits : (d : VramDma) → SixteenBits (advanced_of d).cursor
unfolding advanced_of cursor_after
advanced_bits d = record { source = omega arith; dest = omega arith }

-- a part of the engine that neither branch of LCD off changes
module _ {A : Type 0} (part : VramDma → A) (d : VramDma) where
  lcd_keeps : part (latched_of (unclaimed d)) ≡ part d → part (unclaimed d) ≡ part d → part (lcd_disabled_of d) ≡ part d
  unfolding lcd_disabled_of
  lcd_keeps served not_served = by (latches_dark d)
    where
      by : (b : Bool) → part (cond b (latched_of (unclaimed d)) (unclaimed d)) ≡ part d
      by true = served
      by false = not_served

pub keeps : (d : VramDma) → Keeps d
unfolding latched_of latched_block
keeps d =
    record {
      pair = next_keeps (KeepsMarks d) d (keeps_refl d) (advanced_marks d);
      drain = drain_keeps (KeepsMarks d) d (keeps_refl d) (one_marks d) (drained_marks d);
      retired = retired_marks d;
      lcd_pend = lcd_keeps (λ x. x.arb.pend) d refl refl;
      lcd_granted = lcd_keeps (λ x. x.arb.pend_granted) d refl refl;
      lcd_armed = lcd_keeps (λ x. x.arb.armed_this_fall) d refl refl;
      lcd_taken = lcd_keeps (λ x. x.block.taken) d refl refl;
      pair_bits = λ k. next_keeps (λ x. SixteenBits x.cursor) d k (advanced_bits d);
      drain_bits = λ k. drain_keeps (λ x. SixteenBits x.cursor) d k (record { source = k.source; dest = k.dest }) (advanced_bits (with_quota 1 d));
      lcd_bits = λ k. rw (lcd_keeps (λ x. x.cursor) d refl refl) k;
      retired_bits = λ k. k;
    }
