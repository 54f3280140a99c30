-- The pair, the escape drain, LCD off and instruction retired keep what refusal 7 tests of the engine. Assumes nothing.
use Prim.Native.Nat.{ℕ, ◌-◌, ◌≤◌}
use native.Mathlib.Omega.{arith}
use mathlib.Core.Bool.{Bool, true, false, cond}
use lib.Dec.{eqb, lit≤}
use borrow.Author.Tests.{eq-eqb}
use Rattle.console.specs.Reached.{Sound}
use Rattle.console.specs.declared.vram_dma.TransferCursor.{TransferCursor}
use Rattle.console.specs.declared.vram_dma.VramDma.{VramDma}
use Rattle.transfer.specs.Latch.{latched_block, latched_of, unclaimed, latches_dark, lcd_disabled_of, retired_of}
use Rattle.transfer.specs.Pair.{left_after, cursor_after, block_after, advanced_of, next_byte_of, with_quota, drain_of}
use Rattle.transfer.proofs.Keeps.{next_keeps, drain_keeps}
use Rattle.transfer.proofs.PairSteps.{block_falls}

either : (b : Bool) (x y n : ℕ) → x ≤ n → y ≤ n → cond b x y ≤ n
either true x y n p q = p
either false x y n p q = q

left_bound : (c : TransferCursor) → c.remaining ≤ 2048 → left_after c ≤ 2048
left_bound c h =
    either (eqb c.dest 0xFFFF) 0 (cond c.escape_byte c.remaining (c.remaining - 1)) 2048 (lit≤ tt)
    (either c.escape_byte c.remaining (c.remaining - 1) 2048 h (omega arith))

advanced : (d : VramDma) → Sound d → Sound (advanced_of d)
unfolding advanced_of cursor_after block_after
advanced d k =
    record {
      quota = omega (arith, k.quota);
      block = omega (arith, block_falls d, k.block);
      left = left_bound d.cursor k.left;
      idle = λ none. rw (eq-eqb _ _ none);
    }

pub next_sound : (d : VramDma) → Sound d → Sound (next_byte_of d).dma
next_sound d k = next_keeps Sound d k (advanced d k)

pub drain_sound : (d : VramDma) → Sound d → Sound (drain_of d).dma
drain_sound d k = drain_keeps Sound d k one (advanced (with_quota 1 d) one)
  where
    one : Sound (with_quota 1 d)
    one = record { quota = lit≤ tt; block = k.block; left = k.left; idle = k.idle }

pub lcd_sound : (d : VramDma) → Sound d → Sound (lcd_disabled_of d)
unfolding lcd_disabled_of latched_of latched_block
lcd_sound d k = by (latches_dark d)
  where
    by : (b : Bool) → Sound (cond b (latched_of (unclaimed d)) (unclaimed d))
    by true = record { quota = k.quota; block = lit≤ tt; left = k.left; idle = k.idle }
    by false = record { quota = k.quota; block = k.block; left = k.left; idle = k.idle }

pub retired_sound : (d : VramDma) → Sound d → Sound (retired_of d)
retired_sound d k = record { quota = k.quota; block = k.block; left = k.left; idle = k.idle }
