-- How many pairs a transfer still hands out (document 01, section 3: what a pair takes from left, the owed escape, the carry past
-- FFFFh and the block), as one number that each pair lowers by 1.
use Rattle.std.specs.Prelude.{ℕ, ◌+◌, ◌-◌, ◌<◌, min, ◌≡◌, true, false, cond, ◌↔◌, ltb, eqb}
use Rattle.countdown.specs.Countdown.{active_of}
use Rattle.console.specs.Modes.{is_general}
use Rattle.console.specs.declared.vram_dma.TransferCursor.{TransferCursor}
use Rattle.console.specs.declared.vram_dma.VramDma.{VramDma}
use Rattle.transfer.specs.Pair.{moving_of, left_after, next_byte_of}
use Rattle.transfer.specs.PairSteps.{Ready}

-- left, and one more where an escape is owed, as far as the destination goes; at left 0 none, even with an escape owed
abbrev pub pairs_left : TransferCursor → ℕ
pairs_left c = cond (ltb 0 c.remaining) (min (c.remaining + cond c.escape_byte 1 0) (65536 - c.dest)) 0

-- those of them that may move before the next fall: all in mode General, else as many as a ready block has
abbrev pub movable : VramDma → ℕ
movable d =
    cond (is_general d.cursor.mode) (pairs_left d.cursor)
    (cond (active_of d.block.ready_in) 0 (min d.block.remaining (pairs_left d.cursor)))

-- of an engine whose destination is a 16-bit register
pub record PairsLeft (d : VramDma) : Type 0 where
  -- the engine moves exactly while one may move
  pub moving : (moving_of d ≡ true) ↔ (0 < movable d)
  -- each pair is one of them
  pub one_left : Ready d → pairs_left (next_byte_of d).dma.cursor + 1 ≡ pairs_left d.cursor
  pub one_movable : Ready d → movable (next_byte_of d).dma + 1 ≡ movable d
  -- where no escape is owed they are the least of left and 65,536 − destination
  pub unowed : d.cursor.escape_byte ≡ false → pairs_left d.cursor ≡ min d.cursor.remaining (65536 - d.cursor.dest)
  -- of two pairs the second comes unless the first brings left to 0
  pub of_two : 0 < d.cursor.remaining → min 2 (pairs_left d.cursor) ≡ cond (eqb (left_after d.cursor) 0) 1 2
