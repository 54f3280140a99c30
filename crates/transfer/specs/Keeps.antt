-- What the calls of this engine leave alone, for whoever counts over many calls: the marks that a fall's commit looks at, and
-- the width of the pointers (document 01, section 1: "Both pointers are the running 16-bit registers").
use Rattle.std.specs.Prelude.{◌<◌, ◌≡◌}
use Rattle.console.specs.declared.vram_dma.TransferCursor.{TransferCursor}
use Rattle.console.specs.declared.vram_dma.VramDma.{VramDma}
use Rattle.transfer.specs.Latch.{lcd_disabled_of, retired_of}
use Rattle.transfer.specs.Pair.{next_byte_of, drain_of}

-- the engine in front of a call and after it
pub record KeepsMarks (d e : VramDma) : Type 0 where
  pub pend : e.arb.pend ≡ d.arb.pend
  pub from_arm : e.arb.pend_from_arm ≡ d.arb.pend_from_arm
  pub granted : e.arb.pend_granted ≡ d.arb.pend_granted
  pub strobe : e.arb.armed_this_fall ≡ d.arb.armed_this_fall
  pub taken : e.block.taken ≡ d.block.taken

pub record SixteenBits (c : TransferCursor) : Type 0 where
  pub source : c.source < 65536
  pub dest : c.dest < 65536

pub record Keeps (d : VramDma) : Type 0 where
  pub pair : KeepsMarks d (next_byte_of d).dma
  pub drain : KeepsMarks d (drain_of d).dma
  pub retired : KeepsMarks d (retired_of d)
  -- LCD off marks the pend as from an arm strobe where it latches a block, and keeps the rest
  pub lcd_pend : (lcd_disabled_of d).arb.pend ≡ d.arb.pend
  pub lcd_granted : (lcd_disabled_of d).arb.pend_granted ≡ d.arb.pend_granted
  pub lcd_armed : (lcd_disabled_of d).arb.armed_this_fall ≡ d.arb.armed_this_fall
  pub lcd_taken : (lcd_disabled_of d).block.taken ≡ d.block.taken
  pub pair_bits : SixteenBits d.cursor → SixteenBits (next_byte_of d).dma.cursor
  pub drain_bits : SixteenBits d.cursor → SixteenBits (drain_of d).dma.cursor
  pub lcd_bits : SixteenBits d.cursor → SixteenBits (lcd_disabled_of d).cursor
  pub retired_bits : SixteenBits d.cursor → SixteenBits (retired_of d).cursor
