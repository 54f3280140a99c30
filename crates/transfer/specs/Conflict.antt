-- Whether a byte moves at the next bus call, and the write conflict (vram_dma.rs, `will_move`,
-- `vram_dma_write_conflict_source`; document 01, section 4: "write conflict .. act as the Rust methods").
use Rattle.std.specs.Prelude.{ℕ, Bool, cond, not, ◌&&◌, ltb, leb, eqb, Option, Some, None}
use Rattle.countdown.specs.Countdown.{active_of}
use Rattle.console.specs.declared.vram_dma.VramDma.{VramDma}
use Rattle.transfer.specs.Questions.{write_address}
use Rattle.transfer.specs.Pair.{moving_of}

unfoldable pub will_move : VramDma → Bool
will_move d = not (active_of d.block.setup_cells) && ltb 0 d.cursor.quota && moving_of d

-- double speed, a seizure of two falls or more, a block with bytes left, at the address that it writes
unfoldable pub conflicts : Bool → ℕ → VramDma → Bool
conflicts double a d =
    double
    && leb 2 d.block.seize_falls
    && ltb 0 d.block.remaining
    && ltb 0 d.cursor.remaining
    && eqb a (write_address d.cursor)

unfoldable pub conflict_of : Bool → ℕ → VramDma → Option ℕ
conflict_of double a d = cond (conflicts double a d) (Some d.cursor.source) None
