-- The next pair (document 01, section 3; vram_dma.rs, `next_byte`) and the escape drain (section 4).
use Rattle.std.specs.Prelude.{ℕ, ◌+◌, ◌-◌, ◌^◌, ◌%◌, Bool, false, cond, not, ◌&&◌, ◌||◌, ltb, eqb, Option, Some, None}
use Rattle.countdown.specs.Countdown.{active_of}
use Rattle.console.specs.Modes.{is_general}
use Rattle.console.specs.Set.{with_cursor_source, with_cursor_dest, with_cursor_mode, with_cursor_remaining, with_cursor_quota, with_cursor_escape_byte}
use Rattle.console.specs.Set.{with_block_remaining, with_block_from_arm, with_arb_granted_ahead, with_arb_park_waits_for_fetch, with_arb_idle_claim}
use Rattle.console.specs.Set.{with_dma_cursor, with_dma_block, with_dma_arb}
use Rattle.console.specs.declared.vram_dma.HaltArbiter.{HaltArbiter}
use Rattle.console.specs.declared.vram_dma.HblankBlock.{HblankBlock}
use Rattle.console.specs.declared.vram_dma.TransferCursor.{TransferCursor}
use Rattle.console.specs.declared.vram_dma.TransferMode.TheVariants as mode
use Rattle.console.specs.declared.vram_dma.VramDma.{VramDma}
use Rattle.transfer.specs.Questions.{write_address}
use Rattle.transfer.specs.declared.pair.BytePair.{BytePair}
use Rattle.transfer.specs.declared.pair.Cause.{Cause}
use Rattle.transfer.specs.declared.pair.Cause.TheVariants.{GoingOn, CountedOut, Carried}
use Rattle.transfer.specs.declared.pair.NextByte.{NextByte}

-- the engine is moving: "At left 0 the engine never moves, whatever block stands and even with an escape owed"
unfoldable pub moving_of : VramDma → Bool
moving_of d =
    let left = ltb 0 d.cursor.remaining in
    (ltb 0 d.block.remaining && left && not (active_of d.block.ready_in)) || (is_general d.cursor.mode && left)

-- section 2: "Quota is 0 if not moving, else 2 at single speed, 1 at double"
abbrev pub quota_of : Bool → Bool → ℕ
quota_of moving double = cond moving (cond double 1 2) 0

-- "1 from left (or, instead, the owed escape)"; nothing where the destination was carried
abbrev pub left_if : Bool → TransferCursor → ℕ
left_if carried c = cond carried 0 (cond c.escape_byte c.remaining (c.remaining - 1))

-- "Destination leaving FFFFh becomes 0 and left becomes 0"
abbrev pub left_after : TransferCursor → ℕ
left_after c = left_if (eqb c.dest 0xFFFF) c

-- "Each pair takes 1 from quota"; "Source wraps"; "Left 0 makes the mode Idle"
unfoldable pub cursor_after : TransferCursor → TransferCursor
cursor_after c =
    with_cursor_source ((c.source + 1) % 2 ^ 16)
    (with_cursor_dest ((c.dest + 1) % 2 ^ 16)
    (with_cursor_mode (cond (eqb (left_after c) 0) mode.Idle c.mode)
    (with_cursor_remaining (left_after c) (with_cursor_quota (c.quota - 1) (with_cursor_escape_byte false c)))))

-- "and 1 from a standing block; a block's last pair .. clears the from-arm and park marks"
unfoldable pub block_after : HblankBlock → HblankBlock
block_after b = with_block_remaining (b.remaining - 1) (with_block_from_arm (b.from_arm && not (eqb b.remaining 1)) b)

-- "a block's last pair lowers granted (never below 0)"; "Left 0 .. drops the idle claim"
unfoldable pub arb_after : Bool → Bool → HaltArbiter → HaltArbiter
arb_after last ended a =
    with_arb_granted_ahead (cond last (a.granted_ahead - 1) a.granted_ahead)
    (with_arb_park_waits_for_fetch (a.park_waits_for_fetch && not last) (with_arb_idle_claim (a.idle_claim && not ended) a))

unfoldable pub advanced_of : VramDma → VramDma
advanced_of d =
    with_dma_cursor (cursor_after d.cursor)
    (with_dma_block (block_after d.block)
    (with_dma_arb (arb_after (eqb d.block.remaining 1) (eqb (left_after d.cursor) 0) d.arb) d))

-- "(source, 8000h + destination mod 8192)"
abbrev pub pair_of : TransferCursor → BytePair
pair_of c = record { source = c.source; dest = write_address c }

-- document 02, A3: "one of going on, counted out (left fell to 0), or carried (past FFFFh), this also where left would have
-- reached 0 anyway"; by whether the destination was carried, and what is left after the pair
abbrev pub cause_if : Bool → ℕ → Cause
cause_if carried left = cond carried Carried (cond (eqb left 0) CountedOut GoingOn)

abbrev pub cause_of : TransferCursor → Cause
cause_of c = cause_if (eqb c.dest 0xFFFF) (left_after c)

-- what a next-pair call and an escape drain answer: the pair, if one came, with how the run goes on
abbrev pub NextAnswer : Type 0
NextAnswer = Option (BytePair × Cause)

-- "if quota > 0 and the engine is moving, else None and no change"
unfoldable pub next_byte_of : VramDma → NextByte
next_byte_of d =
    cond (ltb 0 d.cursor.quota && moving_of d)
    (record { answer = Some (pair_of d.cursor, cause_of d.cursor); dma = advanced_of d })
    (record { answer = None; dma = d })

abbrev pub with_quota : ℕ → VramDma → VramDma
with_quota q d = with_dma_cursor (with_cursor_quota q d.cursor) d

-- section 4: "hands out one pair if an escape is owed and the engine moves, and then leaves quota 0, else it changes nothing"
unfoldable pub drain_of : VramDma → NextByte
drain_of d =
    cond (d.cursor.escape_byte && moving_of d) (next_byte_of (with_quota 1 d)) (record { answer = None; dma = d })
