-- FF55 (document 01, section 1), written and read.
use Rattle.std.specs.Prelude.{ℕ, ◌+◌, ◌-◌, ◌*◌, ◌/◌, ◌%◌, ◌<◌, ◌≡◌, Bool, true, false, cond, ◌&&◌, ltb, leb}
use Rattle.console.specs.Modes.{is_hblank}
use Rattle.console.specs.Set.{with_cursor_mode, with_cursor_remaining, with_arb_granted_ahead, with_arb_grant_counted}
use Rattle.console.specs.Set.{with_arb_pend_granted, with_arb_armed_this_fall}
use Rattle.console.specs.Set.{with_dma_cursor, with_dma_arb}
use Rattle.console.specs.declared.vram_dma.HaltArbiter.{HaltArbiter}
use Rattle.console.specs.declared.vram_dma.TransferCursor.{TransferCursor}
use Rattle.console.specs.declared.vram_dma.TransferMode.{TransferMode}
use Rattle.console.specs.declared.vram_dma.TransferMode.TheVariants.{Idle, General, HBlank}
use Rattle.console.specs.declared.vram_dma.VramDma.{VramDma}
use Rattle.transfer.specs.Latch.{latched_of}

-- "left = ((v mod 128) + 1) × 16"
abbrev pub length_of : ℕ → ℕ
length_of v = (v % 128 + 1) * 16

-- "and the grant marks are cleared": how many blocks are granted, whether one is counted, whether the pend is granted
abbrev pub grants_cleared : HaltArbiter → HaltArbiter
grants_cleared a = with_arb_granted_ahead 0 (with_arb_grant_counted false (with_arb_pend_granted false a))

-- a mode and a length; the pointers, the quota and an owed escape stay
abbrev pub paced : TransferMode → ℕ → TransferCursor → TransferCursor
paced m length c = with_cursor_mode m (with_cursor_remaining length c)

-- "Bit 7 set arms HBlank; with the LCD off it also latches a block of 16, ready in 2"
abbrev pub armed_flags : ℕ → VramDma → VramDma
armed_flags length d =
    with_dma_cursor (paced HBlank length d.cursor) (with_dma_arb (with_arb_armed_this_fall true d.arb) d)

unfoldable pub armed_of : ℕ → Bool → VramDma → VramDma
armed_of length lcd d = cond lcd (armed_flags length d) (latched_of (armed_flags length d))

-- "Bit 7 clear while armed only disarms, storing left"; "A latched block survives"
unfoldable pub cancelled_of : ℕ → VramDma → VramDma
cancelled_of length d = with_dma_cursor (paced Idle length d.cursor) d

-- "otherwise it starts a General transfer"; "A latched block survives"
unfoldable pub general_started : ℕ → VramDma → VramDma
general_started length d = with_dma_cursor (paced General length d.cursor) d

-- "FF55 with value v"; armed is mode HBlank
unfoldable pub hdma5_written : ℕ → Bool → VramDma → VramDma
hdma5_written v lcd d =
    let cleared = with_dma_arb (grants_cleared d.arb) d in
    cond (leb 128 v) (armed_of (length_of v) lcd cleared)
    (cond (is_hblank d.cursor.mode) (cancelled_of (length_of v) cleared) (general_started (length_of v) cleared))

-- "visible = left / 16 − granted (not below 0)"
abbrev pub visible : VramDma → ℕ
visible d = d.cursor.remaining / 16 - d.arb.granted_ahead

-- "bit 7 clear exactly if armed and visible > 0"
abbrev pub active : VramDma → Bool
active d = is_hblank d.cursor.mode && ltb 0 (visible d)

-- "low bits (visible − 1) mod 128", where 0 − 1 is 127 as in the Rust's wrapping subtraction
abbrev pub low_bits : VramDma → ℕ
low_bits d = (visible d % 128 + 127) % 128

unfoldable pub status_byte : VramDma → ℕ
status_byte d = cond (active d) (low_bits d) (128 + low_bits d)

-- what is shown of the reading, for every state: bit 7 is clear exactly if armed and visible > 0, the low bits are
-- (visible − 1) mod 128, and it is a byte
pub record Reading (d : VramDma) : Type 0 where
  pub clear : status_byte d / 128 ≡ 0 → (is_hblank d.cursor.mode ≡ true) × (0 < visible d)
  pub only : is_hblank d.cursor.mode ≡ true → 0 < visible d → status_byte d / 128 ≡ 0
  pub low : status_byte d % 128 ≡ (visible d + 127) % 128
  pub byte : status_byte d < 256
