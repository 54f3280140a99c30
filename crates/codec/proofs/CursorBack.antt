-- The cursor is read back from where its bytes stand, and any bytes read as one within its widths. Assumes nothing.
use Prim.Native.Nat.{ℕ, ◌^◌, ◌<◌}
use mathlib.Core.Path.{◌≡◌, refl, ap, ◌∙◌}
use mathlib.Core.List.{List}
use lib.Dec.{lit<, lit≤}
use Rattle.arithmetic.proofs.Digits.{number_fits}
use Rattle.arithmetic.specs.Number.{byte_at, bytes_at}
use Rattle.codec.proofs.Fields.{field}
use Rattle.codec.specs.Cursor.{mode_number, mode_of, cursor_bytes, cursor_of}
use Rattle.codec.specs.Fits.{FitsCursor}
use Rattle.console.specs.declared.vram_dma.TransferCursor.{TransferCursor}
use Rattle.console.specs.declared.vram_dma.TransferMode.{TransferMode}
use Rattle.console.specs.declared.vram_dma.TransferMode.TheVariants.{Idle, General, HBlank}

mode_back : (m : TransferMode) → mode_of (mode_number m) ≡ m
mode_back Idle = refl
mode_back General = refl
mode_back HBlank = refl

pub cursor_back :
    (b : List ℕ) (c : TransferCursor) → bytes_at b 0 9 ≡ cursor_bytes c →
    c.source < 2 ^ 16 → c.dest < 2 ^ 16 → c.remaining < 2 ^ 16 → cursor_of b ≡ c
unfolding cursor_bytes cursor_of
cursor_back b c e source dest left =
    let at = field b 0 9 (cursor_bytes c) e in
    λ i.
    record {
      source = at.many 0 2 c.source (lit≤ tt) refl source i;
      dest = at.many 2 2 c.dest (lit≤ tt) refl dest i;
      mode = (ap mode_of (at.byte 4 (mode_number c.mode) (lit< tt) refl) ∙ mode_back c.mode) i;
      remaining = at.many 5 2 c.remaining (lit≤ tt) refl left i;
      quota = at.byte 7 c.quota (lit< tt) refl i;
      escape_byte = at.flag 8 c.escape_byte (lit< tt) refl i;
    }

pub cursor_fits : (b : List ℕ) → ((j : ℕ) → byte_at b j < 256) → FitsCursor (cursor_of b)
unfolding cursor_of
cursor_fits b at =
    record { source = number_fits 2 b 0 at; dest = number_fits 2 b 2 at; remaining = number_fits 2 b 5 at; quota = at 7 }
