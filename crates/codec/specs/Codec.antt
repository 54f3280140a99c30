-- The state as 248 bytes, and back.
use Rattle.std.specs.Prelude.{ℕ, Option, Some, None, cond, List, [], ◌∷◌, ◌++◌, replicate}
use Rattle.arithmetic.specs.Number.{byte_at, bytes_at, number_at, flag_at, same_bytes}
use Rattle.codec.specs.Cursor.{cursor_bytes, cursor_of}
use Rattle.codec.specs.Block.{block_bytes, block_of}
use Rattle.codec.specs.Arb.{arb_bytes, arb_of}
use Rattle.codec.specs.Oam.{oam_bytes, oam_of}
use Rattle.codec.specs.Object.{object_bytes, object_of}
use Rattle.codec.specs.Rest.{latency_of, register_bytes, bank_bytes, console_of}
use Rattle.console.specs.declared.Cgb.{Cgb}
use Rattle.console.specs.declared.vram_dma.VramDma.{VramDma}

abbrev pub joined : List (List ℕ) → List ℕ
joined [] = []
joined (p ∷ ps) = p ++ joined ps

-- the parts in their order
abbrev pub parts_of : Cgb → List (List ℕ)
parts_of s =
    cursor_bytes s.vram_dma.cursor ∷
    block_bytes s.vram_dma.block ∷
    arb_bytes s.vram_dma.arb ∷
    oam_bytes s.vram_dma.oam ∷
    register_bytes s ∷
    s.extra_oam ∷
    bank_bytes s.vram.selected s.console_state ∷
    object_bytes s.object_dma ∷ []

-- with no gap; bytes 102 to 247 are spare and zero
unfoldable pub encode_of : Cgb → List ℕ
encode_of s = joined (parts_of s) ++ replicate 146 0

unfoldable pub dma_of : List ℕ → VramDma
dma_of b = record { cursor = cursor_of b; block = block_of b; arb = arb_of b; oam = oam_of b }

-- what the fields' bytes read as
unfoldable pub state_of : List ℕ → Cgb
state_of b =
    record {
      svbk = byte_at b 41;
      key1_armed = flag_at b 42;
      double_speed = flag_at b 43;
      dmg_compat = flag_at b 44;
      vram_dma = dma_of b;
      speed_switch_blackout = number_at b 45 4;
      speed_switch_wake_latency = latency_of (byte_at b 49) (byte_at b 50);
      switch_relock_debit = flag_at b 51;
      ff72 = byte_at b 52;
      ff73 = byte_at b 53;
      ff74 = byte_at b 54;
      ff75 = byte_at b 55;
      extra_oam = bytes_at b 56 24;
      vram = record { selected = byte_at b 80 };
      console_state = console_of b;
      object_dma = object_of b;
    }

-- that state where the bytes are canonical: exactly what it is written as
unfoldable pub decode_of : List ℕ → Option Cgb
decode_of b = cond (same_bytes (encode_of (state_of b)) b) (Some (state_of b)) None
