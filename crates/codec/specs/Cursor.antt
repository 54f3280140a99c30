-- The transfer cursor: bytes 0 to 8.
use Rattle.std.specs.Prelude.{ℕ, cond, List, [], ◌∷◌, ◌++◌, eqb}
use mir.Val.{bool_byte}
use Rattle.arithmetic.specs.Number.{digits, byte_at, number_at, flag_at}
use Rattle.console.specs.declared.vram_dma.TransferCursor.{TransferCursor}
use Rattle.console.specs.declared.vram_dma.TransferMode.{TransferMode}
use Rattle.console.specs.declared.vram_dma.TransferMode.TheVariants.{Idle, General, HBlank}

abbrev pub mode_number : TransferMode → ℕ
mode_number Idle = 0
mode_number General = 1
mode_number HBlank = 2

abbrev pub mode_of : ℕ → TransferMode
mode_of x = cond (eqb x 0) Idle (cond (eqb x 1) General HBlank)

unfoldable pub cursor_bytes : TransferCursor → List ℕ
cursor_bytes c =
    digits 2 c.source ++
    digits 2 c.dest ++
    mode_number c.mode ∷
    digits 2 c.remaining ++
    c.quota ∷
    bool_byte c.escape_byte ∷ []

unfoldable pub cursor_of : List ℕ → TransferCursor
cursor_of b =
    record {
      source = number_at b 0 2;
      dest = number_at b 2 2;
      mode = mode_of (byte_at b 4);
      remaining = number_at b 5 2;
      quota = byte_at b 7;
      escape_byte = flag_at b 8;
    }
