-- The HBlank block: bytes 9 to 23.
use Rattle.std.specs.Prelude.{ℕ, List, [], ◌∷◌, ◌++◌}
use mir.Val.{bool_byte}
use Rattle.arithmetic.specs.Number.{digits, byte_at, number_at, flag_at}
use Rattle.console.specs.declared.vram_dma.HblankBlock.{HblankBlock}

unfoldable pub block_bytes : HblankBlock → List ℕ
block_bytes k =
    k.remaining ∷
    digits 8 k.start_edge ++
    bool_byte k.taken ∷
    k.setup_cells.0 ∷
    k.ready_in.0 ∷
    k.seize_falls ∷
    bool_byte k.from_arm ∷
    bool_byte k.arm_ready_probation ∷ []

unfoldable pub block_of : List ℕ → HblankBlock
block_of b =
    record {
      remaining = byte_at b 9;
      start_edge = number_at b 10 8;
      taken = flag_at b 18;
      setup_cells = record { 0 = byte_at b 19 };
      ready_in = record { 0 = byte_at b 20 };
      seize_falls = byte_at b 21;
      from_arm = flag_at b 22;
      arm_ready_probation = flag_at b 23;
    }
