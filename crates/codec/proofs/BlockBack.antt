-- The block is read back from where its bytes stand, and any bytes read as one within its widths. Assumes nothing.
use Prim.Native.Nat.{ℕ, ◌^◌, ◌<◌}
use mathlib.Core.Path.{◌≡◌, refl}
use mathlib.Core.List.{List}
use lib.Dec.{lit<, lit≤}
use Rattle.arithmetic.proofs.Digits.{number_fits}
use Rattle.arithmetic.specs.Number.{byte_at, bytes_at}
use Rattle.codec.proofs.Fields.{field}
use Rattle.codec.specs.Block.{block_bytes, block_of}
use Rattle.codec.specs.Fits.{FitsBlock}
use Rattle.console.specs.declared.vram_dma.HblankBlock.{HblankBlock}

pub block_back : (b : List ℕ) (k : HblankBlock) → bytes_at b 9 15 ≡ block_bytes k → k.start_edge < 2 ^ 64 → block_of b ≡ k
unfolding block_bytes block_of
block_back b k e edge =
    let at = field b 9 15 (block_bytes k) e in
    λ i.
    record {
      remaining = at.byte 0 k.remaining (lit< tt) refl i;
      start_edge = at.many 1 8 k.start_edge (lit≤ tt) refl edge i;
      taken = at.flag 9 k.taken (lit< tt) refl i;
      setup_cells = record { 0 = at.byte 10 k.setup_cells.0 (lit< tt) refl i };
      ready_in = record { 0 = at.byte 11 k.ready_in.0 (lit< tt) refl i };
      seize_falls = at.byte 12 k.seize_falls (lit< tt) refl i;
      from_arm = at.flag 13 k.from_arm (lit< tt) refl i;
      arm_ready_probation = at.flag 14 k.arm_ready_probation (lit< tt) refl i;
    }

pub block_fits : (b : List ℕ) → ((j : ℕ) → byte_at b j < 256) → FitsBlock (block_of b)
unfolding block_of
block_fits b at =
    record {
      remaining = at 9;
      start_edge = number_fits 8 b 10 at;
      setup_cells = at 19;
      ready_in = at 20;
      seize_falls = at 21;
    }
