-- What FF55 reads, for every state (specs, `Reading`). Assumes nothing.
use Prim.Native.Nat.{ℕ, ◌+◌, ◌/◌, ◌%◌, ◌<◌}
use native.Mathlib.Omega.{arith}
use mathlib.Core.Path.{◌≡◌, refl, ◌∙◌}
use mathlib.Core.Bool.{Bool, true, false, cond}
use lib.Dec.{ltb}
use borrow.Author.Tests.{ltb-true, lt-ltb}
use Rattle.std.proofs.lemmas.Bool.{and_parts}
use Rattle.console.specs.Modes.{is_hblank}
use Rattle.console.specs.declared.vram_dma.VramDma.{VramDma}
use Rattle.hdma.specs.Hdma5.{visible, active, low_bits, status_byte, Reading}

-- the byte, as a function of its two parts
abbrev byte_of : Bool → ℕ → ℕ
byte_of on low = cond on low (128 + low)

bit7 : (on : Bool) (low : ℕ) → low < 128 → byte_of on low / 128 ≡ 0 → on ≡ true
bit7 true low h e = refl
bit7 false low h e = absurd (omega arith)

low_of : (on : Bool) (low : ℕ) → low < 128 → byte_of on low % 128 ≡ low
low_of true low h = omega arith
low_of false low h = omega arith

bound : (on : Bool) (low : ℕ) → low < 128 → byte_of on low < 256
bound true low h = omega arith
bound false low h = omega arith

pub reading : (d : VramDma) → Reading d
unfolding status_byte
reading d =
    let small : low_bits d < 128 = omega arith in
    record {
      clear =
          λ e.
          let parts = and_parts (is_hblank d.cursor.mode) (ltb 0 (visible d)) (bit7 (active d) (low_bits d) small e) in
          (parts.0, ltb-true 0 (visible d) parts.1);
      only = λ armed some. rw (armed, lt-ltb 0 (visible d) some) (omega arith);
      low = low_of (active d) (low_bits d) small ∙ omega arith;
      byte = bound (active d) (low_bits d) small;
    }
