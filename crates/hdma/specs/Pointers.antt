-- The pointers (document 01, section 1): "FF51 and FF53 replace the high byte of source and destination; FF52 and FF54
-- the low byte, with its low four bits zero. Both pointers are the running 16-bit registers."
use Rattle.std.specs.Prelude.{ℕ, ◌+◌, ◌*◌, ◌/◌, ◌%◌}

abbrev pub with_high : ℕ → ℕ → ℕ
with_high v pointer = v * 256 + pointer % 256

abbrev pub with_low : ℕ → ℕ → ℕ
with_low v pointer = pointer / 256 * 256 + v / 16 * 16
