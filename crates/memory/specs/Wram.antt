-- Work RAM's banks (document 01, section 3): "D000h up in bank FF70 (0 means 1)".
use Rattle.std.specs.Prelude.{ℕ, ◌+◌, ◌*◌, cond, eqb}

abbrev pub wram_bank : ℕ → ℕ
wram_bank svbk = cond (eqb svbk 0) 1 svbk

-- where the byte at an offset into the bank stands
abbrev pub banked_index : ℕ → ℕ → ℕ
banked_index svbk i = wram_bank svbk * 4096 + i
