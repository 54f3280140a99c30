-- What is asked of FF70 (document 01, section 3; the Rust's queries of `Cgb`; lib.rs, registers.rs).
use Rattle.std.specs.Prelude.{ℕ}
use Rattle.console.specs.declared.Cgb.{Cgb}
use Rattle.memory.specs.Wram.{wram_bank}

-- the bank at D000h up: "bank FF70 (0 means 1)"
abbrev pub bank_selected : Cgb → ℕ
bank_selected s = wram_bank s.svbk

-- FF70 as written
abbrev pub svbk_written : Cgb → ℕ
svbk_written s = s.svbk
