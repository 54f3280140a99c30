-- Work RAM in the map (document 01, section 1: "WRAM answers at C000h–FDFFh"; registers.rs, `wram_index`).
use Rattle.std.specs.Prelude.{Option, Some, None, ℕ, Bool, true, false}
use Rattle.memory.specs.Wram.{banked_index}
use Rattle.registers.specs.Map.{Place, work_ram, banked_ram, extra_oam, register, dma_start, unmapped, place_of}

abbrev pub in_ram : Place → Bool
in_ram (work_ram i) = true
in_ram (banked_ram i) = true
in_ram (extra_oam i) = false
in_ram (register r) = false
in_ram dma_start = false
in_ram unmapped = false

-- where a place lies in work RAM, with `svbk` in FF70
abbrev pub index_at : ℕ → Place → Option ℕ
index_at svbk (work_ram i) = Some i
index_at svbk (banked_ram i) = Some (banked_index svbk i)
index_at svbk (extra_oam i) = None
index_at svbk (register r) = None
index_at svbk dma_start = None
index_at svbk unmapped = None

unfoldable pub wram_index_of : ℕ → ℕ → Option ℕ
wram_index_of svbk a = index_at svbk (place_of a)
