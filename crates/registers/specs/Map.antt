-- The address map (document 01, section 1: "The register map is a choice by address"): which place an address names.
use Rattle.std.specs.Prelude.{ℕ, ◌+◌, ◌-◌, ◌*◌, ◌/◌, ◌%◌, Bool, true, false, cond, ◌&&◌, List, [], ◌∷◌, leb}
use Rattle.table.specs.Table.{Entry, ◌⟼◌, look}

-- the registers that an address of their own names
pub data Register : Type 0 where
  KEY0 KEY1 VBK HDMA1 HDMA2 HDMA3 HDMA4 HDMA5 SVBK FF72 FF73 FF74 FF75 : Register

-- a place of the map; memory carries an offset. `dma_start` is FF46 (DMA), object DMA's start (document 02, A1), which is only written
pub data Place : Type 0 where
  work_ram banked_ram extra_oam : ℕ → Place
  register : Register → Place
  dma_start unmapped : Place

-- "FEA0–FEFF is 24 bytes, index ((address / 32) mod 8 − 5) × 8 + address mod 8"
abbrev pub extra_oam_index : ℕ → ℕ
extra_oam_index a = (a / 32 % 8 - 5) * 8 + a % 8

abbrev pub within : ℕ → ℕ → ℕ → Bool
within low high a = leb low a && leb a high

-- the registers by their addresses
abbrev pub registers : List (Entry Place)
registers =
    (0xFF46 ⟼ dma_start)
    ∷ (0xFF4C ⟼ register KEY0)
    ∷ (0xFF4D ⟼ register KEY1)
    ∷ (0xFF4F ⟼ register VBK)
    ∷ (0xFF51 ⟼ register HDMA1)
    ∷ (0xFF52 ⟼ register HDMA2)
    ∷ (0xFF53 ⟼ register HDMA3)
    ∷ (0xFF54 ⟼ register HDMA4)
    ∷ (0xFF55 ⟼ register HDMA5)
    ∷ (0xFF70 ⟼ register SVBK)
    ∷ (0xFF72 ⟼ register FF72)
    ∷ (0xFF73 ⟼ register FF73)
    ∷ (0xFF74 ⟼ register FF74)
    ∷ (0xFF75 ⟼ register FF75)
    ∷ []

abbrev pub register_of : ℕ → Place
register_of a = look registers unmapped a

-- "WRAM answers at C000h–FDFFh, E000h up repeating C000h up"
unfoldable pub place_of : ℕ → Place
place_of a =
    cond (within 0xC000 0xCFFF a) (work_ram (a - 0xC000))
    (cond (within 0xD000 0xDFFF a) (banked_ram (a - 0xD000))
    (cond (within 0xE000 0xEFFF a) (work_ram (a - 0xE000))
    (cond (within 0xF000 0xFDFF a) (banked_ram (a - 0xF000))
    (cond (within 0xFEA0 0xFEFF a) (extra_oam (extra_oam_index a))
    (register_of a)))))

-- what refusal 4 asks: "address not in the call's map". A read and a write have each a map of their own; FF68 to FF6C are in
-- neither. "A write to FF46 no longer gets 4, a read still does" (document 02, A1)
abbrev pub readable : Place → Bool
readable (work_ram i) = true
readable (banked_ram i) = true
readable (extra_oam i) = true
readable (register r) = true
readable dma_start = false
readable unmapped = false

abbrev pub writable : Place → Bool
writable (work_ram i) = true
writable (banked_ram i) = true
writable (extra_oam i) = true
writable (register r) = true
writable dma_start = true
writable unmapped = false

-- "Under compat, writes to FF4D, FF51–FF55, FF70 and FF74 are accepted and do nothing"
abbrev pub locks_register : Register → Bool
locks_register KEY0 = false
locks_register KEY1 = true
locks_register VBK = false
locks_register HDMA1 = true
locks_register HDMA2 = true
locks_register HDMA3 = true
locks_register HDMA4 = true
locks_register HDMA5 = true
locks_register SVBK = true
locks_register FF72 = false
locks_register FF73 = false
locks_register FF74 = true
locks_register FF75 = false

abbrev pub locks : Place → Bool
locks (work_ram i) = false
locks (banked_ram i) = false
locks (extra_oam i) = false
locks (register r) = locks_register r
locks dma_start = false
locks unmapped = false

unfoldable pub locks_at : ℕ → Bool
locks_at a = locks (place_of a)
