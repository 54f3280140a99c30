-- Where a byte is stored (document 01, section 3, `dma_commit`).
use Rattle.std.specs.Prelude.{ℕ, ◌+◌, ◌-◌, ◌*◌, cond, List, leb, set}

-- "VRAM index = FF4F bank × 8192 + address − 8000h"
abbrev pub vram_with : List ℕ → ℕ → ℕ → ℕ → List ℕ
vram_with vram bank a byte = set vram (bank * 8192 + (a - 0x8000)) byte

-- "OAM index = address − FE00h up to FE9Fh; above that nothing is stored"
unfoldable pub oam_with : List ℕ → ℕ → ℕ → List ℕ
oam_with oam a byte = cond (leb a 0xFE9F) (set oam (a - 0xFE00) byte) oam
