-- Refusal 7 (document 01, "Declined by input"): "a state that no run leaves: quota above 2, block above 16, left above
-- 2,048, FF70 above 7, FF4F's bank above 1, or left 0 in a mode other than Idle". Document 02, A1: "7 gains more than 160 moved bytes
-- and a page above DFh".
use Rattle.std.specs.Prelude.{◌≡◌, ℕ, ◌≤◌, Bool, true, false, ◌&&◌, ◌||◌, not, List, [], ◌∷◌, Option, ltb, eqb}
use Rattle.console.specs.Modes.{is_idle}
use Rattle.console.specs.Refusals.{◌⇒◌, first_of}
use Rattle.console.specs.declared.refusal.Refusal.{Refusal}
use Rattle.console.specs.declared.refusal.Refusal.TheVariants.{State}
use Rattle.console.specs.declared.Cgb.{Cgb}
use Rattle.console.specs.declared.object.ObjectDma.{ObjectDma}
use Rattle.console.specs.declared.vram_dma.TransferMode.{TransferMode}
use Rattle.console.specs.declared.vram_dma.VramDma.{VramDma}

-- whether one of the tests holds
abbrev pub any_of : List Bool → Bool
any_of [] = false
any_of (b ∷ bs) = b || any_of bs

-- the tests of the engine: its quota, its block, what is left, and the mode where nothing is
abbrev pub engine_tests : VramDma → List Bool
engine_tests d =
    ltb 2 d.cursor.quota ∷
    ltb 16 d.block.remaining ∷
    ltb 2048 d.cursor.remaining ∷
    (eqb d.cursor.remaining 0 && not (is_idle d.cursor.mode)) ∷ []

-- the tests of the bank registers: FF70, FF4F
abbrev pub bank_tests : ℕ → ℕ → List Bool
bank_tests svbk selected = ltb 7 svbk ∷ ltb 1 selected ∷ []

-- the tests of object DMA: the bytes counted ("moved" includes those passed over), the page
abbrev pub object_dma_tests : ObjectDma → List Bool
object_dma_tests o = ltb 160 o.counted ∷ ltb 0xDF o.page ∷ []

-- part by part: one of its tests holds
abbrev pub unreached_tests : Cgb → List Bool
unreached_tests s =
    any_of (engine_tests s.vram_dma) ∷
    any_of (bank_tests s.svbk s.vram.selected) ∷
    any_of (object_dma_tests s.object_dma) ∷ []

unfoldable pub unreached : Cgb → Bool
unreached s = any_of (unreached_tests s)

-- the refusal of a call that 7 alone declines
unfoldable pub state_refusal : Cgb → Option Refusal
state_refusal s = first_of ((unreached s ⇒ State) ∷ [])

-- the same as facts, of the quantities that a part's tests look at
pub record EngineWithin (q b l : ℕ) (m : TransferMode) : Type 0 where
  pub quota : q ≤ 2
  pub block : b ≤ 16
  pub left : l ≤ 2048
  pub idle : l ≡ 0 → is_idle m ≡ true

abbrev pub Sound : VramDma → Type 0
Sound d = EngineWithin d.cursor.quota d.block.remaining d.cursor.remaining d.cursor.mode

pub record BanksWithin (v k : ℕ) : Type 0 where
  pub svbk : v ≤ 7
  pub bank : k ≤ 1

pub record ObjectDmaWithin (o : ObjectDma) : Type 0 where
  pub counted : o.counted ≤ 160
  pub page : o.page ≤ 0xDF

-- each part's facts, by its name
pub record Parts (Engine Banks Object : Type 0) : Type 0 where
  pub engine : Engine
  pub banks : Banks
  pub object : Object

-- what holds of a state exactly where refusal 7 does not come
abbrev pub Reached : Cgb → Type 0
Reached s = Parts (Sound s.vram_dma) (BanksWithin s.svbk s.vram.selected) (ObjectDmaWithin s.object_dma)
