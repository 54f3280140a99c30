-- A byte is read and stored where document 01 says (specs, `ReadingOrder` and `Stored`). Assumes nothing.
use Prim.Native.Nat.{ℕ, ◌-◌, ◌<◌, ◌≤◌}
use native.Mathlib.Omega.{arith}
use mathlib.Core.Path.{◌≡◌, refl, sym, ◌∙◌}
use mathlib.Core.Bool.{cond}
use mathlib.Core.List.{List}
use mathlib.Core.Logic.{⊎_elim}
use lib.Dec.{ltb}
use lib.ListN.{get_or}
use borrow.Author.Tests.{lt-ltb, le-ltb, le-leb, lt-leb}
use Rattle.memory.specs.Wram.{banked_index}
use Rattle.bus.specs.MemorySteps.{ReadingOrder, ObjectSource, Stored}
use Rattle.bus.specs.Source.{source_byte}
use Rattle.bus.specs.Store.{oam_with}
use Rattle.bus.specs.declared.commit.Banks.{Banks}

-- the ranges in order, whatever 8000h–9FFFh gives
module _ (video : ℕ) (cartridge wram : List ℕ) (svbk a : ℕ) where
  pub at_low : a < 0x8000 → source_byte video cartridge wram svbk a ≡ get_or cartridge a 0
  unfolding source_byte
  at_low h = rw (lt-ltb a 0x8000 h)

  pub at_video : 0x8000 ≤ a → a < 0xA000 → source_byte video cartridge wram svbk a ≡ video
  unfolding source_byte
  at_video l h = rw (le-ltb a 0x8000 l, lt-ltb a 0xA000 h)

  -- from A000h up
  upper_half :
      0xA000 ≤ a →
      source_byte video cartridge wram svbk a ≡
      cond (ltb a 0xC000) (get_or cartridge (a - 0x2000) 0)
      (cond (ltb a 0xD000) (get_or wram (a - 0xC000) 0) (cond (ltb a 0xE000) (get_or wram (banked_index svbk (a - 0xD000)) 0) 0xFF))
  unfolding source_byte
  upper_half l = rw (le-ltb a 0x8000 (omega arith), le-ltb a 0xA000 l)

  pub at_high : 0xA000 ≤ a → a < 0xC000 → source_byte video cartridge wram svbk a ≡ get_or cartridge (a - 0x2000) 0
  at_high l h = upper_half l ∙ rw (lt-ltb a 0xC000 h)

  pub at_fixed : 0xC000 ≤ a → a < 0xD000 → source_byte video cartridge wram svbk a ≡ get_or wram (a - 0xC000) 0
  at_fixed l h = upper_half (omega arith) ∙ rw (le-ltb a 0xC000 l, lt-ltb a 0xD000 h)

  pub at_banked : 0xD000 ≤ a → a < 0xE000 → source_byte video cartridge wram svbk a ≡ get_or wram (banked_index svbk (a - 0xD000)) 0
  at_banked l h = upper_half (omega arith) ∙ rw (le-ltb a 0xC000 (omega arith), le-ltb a 0xD000 l, lt-ltb a 0xE000 h)

  pub at_upper : 0xE000 ≤ a → source_byte video cartridge wram svbk a ≡ 0xFF
  at_upper l = upper_half (omega arith) ∙ rw (le-ltb a 0xC000 (omega arith), le-ltb a 0xD000 (omega arith), le-ltb a 0xE000 l)

pub reading_order : (cartridge wram : List ℕ) (svbk a : ℕ) → ReadingOrder cartridge wram svbk a
reading_order cartridge wram svbk a =
    record {
      video = λ l h. at_video 0xFF cartridge wram svbk a l (omega arith);
      upper = at_upper 0xFF cartridge wram svbk a;
      fixed = λ l h. at_fixed 0xFF cartridge wram svbk a l (omega arith);
      banked = λ l h. at_banked 0xFF cartridge wram svbk a l (omega arith);
      low = at_low 0xFF cartridge wram svbk a;
      high = λ l h. at_high 0xFF cartridge wram svbk a l (omega arith);
    }

-- outside 8000h–9FFFh it makes no difference what VRAM gives
unseen :
    (video other : ℕ) (cartridge wram : List ℕ) (svbk a : ℕ) → 0xA000 ≤ a →
    source_byte video cartridge wram svbk a ≡ source_byte other cartridge wram svbk a
unseen video other cartridge wram svbk a h = upper_half video cartridge wram svbk a h ∙ sym (upper_half other cartridge wram svbk a h)

pub object_source : (banks : Banks) (cartridge wram vram : List ℕ) (a : ℕ) → ObjectSource banks cartridge wram vram a
object_source banks cartridge wram vram a =
    record {
      video = λ l h. at_video _ cartridge wram banks.svbk a l (omega arith);
      other =
          ⊎_elim
          (λ low. at_low _ cartridge wram banks.svbk a low ∙ sym (at_low 0xFF cartridge wram banks.svbk a low))
          (λ up. unseen _ 0xFF cartridge wram banks.svbk a (omega arith));
    }

pub stored : (memory : List ℕ) (a byte : ℕ) → Stored memory a byte
unfolding oam_with
stored memory a byte = record { vram = λ bank. refl; oam = λ h. rw (le-leb a 0xFE9F h); above = λ h. rw (lt-leb a 0xFE9F h) }
