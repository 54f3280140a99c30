-- Where an address lies, as laws of the map: what a match on the address cites. Assumes nothing.
use Prim.Native.Nat.{ℕ, ◌≤◌, ◌<◌, ◌-◌}
use mathlib.Core.Path.{◌≡◌, refl}
use mathlib.Core.Bool.{Bool, true, false, cond, ◌&&◌}
use lib.Dec.{leb}
use borrow.Author.Tests.{leb-true}
use native.Mathlib.Omega.{arith}
use Rattle.table.specs.Table.{NoneOf, keys_of}
use Rattle.table.proofs.Table.{each, each_under, outside}
use Rattle.registers.specs.Map.{Place, work_ram, banked_ram, extra_oam, unmapped, extra_oam_index, within, registers, register_of, place_of}
use Rattle.registers.specs.Map.{readable, writable, locks, locks_at}
use Rattle.registers.proofs.Ranges.{inside, past}

-- a choice by a range
in_range : (P : Place → Type 0) (low high a : ℕ) (x y : Place) → (low ≤ a → a ≤ high → P x) → P y → P (cond (within low high a) x y)
in_range P low high a x y here else = by (leb low a) (leb a high) refl refl
  where
    by : (b c : Bool) → leb low a ≡ b → leb a high ≡ c → P (cond (b && c) x y)
    by true true p q = here (leb-true low a p) (leb-true a high q)
    by true false p q = else
    by false c p q = else

-- what holds of each range's place and of what a register's address names holds of the place that an address names
pub at_place :
    (P : Place → Type 0) (a : ℕ) →
    (0xC000 ≤ a → a ≤ 0xCFFF → P (work_ram (a - 0xC000))) →
    (0xD000 ≤ a → a ≤ 0xDFFF → P (banked_ram (a - 0xD000))) →
    (0xE000 ≤ a → a ≤ 0xEFFF → P (work_ram (a - 0xE000))) →
    (0xF000 ≤ a → a ≤ 0xFDFF → P (banked_ram (a - 0xF000))) →
    (0xFEA0 ≤ a → a ≤ 0xFEFF → P (extra_oam (extra_oam_index a))) →
    P (register_of a) → P (place_of a)
unfolding place_of
at_place P a c d e f oam named =
    in_range P 0xC000 0xCFFF a _ _ c
    (in_range P 0xD000 0xDFFF a _ _ d
    (in_range P 0xE000 0xEFFF a _ _ e
    (in_range P 0xF000 0xFDFF a _ _ f
    (in_range P 0xFEA0 0xFEFF a _ _ oam named))))

module _ (a : ℕ) where
  pub at_c : 0xC000 ≤ a → a ≤ 0xCFFF → place_of a ≡ work_ram (a - 0xC000)
  unfolding place_of
  at_c p q = simp (inside 0xC000 0xCFFF a p q)

  pub at_d : 0xD000 ≤ a → a ≤ 0xDFFF → place_of a ≡ banked_ram (a - 0xD000)
  unfolding place_of
  at_d p q = simp (past 0xC000 0xCFFF a (omega arith), inside 0xD000 0xDFFF a p q)

  pub at_e : 0xE000 ≤ a → a ≤ 0xEFFF → place_of a ≡ work_ram (a - 0xE000)
  unfolding place_of
  at_e p q = simp (past 0xC000 0xCFFF a (omega arith), past 0xD000 0xDFFF a (omega arith), inside 0xE000 0xEFFF a p q)

  pub at_f : 0xF000 ≤ a → a ≤ 0xFDFF → place_of a ≡ banked_ram (a - 0xF000)
  unfolding place_of
  at_f p q =
      simp (
        past 0xC000 0xCFFF a (omega arith),
        past 0xD000 0xDFFF a (omega arith),
        past 0xE000 0xEFFF a (omega arith),
        inside 0xF000 0xFDFF a p q,
      )

  pub at_oam : 0xFEA0 ≤ a → a ≤ 0xFEFF → place_of a ≡ extra_oam (extra_oam_index a)
  unfolding place_of
  at_oam p q =
      simp (
        past 0xC000 0xCFFF a (omega arith),
        past 0xD000 0xDFFF a (omega arith),
        past 0xE000 0xEFFF a (omega arith),
        past 0xF000 0xFDFF a (omega arith),
        inside 0xFEA0 0xFEFF a p q,
      )

  -- from FF00 up only the registers are mapped
  pub above : 0xFEFF < a → place_of a ≡ register_of a
  unfolding place_of
  above p =
      simp (
        past 0xC000 0xCFFF a (omega arith),
        past 0xD000 0xDFFF a (omega arith),
        past 0xE000 0xEFFF a (omega arith),
        past 0xF000 0xFDFF a (omega arith),
        past 0xFEA0 0xFEFF a p,
      )

  -- below FF00 no register is named
  pub no_register : a < 0xFF00 → register_of a ≡ unmapped
  no_register p = each (λ q. q ≡ unmapped) a registers unmapped (each_under (λ q. q ≡ unmapped) 0xFF00 a registers refl p) refl

  -- an address of no register that passes a test names a place that fails it
  pub not_readable : 0xFEFF < a → NoneOf a (keys_of readable registers) → readable (place_of a) ≡ false
  not_readable p n = rw (above p) (outside readable a unmapped refl registers n)

  pub not_writable : 0xFEFF < a → NoneOf a (keys_of writable registers) → writable (place_of a) ≡ false
  not_writable p n = rw (above p) (outside writable a unmapped refl registers n)

  pub not_locked : NoneOf a (keys_of locks registers) → locks_at a ≡ false
  unfolding locks_at
  not_locked n =
      at_place (λ q. locks q ≡ false) a (λ p q. refl) (λ p q. refl) (λ p q. refl) (λ p q. refl) (λ p q. refl)
      (outside locks a unmapped refl registers n)
