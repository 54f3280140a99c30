-- Where an address lies in work RAM, and what a place that lies there is not. Assumes nothing.
use Prim.Native.Nat.{ℕ, ◌<◌}
use native.Mathlib.Omega.{arith}
use mathlib.Core.Path.{◌≡◌, refl, sym}
use mathlib.Core.Bool.{true, false, not, false≢true}
use Rattle.memory.specs.Wram.{banked_index}
use Rattle.std.proofs.Common.{Some, None}
use Rattle.registers.specs.Map.{Place, work_ram, banked_ram, extra_oam, register, dma_start, unmapped, registers, register_of, place_of}
use Rattle.registers.specs.Ram.{in_ram, index_at, wram_index_of}
use Rattle.table.proofs.Table.{passes}
use Rattle.registers.proofs.Places.{at_place}

-- no register is in work RAM
named : (a : ℕ) → not (in_ram (register_of a)) ≡ true
named a = passes (λ p. not (in_ram p)) a registers unmapped refl refl

module _ (svbk : ℕ) where
  abbrev Apart : Place → Type 0
  Apart p = index_at svbk p ≡ None

  apart : (p : Place) → not (in_ram p) ≡ true → Apart p
  apart (work_ram i) e = absurd (false≢true e)
  apart (banked_ram i) e = absurd (false≢true e)
  apart (extra_oam i) e = refl
  apart (register r) e = refl
  apart dma_start e = refl
  apart unmapped e = refl

  pub below : (a : ℕ) → a < 0xC000 → wram_index_of svbk a ≡ None
  unfolding wram_index_of
  below a h =
      at_place Apart a (λ p q. absurd (omega arith)) (λ p q. absurd (omega arith)) (λ p q. absurd (omega arith))
      (λ p q. absurd (omega arith)) (λ p q. refl) (apart (register_of a) (named a))

  pub above : (a : ℕ) → 0xFDFF < a → wram_index_of svbk a ≡ None
  unfolding wram_index_of
  above a h =
      at_place Apart a (λ p q. absurd (omega arith)) (λ p q. absurd (omega arith)) (λ p q. absurd (omega arith))
      (λ p q. absurd (omega arith)) (λ p q. refl) (apart (register_of a) (named a))

-- an index tells what it is of
pub at_index : (j i : ℕ) → Some j ≡ Some i → j ≡ i
at_index j i e = cc

pub not_here : (i : ℕ) → None ≡ Some i → ⊥
not_here i e = cc

beyond : (svbk : ℕ) (p : Place) → index_at svbk p ≡ None → in_ram p ≡ false
beyond svbk (work_ram i) e = absurd (not_here i (sym e))
beyond svbk (banked_ram i) e = absurd (not_here (banked_index svbk i) (sym e))
beyond svbk (extra_oam i) e = refl
beyond svbk (register r) e = refl
beyond svbk dma_start e = refl
beyond svbk unmapped e = refl

pub not_in_ram : (svbk a : ℕ) → wram_index_of svbk a ≡ None → in_ram (place_of a) ≡ false
unfolding wram_index_of
not_in_ram svbk a e = beyond svbk (place_of a) e
