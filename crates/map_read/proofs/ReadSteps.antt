-- Reads give at each address what document 01 says of it (specs, `ReadSteps`). Assumes nothing.
use Prim.Native.Nat.{ℕ, ◌%◌, ◌≤◌}
use native.Mathlib.Omega.{arith}
use mathlib.Core.Path.{◌≡◌, refl, sym, subst}
use mathlib.Core.Bool.{true, false}
use mathlib.Core.List.{List}
use mathlib.Core.Logic.{inl, inr}
use Rattle.std.proofs.Common.{Some}
use Rattle.console.specs.Set.{with_dmg_compat}
use Rattle.console.specs.declared.Cgb.{Cgb}
use Rattle.table.specs.Table.{◌▸◌}
use Rattle.table.proofs.Table.{each}
use Rattle.registers.specs.Map.{Place, unmapped, registers, register_of, place_of}
use Rattle.registers.proofs.Places.{at_place, at_oam}
use Rattle.registers.proofs.MapSteps.{not_read}
use Rattle.map_read.specs.Read.{map_byte, map_read_of}
use Rattle.map_read.specs.ReadSteps.{LocksRead, MapReads, RegisterReads, CompatReads, ReadSteps}
use Rattle.map_read.proofs.Ram.{ram_read}

pub map_reads : (s : Cgb) (wram : List ℕ) (a : ℕ) → MapReads s wram a
unfolding map_read_of
map_reads s wram a =
    record { unmapped = λ out. rw (not_read a out); ram = ram_read s wram a; extra = λ p q. rw (at_oam a p q) }

low_bit : (n : ℕ) → n ≤ 1 → n % 2 ≡ n
low_bit n h = omega arith

low_bits : (n : ℕ) → n ≤ 7 → n % 8 ≡ n
low_bits n h = omega arith

register_reads : (s : Cgb) (wram : List ℕ) → s.dmg_compat ≡ false → RegisterReads s wram
unfolding map_read_of place_of
register_reads s wram free =
    record {
      ff4c = rw free;
      ff4d = rw free;
      ff4f = λ h. rw (low_bit s.vram.selected h);
      ff51 = refl;
      ff52 = refl;
      ff53 = refl;
      ff54 = refl;
      ff55 = refl;
      ff70 = λ h. rw (free, low_bits s.svbk h);
      ff72 = refl;
      ff73 = refl;
      ff74 = rw free;
      ff75 = refl;
    }

module _ (s : Cgb) (wram : List ℕ) where
  -- a read of an address that is locked gives FF
  abbrev Full : ℕ → Type 0
  Full a = map_read_of (with_dmg_compat true s) wram a ≡ Some 0xFF

  locked : (a : ℕ) → LocksRead a → Full a
  unfolding map_read_of place_of
  locked a (inl e) = subst Full (sym e) refl
  locked a (inr (inl e)) = subst Full (sym e) refl
  locked a (inr (inr (inl e))) = subst Full (sym e) refl
  locked a (inr (inr (inr e))) = subst Full (sym e) refl

  abbrev Same : Place → Type 0
  Same p = map_byte (with_dmg_compat true s) wram p ≡ map_byte (with_dmg_compat false s) wram p

  same_register : (a : ℕ) → (LocksRead a → ⊥) → Same (register_of a)
  same_register a other =
      each Same a registers unmapped
      ((λ e. refl) ▸
      (λ e. absurd (other (inl e))) ▸
      (λ e. absurd (other (inr (inl e)))) ▸
      (λ e. refl) ▸ (λ e. refl) ▸ (λ e. refl) ▸ (λ e. refl) ▸ (λ e. refl) ▸ (λ e. refl) ▸
      (λ e. absurd (other (inr (inr (inl e))))) ▸
      (λ e. refl) ▸ (λ e. refl) ▸
      (λ e. absurd (other (inr (inr (inr e))))) ▸
      (λ e. refl) ▸ tt)
      refl

  same : (a : ℕ) → (LocksRead a → ⊥) → Same (place_of a)
  same a other =
      at_place Same a (λ p q. refl) (λ p q. refl) (λ p q. refl) (λ p q. refl) (λ p q. refl) (same_register a other)

  compat_reads : (a : ℕ) → CompatReads s wram a
  unfolding map_read_of
  compat_reads a = record { locked = locked a; free = λ other. rw (same a other) }

pub read_steps : ReadSteps
read_steps = record { by_address = map_reads; registers = register_reads; compat = compat_reads }
