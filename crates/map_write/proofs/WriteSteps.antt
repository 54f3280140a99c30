-- Writes leave at each address what document 01 says of it (specs, `MapWriteSteps`). Assumes nothing.
use Prim.Native.Nat.{ℕ, ◌≤◌}
use mathlib.Core.Path.{◌≡◌, refl}
use mathlib.Core.Bool.{true, false, and-false}
use mathlib.Core.List.{List}
use Rattle.console.specs.Set.{with_dmg_compat}
use Rattle.console.specs.declared.Cgb.{Cgb}
use Rattle.registers.specs.Map.{Register, KEY0, KEY1, VBK, HDMA1, HDMA2, HDMA3, HDMA4, HDMA5, SVBK, FF72, FF73, FF74, FF75, Place, work_ram, banked_ram}
use Rattle.registers.specs.Map.{extra_oam, register, dma_start, unmapped, place_of, writable, locks, locks_at}
use Rattle.registers.specs.MapSteps.{MappedWrite, LocksWrite}
use Rattle.registers.proofs.Places.{at_oam}
use Rattle.registers.proofs.MapSteps.{lock_map, not_lock, not_written}
use Rattle.map_write.specs.Write.{register_written, state_at, wram_at, wram_after, stored_of, locked, map_write_of}
use Rattle.map_write.specs.WriteSteps.{MapWrites, RegisterWrites, PointerWrites, DmaStart, CompatWrites, MapWriteSteps}
use Rattle.map_write.specs.declared.WriteInput.{WriteInput}
use Rattle.map_write.proofs.Ram as ram

module _ (s : Cgb) (wram : List ℕ) (w : WriteInput) (a : ℕ) where
  unmapped_write : (MappedWrite a → ⊥) → map_write_of s w a ≡ record { mapped = false; state = s }
  unfolding map_write_of
  unmapped_write out =
      rw (not_written a out, ram.off_map s w a (not_written a out))
      (ram.either (locked s a) (record { mapped = false; state = s }))

  extra : 0xFEA0 ≤ a → a ≤ 0xFEFF → map_write_of s w a ≡ stored_of s w a
  unfolding map_write_of locks_at
  extra p q = rw (at_oam a p q, and-false)

  map_writes : MapWrites s wram w a
  unfolding stored_of
  map_writes =
      record {
        unmapped = unmapped_write;
        ram = ram.ram_written s wram w.value a;
        ram_state = ram.ram_state s w a;
        elsewhere = ram.ram_kept s wram w.value a;
        extra = λ p q. rw (extra p q, at_oam a p q);
      }

register_writes : (s : Cgb) (w : WriteInput) → s.dmg_compat ≡ false → RegisterWrites s w
unfolding map_write_of stored_of place_of locks_at
register_writes s w free =
    record {
      ff4c = rw free;
      ff4d_arms = λ e. rw (free, e);
      ff4d_disarms = λ e. rw (free, e);
      ff4f = rw free;
      ff55 = rw free;
      ff70 = rw free;
      ff72 = rw free;
      ff73 = rw free;
      ff74 = rw free;
      ff75 = rw free;
    }

pub pointer_writes : (s : Cgb) (w : WriteInput) → s.dmg_compat ≡ false → PointerWrites s w
unfolding map_write_of stored_of place_of locks_at
pointer_writes s w free = record { ff51 = rw free; ff53 = rw free; ff52 = rw free; ff54 = rw free }

-- compat does not lock it
dma_start_lem : (s : Cgb) (w : WriteInput) → DmaStart s w
unfolding map_write_of stored_of place_of locks_at
dma_start_lem s w = record { starts = rw (and-false s.dmg_compat) }

module _ (s : Cgb) (wram : List ℕ) (w : WriteInput) where
  abbrev compat : Cgb
  compat = with_dmg_compat true s

  abbrev cgb_mode : Cgb
  cgb_mode = with_dmg_compat false s

  -- where nothing is locked, a write looks at compat no more
  written : (r : Register) → register_written compat w r ≡ with_dmg_compat true (register_written cgb_mode w r)
  written KEY0 = refl
  written KEY1 = refl
  written VBK = refl
  written HDMA1 = refl
  written HDMA2 = refl
  written HDMA3 = refl
  written HDMA4 = refl
  written HDMA5 = refl
  written SVBK = refl
  written FF72 = refl
  written FF73 = refl
  written FF74 = refl
  written FF75 = refl

  stored : (p : Place) → state_at compat w p ≡ with_dmg_compat true (state_at cgb_mode w p)
  stored (work_ram i) = refl
  stored (banked_ram i) = refl
  stored (extra_oam i) = refl
  stored (register r) = written r
  stored dma_start = refl
  stored unmapped = refl

  same_wram : (p : Place) → wram_at compat wram w.value p ≡ wram_at cgb_mode wram w.value p
  same_wram (work_ram i) = refl
  same_wram (banked_ram i) = refl
  same_wram (extra_oam i) = refl
  same_wram (register r) = refl
  same_wram dma_start = refl
  same_wram unmapped = refl

  still : (p : Place) → locks p ≡ true → (writable p ≡ true) × (wram_at compat wram w.value p ≡ wram)
  still p h = ((ram.lock_apart s w p h).1, ram.past_ram compat wram w.value p (ram.lock_apart s w p h).0)

  lock : (a : ℕ) → LocksWrite a → locks (place_of a) ≡ true
  unfolding locks_at
  lock a h = (lock_map a).1 h

  compat_writes : (a : ℕ) → CompatWrites s wram w a
  unfolding map_write_of stored_of wram_after locks_at
  compat_writes a =
      record {
        locked = λ h. rw (lock a h, (still (place_of a) (lock a h)).0);
        locked_wram = λ h. (still (place_of a) (lock a h)).1;
        free = λ other. rw (unlocked other, stored (place_of a));
        same_wram = same_wram (place_of a);
      }
    where
      unlocked : (LocksWrite a → ⊥) → locks (place_of a) ≡ false
      unlocked other = not_lock a other

pub map_write_steps : MapWriteSteps
map_write_steps =
    record { by_address = map_writes; registers = register_writes; pointers = pointer_writes; dma = dma_start_lem; compat = compat_writes }
