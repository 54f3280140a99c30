-- A write lands in work RAM where work RAM answers, and is what the registers make of it elsewhere. Assumes nothing.
use Prim.Native.Nat.{ℕ}
use mathlib.Core.Path.{◌≡◌, refl}
use mathlib.Core.Bool.{Bool, true, false, cond, ◌&&◌, true≢false, false≢true}
use mathlib.Core.List.{List}
use lib.ListN.{set}
use Rattle.std.proofs.Common.{Some, None}
use Rattle.console.specs.declared.Cgb.{Cgb}
use Rattle.memory.specs.Wram.{banked_index}
use Rattle.registers.specs.Map.{Place, work_ram, banked_ram, extra_oam, register, dma_start, unmapped, place_of, writable, locks, locks_at}
use Rattle.registers.specs.Ram.{in_ram, index_at, wram_index_of}
use Rattle.registers.proofs.Ram.{at_index, not_here, not_in_ram}
use Rattle.map_write.specs.Write.{MapWritten, state_at, wram_at, stored_of, locked, map_write_of, wram_after, register_stored_of, register_write_of}
use Rattle.map_write.specs.declared.WriteInput.{WriteInput}

-- a write that was taken and changed nothing, and one that was not taken
abbrev kept : Bool → Cgb → MapWritten
kept mapped s = record { mapped = mapped; state = s }

pub either : (b : Bool) (x : MapWritten) → cond b x x ≡ x
either true x = refl
either false x = refl

module _ (s : Cgb) (w : WriteInput) where
  -- a write where nothing is locked, at a place
  abbrev stored_at : Place → MapWritten
  stored_at p = record { mapped = writable p; state = state_at s w p }

  in_ram_lem : (p : Place) (i : ℕ) → index_at s.svbk p ≡ Some i → (stored_at p ≡ kept true s) × (writable p ≡ true)
  in_ram_lem (work_ram j) i e = (refl, refl)
  in_ram_lem (banked_ram j) i e = (refl, refl)
  in_ram_lem (extra_oam j) i e = absurd (not_here i e)
  in_ram_lem (register r) i e = absurd (not_here i e)
  in_ram_lem dma_start i e = absurd (not_here i e)
  in_ram_lem unmapped i e = absurd (not_here i e)

  -- work RAM is in the map, and no write to it changes the state
  pub ram_state : (a i : ℕ) → wram_index_of s.svbk a ≡ Some i → map_write_of s w a ≡ record { mapped = true; state = s }
  unfolding map_write_of stored_of wram_index_of
  ram_state a i e =
      rw ((in_ram_lem (place_of a) i e).0, (in_ram_lem (place_of a) i e).1) (either (locked s a) (kept true s))

  pub beyond_ram : (a : ℕ) → wram_index_of s.svbk a ≡ None → register_write_of s w a ≡ map_write_of s w a
  unfolding register_write_of
  beyond_ram a e = rw (not_in_ram s.svbk a e)

  not_taken : (p : Place) → writable p ≡ false → stored_at p ≡ kept false s
  not_taken (work_ram i) e = absurd (true≢false e)
  not_taken (banked_ram i) e = absurd (true≢false e)
  not_taken (extra_oam i) e = absurd (true≢false e)
  not_taken (register r) e = absurd (true≢false e)
  not_taken dma_start e = absurd (true≢false e)
  not_taken unmapped e = refl

  -- the write off the map
  pub off_map : (a : ℕ) → writable (place_of a) ≡ false → stored_of s w a ≡ record { mapped = false; state = s }
  unfolding stored_of
  off_map a e = not_taken (place_of a) e

  pub lock_apart : (p : Place) → locks p ≡ true → (in_ram p ≡ false) × (writable p ≡ true)
  lock_apart (work_ram i) h = absurd (false≢true h)
  lock_apart (banked_ram i) h = absurd (false≢true h)
  lock_apart (extra_oam i) h = absurd (false≢true h)
  lock_apart (register r) h = (refl, refl)
  lock_apart dma_start h = absurd (false≢true h)
  lock_apart unmapped h = absurd (false≢true h)

  -- under compat a locked register takes the write and keeps the state
  pub lock_keeps : (a : ℕ) → (s.dmg_compat && locks_at a) ≡ true → register_write_of s w a ≡ record { mapped = true; state = s }
  unfolding register_write_of map_write_of locks_at
  lock_keeps a h =
      let lock : locks (place_of a) ≡ true = right s.dmg_compat (locks (place_of a)) h in
      rw ((lock_apart (place_of a) lock).0, h, (lock_apart (place_of a) lock).1)
    where
      right : (a b : Bool) → (a && b) ≡ true → b ≡ true
      right true b h = h
      right false b h = absurd (false≢true h)

  pub lock_free : (a : ℕ) → (s.dmg_compat && locks_at a) ≡ false → register_write_of s w a ≡ register_stored_of s w a
  unfolding register_write_of register_stored_of map_write_of
  lock_free a h = rw h

module _ (s : Cgb) (wram : List ℕ) (v : ℕ) where
  into_ram : (p : Place) (i : ℕ) → index_at s.svbk p ≡ Some i → wram_at s wram v p ≡ set wram i v
  into_ram (work_ram j) i e = rw (at_index j i e)
  into_ram (banked_ram j) i e = rw (at_index (banked_index s.svbk j) i e)
  into_ram (extra_oam j) i e = absurd (not_here i e)
  into_ram (register r) i e = absurd (not_here i e)
  into_ram dma_start i e = absurd (not_here i e)
  into_ram unmapped i e = absurd (not_here i e)

  pub ram_written : (a i : ℕ) → wram_index_of s.svbk a ≡ Some i → wram_after s wram v a ≡ set wram i v
  unfolding wram_after wram_index_of
  ram_written a i e = into_ram (place_of a) i e

  pub past_ram : (p : Place) → in_ram p ≡ false → wram_at s wram v p ≡ wram
  past_ram (work_ram i) e = absurd (true≢false e)
  past_ram (banked_ram i) e = absurd (true≢false e)
  past_ram (extra_oam i) e = refl
  past_ram (register r) e = refl
  past_ram dma_start e = refl
  past_ram unmapped e = refl

  pub ram_kept : (a : ℕ) → wram_index_of s.svbk a ≡ None → wram_after s wram v a ≡ wram
  unfolding wram_after
  ram_kept a e = past_ram (place_of a) (not_in_ram s.svbk a e)
