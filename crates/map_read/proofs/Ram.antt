-- A read is work RAM's byte where work RAM answers, and what the registers give elsewhere. Assumes nothing.
use Prim.Native.Nat.{ℕ}
use mathlib.Core.Path.{◌≡◌, refl}
use mathlib.Core.Bool.{false, cond, true≢false}
use mathlib.Core.List.{List, []}
use lib.ListN.{get_or}
use Rattle.std.proofs.Common.{Option, Some, None}
use Rattle.console.specs.declared.Cgb.{Cgb}
use Rattle.memory.specs.Wram.{banked_index}
use Rattle.registers.specs.Map.{Place, work_ram, banked_ram, extra_oam, register, dma_start, unmapped, place_of, readable}
use Rattle.registers.specs.Ram.{in_ram, index_at, wram_index_of}
use Rattle.registers.proofs.Ram.{at_index, not_here, not_in_ram}
use Rattle.map_read.specs.Read.{map_byte, map_read_of, register_read_of}

-- what a read gives at a place
abbrev read_at : Cgb → List ℕ → Place → Option ℕ
read_at s wram p = cond (readable p) (Some (map_byte s wram p)) None

module _ (s : Cgb) (wram : List ℕ) where
  from_ram : (p : Place) (i : ℕ) → index_at s.svbk p ≡ Some i → read_at s wram p ≡ Some (get_or wram i 0)
  from_ram (work_ram j) i e = rw (at_index j i e)
  from_ram (banked_ram j) i e = rw (at_index (banked_index s.svbk j) i e)
  from_ram (extra_oam j) i e = absurd (not_here i e)
  from_ram (register r) i e = absurd (not_here i e)
  from_ram dma_start i e = absurd (not_here i e)
  from_ram unmapped i e = absurd (not_here i e)

  pub ram_read : (a i : ℕ) → wram_index_of s.svbk a ≡ Some i → map_read_of s wram a ≡ Some (get_or wram i 0)
  unfolding map_read_of wram_index_of
  ram_read a i e = from_ram (place_of a) i e

  same_byte : (p : Place) → in_ram p ≡ false → read_at s [] p ≡ read_at s wram p
  same_byte (work_ram i) e = absurd (true≢false e)
  same_byte (banked_ram i) e = absurd (true≢false e)
  same_byte (extra_oam i) e = refl
  same_byte (register r) e = refl
  same_byte dma_start e = refl
  same_byte unmapped e = refl

  pub beyond_ram : (a : ℕ) → wram_index_of s.svbk a ≡ None → register_read_of s a ≡ map_read_of s wram a
  unfolding register_read_of map_read_of
  beyond_ram a e =
      let apart : in_ram (place_of a) ≡ false = not_in_ram s.svbk a e in
      rw apart (same_byte (place_of a) apart)
