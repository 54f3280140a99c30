-- What a write of the map tells of the address: what the calls above cite. Assumes nothing.
use Prim.Native.Nat.{ℕ}
use mathlib.Core.Path.{◌≡◌, refl}
use mathlib.Core.Bool.{Bool, true, false, cond, true≢false}
use mathlib.Core.List.{List}
use Rattle.console.specs.declared.Cgb.{Cgb}
use Rattle.registers.specs.Map.{Place, work_ram, banked_ram, extra_oam, register, dma_start, unmapped, place_of, writable}
use Rattle.map_write.specs.Write.{wram_at, wram_after, stored_of, map_write_of, locked}
use Rattle.map_write.specs.declared.WriteInput.{WriteInput}

-- a write says whether its address is in the map, locked or not
pub write_mapped : (s : Cgb) (w : WriteInput) (a : ℕ) → (map_write_of s w a).mapped ≡ writable (place_of a)
unfolding map_write_of stored_of
write_mapped s w a = said (locked s a)
  where
    said : (b : Bool) → (cond b (record { mapped = writable (place_of a); state = s }) (stored_of s w a)).mapped ≡ writable (place_of a)
    said true = refl
    said false = refl

off_map : (s : Cgb) (wram : List ℕ) (v : ℕ) (p : Place) → writable p ≡ false → wram_at s wram v p ≡ wram
off_map s wram v (work_ram i) h = absurd (true≢false h)
off_map s wram v (banked_ram i) h = absurd (true≢false h)
off_map s wram v (extra_oam i) h = refl
off_map s wram v (register r) h = refl
off_map s wram v dma_start h = refl
off_map s wram v unmapped h = refl

-- a write off the map leaves work RAM
pub off_map_keeps_wram : (s : Cgb) (wram : List ℕ) (v a : ℕ) → writable (place_of a) ≡ false → wram_after s wram v a ≡ wram
unfolding wram_after
off_map_keeps_wram s wram v a h = off_map s wram v (place_of a) h
