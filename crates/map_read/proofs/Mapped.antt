-- What a read of the map tells of the address: what the calls above cite. Assumes nothing.
use Prim.Native.Nat.{ℕ}
use mathlib.Core.Path.{◌≡◌, refl}
use mathlib.Core.Bool.{Bool, true, false, cond}
use mathlib.Core.List.{List}
use Rattle.std.proofs.Common.{Some, None}
use Rattle.console.specs.declared.Cgb.{Cgb}
use Rattle.registers.specs.Map.{place_of, readable}
use Rattle.map_read.specs.Read.{map_byte, map_read_of}

none : (mapped : Bool) (x : ℕ) → cond mapped (Some x) None ≡ None → mapped ≡ false
none false x e = refl
none true x e = cc

pub unmapped_read : (s : Cgb) (wram : List ℕ) (a : ℕ) → map_read_of s wram a ≡ None → readable (place_of a) ≡ false
unfolding map_read_of
unmapped_read s wram a e = none (readable (place_of a)) (map_byte s wram (place_of a)) e
