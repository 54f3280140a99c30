-- The OAM contention is read back from where its bytes stand. Assumes nothing.
use Prim.Native.Nat.{ℕ}
use mathlib.Core.Path.{◌≡◌, refl}
use mathlib.Core.List.{List}
use lib.Dec.{lit<}
use Rattle.arithmetic.specs.Number.{bytes_at}
use Rattle.codec.proofs.Fields.{field}
use Rattle.codec.specs.Oam.{oam_bytes, oam_of}
use Rattle.console.specs.declared.vram_dma.OamContention.{OamContention}

pub oam_back : (b : List ℕ) (o : OamContention) → bytes_at b 39 2 ≡ oam_bytes o → oam_of b ≡ o
unfolding oam_bytes oam_of
oam_back b o e =
    let at = field b 39 2 (oam_bytes o) e in
    λ i.
    record {
      was_transferring = at.flag 0 o.was_transferring (lit< tt) refl i;
      contended = at.flag 1 o.contended (lit< tt) refl i;
    }
