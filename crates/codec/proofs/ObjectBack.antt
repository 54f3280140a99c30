-- Object DMA is read back from where its bytes stand, and any bytes read as one within its widths. Assumes nothing.
use Prim.Native.Nat.{ℕ, ◌^◌, ◌<◌}
use mathlib.Core.Path.{◌≡◌, refl}
use mathlib.Core.List.{List}
use lib.Dec.{lit<, lit≤}
use Rattle.arithmetic.proofs.Digits.{number_fits}
use Rattle.arithmetic.specs.Number.{byte_at, bytes_at}
use Rattle.codec.proofs.Fields.{field}
use Rattle.codec.specs.Fits.{FitsObject}
use Rattle.codec.specs.Object.{object_bytes, object_of}
use Rattle.console.specs.declared.object.ObjectDma.{ObjectDma}

pub object_back : (b : List ℕ) (o : ObjectDma) → bytes_at b 91 11 ≡ object_bytes o → o.start_edge < 2 ^ 64 → object_of b ≡ o
unfolding object_bytes object_of
object_back b o e edge =
    let at = field b 91 11 (object_bytes o) e in
    λ i.
    record {
      running = at.flag 0 o.running (lit< tt) refl i;
      page = at.byte 1 o.page (lit< tt) refl i;
      counted = at.byte 2 o.counted (lit< tt) refl i;
      start_edge = at.many 3 8 o.start_edge (lit≤ tt) refl edge i;
    }

pub object_fits : (b : List ℕ) → ((j : ℕ) → byte_at b j < 256) → FitsObject (object_of b)
unfolding object_of
object_fits b at = record { page = at 92; counted = at 93; start_edge = number_fits 8 b 94 at }
