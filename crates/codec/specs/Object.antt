-- Object DMA: bytes 91 to 101.
use Rattle.std.specs.Prelude.{ℕ, List, ◌∷◌}
use mir.Val.{bool_byte}
use Rattle.arithmetic.specs.Number.{digits, byte_at, number_at, flag_at}
use Rattle.console.specs.declared.object.ObjectDma.{ObjectDma}

unfoldable pub object_bytes : ObjectDma → List ℕ
object_bytes o = bool_byte o.running ∷ o.page ∷ o.counted ∷ digits 8 o.start_edge

unfoldable pub object_of : List ℕ → ObjectDma
object_of b = record { running = flag_at b 91; page = byte_at b 92; counted = byte_at b 93; start_edge = number_at b 94 8 }
