-- The OAM contention: bytes 39 and 40.
use Rattle.std.specs.Prelude.{ℕ, List, [], ◌∷◌}
use mir.Val.{bool_byte}
use Rattle.arithmetic.specs.Number.{flag_at}
use Rattle.console.specs.declared.vram_dma.OamContention.{OamContention}

unfoldable pub oam_bytes : OamContention → List ℕ
oam_bytes o = bool_byte o.was_transferring ∷ bool_byte o.contended ∷ []

unfoldable pub oam_of : List ℕ → OamContention
oam_of b = record { was_transferring = flag_at b 39; contended = flag_at b 40 }
