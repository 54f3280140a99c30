-- The answer's record of a declined call is the number and zeros. Assumes nothing.
use Prim.Native.Nat.{ℕ}
use mathlib.Core.Path.{◌≡◌}
use mathlib.Core.List.{List}
use Rattle.console.specs.declared.Cgb.{Cgb}
use Rattle.told.specs.Declined.{Declined}
use Rattle.told.specs.declared.Performed.{Performed}
use Rattle.record.specs.Answer.{answer_bytes, refused_bytes}

-- a number alone, no pair, no cause and no byte are written as the number and zeros
pub answer_alone :
    {s : Cgb} {wram vram oam w v o : List ℕ} (p : Performed) → Declined s wram vram oam p w v o →
    answer_bytes p ≡ refused_bytes p.told.refusal
answer_alone p d = rw (d.no_pair_lem, d.no_cause, d.no_byte, d.number_alone)
