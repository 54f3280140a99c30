-- The M-cycle call from what its parts give: by arbitration's answer, declined and accepted. Assumes nothing.
use Prim.Native.Nat.{ℕ, ◌<◌}
use mathlib.Core.Path.{◌≡◌, ap, ◌∙◌}
use mathlib.Core.Bool.{Bool, true, false, ◌&&◌, false≢true}
use mathlib.Core.List.{List}
use lib.Dec.{ltb}
use borrow.Author.Tests.{ltb-true}
use Rattle.std.proofs.Common.{Some, None, Ok}
use Rattle.console.specs.Set.{with_object_dma}
use Rattle.console.specs.declared.Cgb.{Cgb}
use Rattle.console.specs.declared.object.ObjectDma.{ObjectDma}
use Rattle.console.specs.declared.refusal.Refusal.{Refusal}
use Rattle.bus.specs.declared.arbitration.Arbitration.{Arbitration}
use Rattle.object_dma.specs.ObjectDma.{runs}
use Rattle.answers.specs.Answers.{cycle_values, cycled_says}
use Rattle.answers.specs.declared.Cycled.{Cycled}
use Rattle.answers.proofs.Numbers.{told}
use Rattle.bus_calls.specs.BusCall.{lengths_of, banks_of}
use Rattle.object_dma_calls.specs.Cycle.{cycle_answer_of, Took}
use Rattle.object_dma_calls.specs.Cycle.{cycle_refusal, refused_cycle}
use Rattle.object_dma_calls.specs.Cycle.{cycle_answer, cycle_state, cycle_said, cycle_byte, cycle_oam, cycle_of, AnswersCycle}
use Rattle.object_dma_calls.specs.declared.cycle.ByteTaken.{ByteTaken}

-- a run has bytes to count
pub runs_below : (o : ObjectDma) → runs o ≡ true → o.counted < 160
runs_below o h = ltb-true o.counted 160 (right o.running (ltb o.counted 160) h)
  where
    right : (a b : Bool) → (a && b) ≡ true → b ≡ true
    right true b e = e
    right false b e = absurd (false≢true e)

module _ (s : Cgb) (a : Arbitration) (cartridge wram vram oam : List ℕ) where
  pub cycle_told : cycled_says (cycle_of s a cartridge wram vram oam) ≡ cycle_said s a (lengths_of cartridge wram vram oam)
  unfolding cycle_of cycle_answer cycle_said
  cycle_told = told cycle_values (cycle_refusal s (lengths_of cartridge wram vram oam)) (cycle_answer_of a s.object_dma)

  says :
      (r : Cycled) → r ≡ cycle_of s a cartridge wram vram oam → cycled_says r ≡ cycle_said s a (lengths_of cartridge wram vram oam)
  says r is = ap cycled_says is ∙ cycle_told

  pub cycle_declined :
      (r : Cycled) (k : Refusal) → cycle_refusal s (lengths_of cartridge wram vram oam) ≡ Some k → r ≡ refused_cycle k s →
      AnswersCycle s a cartridge wram vram oam r oam
  unfolding cycle_of cycle_answer cycle_state cycle_byte cycle_oam
  cycle_declined r k refused is =
      let result : r ≡ cycle_of s a cartridge wram vram oam = is ∙ rw refused in
      record { result = result; says = says r result; stored = rw refused }

  -- the call's result from its part's
  abbrev taken_of : ByteTaken → Cycled
  taken_of t = record { answer = Ok t.answer; byte = t.byte; state = with_object_dma t.object s }

  pub cycle_done :
      (t : ByteTaken) (last : List ℕ) → cycle_refusal s (lengths_of cartridge wram vram oam) ≡ None →
      Took s.object_dma a (banks_of s) cartridge wram vram oam t last →
      AnswersCycle s a cartridge wram vram oam (taken_of t) last
  unfolding cycle_of cycle_answer cycle_state cycle_byte cycle_oam
  cycle_done t last zero took =
      let result : taken_of t ≡ cycle_of s a cartridge wram vram oam = ap taken_of took.result ∙ rw zero in
      record { result = result; says = says _ result; stored = took.stored ∙ rw zero }
