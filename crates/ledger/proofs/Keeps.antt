-- Every call, accepted or declined, is followed by a state that passes refusal 7 where the one before it does. Assumes nothing.
use Prim.Native.Nat.{ℕ, ◌≤◌}
use mathlib.Core.Path.{◌≡◌}
use mathlib.Core.Bool.{false, not}
use borrow.Author.Tests.{eq-eqb, ltb-false}
use Rattle.console.specs.Reached.{unreached, Reached, Sound}
use Rattle.console.specs.Set.{with_vram_dma}
use Rattle.console.specs.declared.Cgb.{Cgb}
use Rattle.console.specs.declared.vram_dma.VramDma.{VramDma}
use Rattle.console.proofs.Reached as seven
use Rattle.console.proofs.Refusals.{NoneHolds}
use Rattle.object_dma_calls.proofs.CycleSteps.{cycle_within}
use Rattle.registers.specs.Map.{dma_start, place_of}
use Rattle.registers.proofs.MapSteps.{dma_start_at}
use Rattle.fall_stages.proofs.Sound.{fall_sound}
use Rattle.map_write.proofs.Keeps as map
use Rattle.blackout.specs.Blackout.{drained_of, woken_of}
use Rattle.cut.specs.Cut.{engine_after}
use Rattle.speed_switch.specs.Switch.{switched_of}
use Rattle.cut.proofs.Sound.{switch_sound}
use Rattle.transfer.specs.Latch.{lcd_disabled_of, retired_of}
use Rattle.transfer.specs.Pair.{next_byte_of, drain_of}
use Rattle.transfer.proofs.Sound.{next_sound, drain_sound, lcd_sound, retired_sound}
use Rattle.bus.specs.Commit.{bus_taken}
use Rattle.bus.proofs.Sound.{bus_sound}
use Rattle.engine.specs.Calls.{page_above, fallen, fallen_state, inside_bus}
use Rattle.ledger.specs.Calls
use Rattle.ledger.specs.Calls.{Call, Outcome, step}
use Rattle.ledger.proofs.AcceptedOrDeclined.{reasons_of, given_by, either_way}

-- an accepted write to FF46 has a page that 7 lets pass
page_of : (a v : ℕ) → page_above v a ≡ false → place_of a ≡ dma_start → v ≤ 0xDF
page_of a v below start = ltb-false 0xDF v (rw (eq-eqb a 0xFF46 (dma_start_at a start)) at below)

module _ (s : Cgb) (r : Reached s) where
  -- a call that gives another engine in the state's place
  with_sound : (d : VramDma) → (Sound s.vram_dma → Sound d) → Reached (with_vram_dma d s)
  with_sound d keeps = seven.reached_with s d r (keeps (seven.sound s r))

  given_keeps : (c : Call) → NoneHolds (reasons_of s c) → Reached (given_by s c).state
  unfolding fallen_state switched_of drained_of woken_of
  given_keeps (Calls.write a w n byte) none = map.write_keeps s w a (page_of a w.value none.1.1.0) r
  given_keeps (Calls.read a n) none = r
  given_keeps (Calls.fall i) none = with_sound (fallen s i).dma (fall_sound i s.double_speed s.vram_dma)
  given_keeps Calls.next_pair none = with_sound (next_byte_of s.vram_dma).dma (next_sound s.vram_dma)
  given_keeps Calls.escape_drain none = with_sound (drain_of s.vram_dma).dma (drain_sound s.vram_dma)
  given_keeps (Calls.bus_call i n) none = with_sound (bus_taken i s.vram_dma).dma (bus_sound i s.vram_dma)
  given_keeps (Calls.switch_speed i) none =
      let up = not s.double_speed in with_sound (engine_after up s.vram_dma) (switch_sound up s.vram_dma)
  given_keeps Calls.lcd_off none = with_sound (lcd_disabled_of s.vram_dma) (lcd_sound s.vram_dma)
  given_keeps Calls.retired none = with_sound (retired_of s.vram_dma) (retired_sound s.vram_dma)
  given_keeps (Calls.blackout elapsed) none = r
  given_keeps (Calls.wake boundary) none = r
  given_keeps (Calls.arbitrate i) none = r
  given_keeps (Calls.conflict a) none = r
  given_keeps (Calls.query q) none = r
  given_keeps (Calls.arbitrate_inside i) none = r
  given_keeps (Calls.bus_call_inside i n) none =
      let given = inside_bus s i in with_sound (bus_taken given s.vram_dma).dma (bus_sound given s.vram_dma)
  given_keeps (Calls.object_dma_cycle a n) none = seven.reached_with_object s _ r (cycle_within a s.object_dma r.object)

pub step_keeps : (s : Cgb) → unreached s ≡ false → (c : Call) → unreached (step s c).state ≡ false
step_keeps s passes c =
    either_way s (λ (o : Outcome). unreached o.state ≡ false) c
    (λ none. seven.passes (given_by s c).state (given_keeps s (seven.reached s passes) c none.1))
    (λ refused. passes)
