-- Every call does to object DMA what H tells of it, and nothing else does (specs, `object_at`). Assumes nothing.
use Prim.Native.Nat.{ℕ, ◌+◌, ◌<◌, ◌≤◌, min}
use native.Mathlib.Omega.{arith}
use mathlib.Core.Path.{◌≡◌, refl, sym, ap, subst, ◌∙◌}
use mathlib.Core.Bool.{Bool, true, false, cond, ◌&&◌, false≢true}
use lib.Dec.{ltb, eqb}
use borrow.Author.Tests.{ltb-true, ltb-false, le-ltb}
use Rattle.console.specs.PowerOn.{power_on_of}
use Rattle.console.specs.declared.Cgb.{Cgb}
use Rattle.console.specs.declared.object.ObjectDma.{ObjectDma}
use Rattle.console.proofs.Refusals.{some_number}
use Rattle.registers.specs.Map.{Place, work_ram, banked_ram, extra_oam, register, dma_start, unmapped, place_of, writable, locks, locks_at}
use Rattle.registers.specs.Map.{KEY0, KEY1, VBK, HDMA1, HDMA2, HDMA3, HDMA4, HDMA5, SVBK, FF72, FF73, FF74, FF75}
use Rattle.registers.proofs.MapSteps.{starts_dma, starts_at}
use Rattle.map_write.specs.Write.{MapWritten, state_at, stored_of, map_write_of}
use Rattle.map_write.specs.declared.WriteInput.{WriteInput}
use Rattle.blackout.specs.Blackout.{drained_of, woken_of}
use Rattle.speed_switch.specs.Switch.{switched_of}
use Rattle.bus.specs.declared.arbitration.Arbitration.{Arbitration}
use Rattle.bus.specs.declared.arbitration.Arbitration.TheVariants.{Clear, Contended, Stall}
use Rattle.object_dma.specs.ObjectDma.{runs, started, after_byte}
use Rattle.engine.specs.Calls.{fallen_state, after_cycle}
use Rattle.ledger.specs.Calls
use Rattle.ledger.specs.Calls.{Call, Outcome, step}
use Rattle.ledger.specs.Demand3.{History, RunsTo, at_power_on, called}
use Rattle.ledger.specs.LedgerInput.{accepts}
use Rattle.ledger.proofs.AcceptedOrDeclined.{given_by, either_way}
use Rattle.ledger.proofs.Tied.{returned_step}
use Rattle.object_dma_run.specs.Since.{cycle_input, ObjectInput, a_start, a_cycle, another, object_input, Start, none, since, entered, start_of, object_at}

-- what an accepted call makes of object DMA
abbrev applied : ObjectInput → ObjectDma → ObjectDma
applied (a_start page edge) o = started page edge
applied a_cycle o = cond (runs o) (after_byte o) o
applied another o = o

-- ---- a write: FF46 alone starts it, locked or not
module _ (s : Cgb) (w : WriteInput) where
  abbrev started_by : ObjectDma
  started_by = started w.value w.oam_start_edge

  stored : (p : Place) → (state_at s w p).object_dma ≡ cond (starts_dma p) started_by s.object_dma
  stored (work_ram i) = refl
  stored (banked_ram i) = refl
  stored (extra_oam i) = refl
  stored dma_start = refl
  stored unmapped = refl
  stored (register KEY0) = refl
  stored (register KEY1) = refl
  stored (register VBK) = refl
  stored (register HDMA1) = refl
  stored (register HDMA2) = refl
  stored (register HDMA3) = refl
  stored (register HDMA4) = refl
  stored (register HDMA5) = refl
  stored (register SVBK) = refl
  stored (register FF72) = refl
  stored (register FF73) = refl
  stored (register FF74) = refl
  stored (register FF75) = refl

  not_locked : (p : Place) → locks p ≡ true → starts_dma p ≡ false
  not_locked (work_ram i) h = refl
  not_locked (banked_ram i) h = refl
  not_locked (extra_oam i) h = refl
  not_locked (register r) h = refl
  not_locked dma_start h = absurd (false≢true h)
  not_locked unmapped h = refl

  written : (a : ℕ) → (map_write_of s w a).state.object_dma ≡ cond (eqb a 0xFF46) started_by s.object_dma
  unfolding map_write_of stored_of locks_at
  written a = by s.dmg_compat (locks (place_of a)) refl
    where
      at : (b : Bool) → starts_dma (place_of a) ≡ b → cond (eqb a 0xFF46) started_by s.object_dma ≡ cond b started_by s.object_dma
      at b e = ap (λ (x : Bool). cond x started_by s.object_dma) (sym (starts_at a) ∙ e)

      by :
          (d lock : Bool) → locks (place_of a) ≡ lock →
          (cond {A = MapWritten} (d && lock) (record { mapped = writable (place_of a); state = s }) (stored_of s w a)).state.object_dma ≡
          cond (eqb a 0xFF46) started_by s.object_dma
      by true true e = sym (at false (not_locked (place_of a) e))
      by true false e = stored (place_of a) ∙ sym (at _ refl)
      by false lock e = stored (place_of a) ∙ sym (at _ refl)

-- ---- every call
apply_write : (b : Bool) (page edge : ℕ) (o : ObjectDma) → cond b (started page edge) o ≡ applied (cond b (a_start page edge) another) o
apply_write true page edge o = refl
apply_write false page edge o = refl

by_answer : (a : Arbitration) (o : ObjectDma) → after_cycle a o ≡ applied (cycle_input a) o
unfolding after_cycle
by_answer Clear o = by (runs o)
  where
    by : (b : Bool) → cond (b && true) (after_byte o) o ≡ cond b (after_byte o) o
    by true = refl
    by false = refl
by_answer Contended o = by (runs o)
  where
    by : (b : Bool) → cond (b && true) (after_byte o) o ≡ cond b (after_byte o) o
    by true = refl
    by false = refl
by_answer Stall o = by (runs o)
  where
    by : (b : Bool) → cond (b && false) (after_byte o) o ≡ o
    by true = refl
    by false = refl

module _ (s : Cgb) where
  given : (c : Call) → (given_by s c).state.object_dma ≡ applied (object_input c) s.object_dma
  unfolding object_input fallen_state switched_of drained_of woken_of
  given (Calls.write a w n byte) = written s w a ∙ apply_write (eqb a 0xFF46) w.value w.oam_start_edge s.object_dma
  given (Calls.read a n) = refl
  given (Calls.fall i) = refl
  given Calls.next_pair = refl
  given Calls.escape_drain = refl
  given (Calls.bus_call i n) = refl
  given (Calls.switch_speed i) = refl
  given Calls.lcd_off = refl
  given Calls.retired = refl
  given (Calls.blackout elapsed) = refl
  given (Calls.wake boundary) = refl
  given (Calls.arbitrate i) = refl
  given (Calls.conflict a) = refl
  given (Calls.query q) = refl
  given (Calls.arbitrate_inside i) = refl
  given (Calls.bus_call_inside i n) = refl
  given (Calls.object_dma_cycle a n) = by_answer a s.object_dma

  -- accepted or declined
  abbrev Entered : Call → Outcome → Type 0
  Entered c o = o.state.object_dma ≡ cond (accepts o.reply) (applied (object_input c) s.object_dma) s.object_dma

  pub object_step : (c : Call) → Entered c (step s c)
  object_step c = either_way s (Entered c) c (λ none. given c) (λ r. rw (some_number r))

-- ---- the same told by H
-- a cycle more: one is counted until 160 are
more : (page edge n : ℕ) → applied a_cycle (object_at (since page edge n)) ≡ object_at (since page edge (n + 1))
unfolding object_at
more page edge n = by (ltb n 160) refl
  where
    least : n < 160 → min n 160 ≡ n
    least h = omega arith

    next : n < 160 → min (n + 1) 160 ≡ n + 1
    next h = omega arith

    most : 160 ≤ n → min n 160 ≡ 160
    most h = omega arith

    full : 160 ≤ n → min (n + 1) 160 ≡ 160
    full h = omega arith

    by : (b : Bool) → ltb n 160 ≡ b → applied a_cycle (object_at (since page edge n)) ≡ object_at (since page edge (n + 1))
    by true e = let h = ltb-true n 160 e in rw (least h, e, next h)
    by false e = let h = ltb-false n 160 e in rw (most h, e, full h, le-ltb (n + 1) 160 (omega arith))

enters : (l : Start) (i : ObjectInput) → applied i (object_at l) ≡ object_at (entered l i)
unfolding object_at
enters none (a_start page edge) = refl
enters (since page edge n) (a_start page' edge') = refl
enters none a_cycle = refl
enters (since page edge n) a_cycle = more page edge n
enters none another = refl
enters (since page edge n) another = refl

followed : (b : Bool) (l : Start) (i : ObjectInput) → cond b (applied i (object_at l)) (object_at l) ≡ object_at (cond b (entered l i) l)
followed true l i = enters l i
followed false l i = refl

pub object_state : {h : History} {s : Cgb} → RunsTo h s → s.object_dma ≡ object_at (start_of h)
unfolding start_of object_at power_on_of
object_state (at_power_on k s g) = ap (λ (x : Cgb). x.object_dma) g.told
object_state (called {h = h} {s = s} c o r returned) =
    subst (λ (x : Outcome). x.state.object_dma ≡ object_at (cond (accepts x.reply) (entered (start_of h) (object_input c)) (start_of h)))
    (sym (returned_step returned))
    (object_step s c
    ∙ ap (λ (x : ObjectDma). cond (accepts (step s c).reply) (applied (object_input c) x) x) (object_state r)
    ∙ followed (accepts (step s c).reply) (start_of h) (object_input c))
