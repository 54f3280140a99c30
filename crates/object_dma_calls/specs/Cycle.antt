-- The M-cycle call of object DMA (document 02, A1): 7, 2, then at most one byte. Answer and next state look at no more of the slices
-- than their lengths; the byte and OAM at exit have definitions of their own.
use Rattle.std.specs.Prelude.{ℕ, ◌≡◌, Bool, true, false, cond, ◌&&◌, List, Option, Result, Err}
use Rattle.console.specs.Refusals.{answered, kept}
use Rattle.console.specs.Set.{with_object_dma}
use Rattle.console.specs.declared.Cgb.{Cgb}
use Rattle.console.specs.declared.object.ObjectDma.{ObjectDma}
use Rattle.console.specs.declared.refusal.Refusal.{Refusal}
use Rattle.bus.specs.Source.{object_byte}
use Rattle.bus.specs.Store.{oam_with}
use Rattle.bus.specs.declared.arbitration.Arbitration.{Arbitration}
use Rattle.bus.specs.declared.arbitration.Arbitration.TheVariants.{Clear, Contended, Stall}
use Rattle.bus.specs.declared.commit.Banks.{Banks}
use Rattle.object_dma_calls.specs.declared.cycle.ByteTaken.{ByteTaken}
use Rattle.object_dma.specs.ObjectDma.{runs, source_of, target_of, after_byte}
use Rattle.answers.specs.Answers.{Said, saying, cycle_values, cycled_says}
use Rattle.answers.specs.declared.Cycle.{Cycle}
use Rattle.answers.specs.declared.Cycle.TheVariants as cycle
use Rattle.answers.specs.declared.Cycled.{Cycled}
use Rattle.bus_calls.specs.BusCall.{Lengths, lengths_of, bus_refusal, banks_of}

-- "Each M-cycle call is given arbitration's answer: contended, its own byte is passed over but counted; stalled, it waits"
abbrev pub counts_byte : Arbitration → Bool
counts_byte Clear = true
counts_byte Contended = true
counts_byte Stall = false

abbrev pub moves_byte : Arbitration → Bool
moves_byte Clear = true
moves_byte Contended = false
moves_byte Stall = false

-- "at rest this call changes nothing"
abbrev pub counts_now : Arbitration → ObjectDma → Bool
counts_now a o = runs o && counts_byte a

abbrev pub moves_now : Arbitration → ObjectDma → Bool
moves_now a o = runs o && moves_byte a

-- what becomes of the next byte where object DMA runs
abbrev pub running_answer : Arbitration → ObjectDma → Cycle
running_answer Clear o = cycle.Moved (source_of o)
running_answer Contended o = cycle.PassedOver (source_of o)
running_answer Stall o = cycle.Nothing

unfoldable pub cycle_answer_of : Arbitration → ObjectDma → Cycle
cycle_answer_of a o = cond (runs o) (running_answer a o) cycle.Nothing

unfoldable pub after_cycle : Arbitration → ObjectDma → ObjectDma
after_cycle a o = cond (counts_now a o) (after_byte o) o

-- the byte at the next source
abbrev pub byte_at_source : Banks → List ℕ → List ℕ → List ℕ → ObjectDma → ℕ
byte_at_source banks cartridge wram vram o = object_byte banks cartridge wram vram (source_of o)

-- "moves 160 bytes from p × 256 up to FE00h–FE9Fh, one byte each M-cycle call": the byte that moves, 0 where none does
unfoldable pub byte_moved : Arbitration → Banks → List ℕ → List ℕ → List ℕ → ObjectDma → ℕ
byte_moved a banks cartridge wram vram o = cond (moves_now a o) (byte_at_source banks cartridge wram vram o) 0

-- OAM after it
unfoldable pub oam_after_cycle : Arbitration → Banks → List ℕ → List ℕ → List ℕ → ObjectDma → List ℕ → List ℕ
oam_after_cycle a banks cartridge wram vram o oam =
    cond (moves_now a o) (oam_with oam (target_of o) (byte_at_source banks cartridge wram vram o)) oam

-- the work of a call
pub record Took (o : ObjectDma) (a : Arbitration) (banks : Banks) (cartridge wram vram oam : List ℕ) (r : ByteTaken) (last : List ℕ) : Type 0 where
  pub result : r ≡ record { answer = cycle_answer_of a o; byte = byte_moved a banks cartridge wram vram o; object = after_cycle a o }
  pub stored : last ≡ oam_after_cycle a banks cartridge wram vram o oam

-- 7, and 2 of all four slices, at rest too: as a bus call
abbrev pub cycle_refusal : Cgb → Lengths → Option Refusal
cycle_refusal s n = bus_refusal s n

unfoldable pub cycle_answer : Cgb → Arbitration → Lengths → Result Cycle Refusal
cycle_answer s a n = answered (cycle_refusal s n) (cycle_answer_of a s.object_dma)

unfoldable pub cycle_state : Cgb → Arbitration → Lengths → Cgb
cycle_state s a n = kept (cycle_refusal s n) s (with_object_dma (after_cycle a s.object_dma) s)

unfoldable pub cycle_said : Cgb → Arbitration → Lengths → Said
cycle_said s a n = saying (cycle_refusal s n) (cycle_values (cycle_answer_of a s.object_dma))

-- the byte, and OAM at exit: none and as before where it is declined
unfoldable pub cycle_byte : Cgb → Arbitration → Lengths → List ℕ → List ℕ → List ℕ → ℕ
cycle_byte s a n cartridge wram vram =
    kept (cycle_refusal s n) 0 (byte_moved a (banks_of s) cartridge wram vram s.object_dma)

unfoldable pub cycle_oam : Cgb → Arbitration → Lengths → List ℕ → List ℕ → List ℕ → List ℕ → List ℕ
cycle_oam s a n cartridge wram vram oam =
    kept (cycle_refusal s n) oam (oam_after_cycle a (banks_of s) cartridge wram vram s.object_dma oam)

unfoldable pub cycle_of : Cgb → Arbitration → List ℕ → List ℕ → List ℕ → List ℕ → Cycled
cycle_of s a cartridge wram vram oam =
    let n = lengths_of cartridge wram vram oam in
    record { answer = cycle_answer s a n; byte = cycle_byte s a n cartridge wram vram; state = cycle_state s a n }

abbrev pub refused_cycle : Refusal → Cgb → Cycled
refused_cycle r s = record { answer = Err r; byte = 0; state = s }

-- the whole outcome of an M-cycle call: result, what its answer says, OAM at exit
pub record AnswersCycle (s : Cgb) (a : Arbitration) (cartridge wram vram oam : List ℕ) (r : Cycled) (last : List ℕ) : Type 0 where
  pub result : r ≡ cycle_of s a cartridge wram vram oam
  pub says : cycled_says r ≡ cycle_said s a (lengths_of cartridge wram vram oam)
  pub stored : last ≡ cycle_oam s a (lengths_of cartridge wram vram oam) cartridge wram vram oam
