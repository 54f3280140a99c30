-- What is shown of one M-cycle call (document 02, A1), by numbers: when it is declined; and of an accepted one, whether object DMA runs
-- and by arbitration's answer, the whole outcome.
use Rattle.std.specs.Prelude.{ℕ, ◌+◌, ◌*◌, ◌≡◌, true, false, ◌&&◌, List, ltb, set, Some, None, Ok, Err}
use Rattle.console.specs.Reached.{unreached, ObjectDmaWithin}
use Rattle.console.specs.Refusals.{refusal_number, Numbered}
use Rattle.console.specs.Set.{with_object_dma}
use Rattle.console.specs.declared.Cgb.{Cgb}
use Rattle.console.specs.declared.object.ObjectDma.{ObjectDma}
use Rattle.console.specs.declared.refusal.Refusal.{Refusal}
use Rattle.console.specs.declared.refusal.Refusal.TheVariants.{State, Length}
use Rattle.bus.specs.Source.{object_byte}
use Rattle.bus.specs.declared.arbitration.Arbitration.{Arbitration}
use Rattle.bus.specs.declared.arbitration.Arbitration.TheVariants.{Clear, Contended, Stall}
use Rattle.object_dma.specs.ObjectDma.{runs}
use Rattle.answers.specs.declared.Cycle.TheVariants.{Nothing, Moved, PassedOver}
use Rattle.bus_calls.specs.BusCall.{lengths_of, banks_of}
use Rattle.bus_calls.specs.BusCallSteps.{WholeSlices}
use Rattle.object_dma_calls.specs.Cycle.{after_cycle, cycle_refusal, cycle_oam, cycle_of}
use Rattle.answers.specs.Queries.{asked}
use Rattle.object_dma_calls.specs.Query.{object_dma_told}

-- 7, then 2 of all four slices, whether it runs or not; a declined call leaves state and OAM
pub record CycleRefusals (s : Cgb) (a : Arbitration) (cartridge wram vram oam : List ℕ) : Type 0 where
  pub first_7 : unreached s ≡ true → Numbered (cycle_refusal s (lengths_of cartridge wram vram oam)) State 7
  pub then_2 :
      unreached s ≡ false → (WholeSlices (lengths_of cartridge wram vram oam) → ⊥) →
      Numbered (cycle_refusal s (lengths_of cartridge wram vram oam)) Length 2
  pub accepted : unreached s ≡ false → WholeSlices (lengths_of cartridge wram vram oam) → cycle_refusal s (lengths_of cartridge wram vram oam) ≡ None
  pub declined :
      (r : Refusal) → cycle_refusal s (lengths_of cartridge wram vram oam) ≡ Some r →
      (cycle_of s a cartridge wram vram oam ≡ record { answer = Err r; byte = 0; state = s }) ×
      (cycle_oam s a (lengths_of cartridge wram vram oam) cartridge wram vram oam ≡ oam)

-- a byte more counted
abbrev pub counted_more : ObjectDma → ObjectDma
counted_more o = record { running = ltb (o.counted + 1) 160; page = o.page; counted = o.counted + 1; start_edge = o.start_edge }

-- an accepted call, of a state in which object DMA is o
pub record CycleSteps (s : Cgb) (cartridge wram vram oam : List ℕ) : Type 0 where
  -- "at rest this call changes nothing", whatever answer it is given
  pub rests :
      runs s.object_dma ≡ false → (a : Arbitration) →
      (cycle_of s a cartridge wram vram oam ≡ record { answer = Ok Nothing; byte = 0; state = s }) ×
      (cycle_oam s a (lengths_of cartridge wram vram oam) cartridge wram vram oam ≡ oam)
  -- "moves 160 bytes from p × 256 up to FE00h–FE9Fh, one byte each M-cycle call"
  pub clear :
      (let o = s.object_dma in
      let byte = object_byte (banks_of s) cartridge wram vram (o.page * 256 + o.counted) in
      runs o ≡ true →
      (cycle_of s Clear cartridge wram vram oam ≡
      record { answer = Ok (Moved (o.page * 256 + o.counted)); byte = byte; state = with_object_dma (counted_more o) s }) ×
      (cycle_oam s Clear (lengths_of cartridge wram vram oam) cartridge wram vram oam ≡ set oam o.counted byte))
  -- "contended, its own byte is passed over but counted": OAM stays
  pub contended :
      (let o = s.object_dma in
      runs o ≡ true →
      (cycle_of s Contended cartridge wram vram oam ≡
      record { answer = Ok (PassedOver (o.page * 256 + o.counted)); byte = 0; state = with_object_dma (counted_more o) s }) ×
      (cycle_oam s Contended (lengths_of cartridge wram vram oam) cartridge wram vram oam ≡ oam))
  -- "stalled, it waits": state and OAM stay
  pub stalled :
      (cycle_of s Stall cartridge wram vram oam ≡ record { answer = Ok Nothing; byte = 0; state = s }) ×
      (cycle_oam s Stall (lengths_of cartridge wram vram oam) cartridge wram vram oam ≡ oam)

-- the query, of a state that passes 7: whether it runs is that it was started and fewer than 160 are counted
pub record ObjectDmaQuery (s : Cgb) : Type 0 where
  pub tells :
      unreached s ≡ false →
      asked s (object_dma_told s) ≡
      Ok (record {
        runs = s.object_dma.running && ltb s.object_dma.counted 160;
        counted = s.object_dma.counted;
        page = s.object_dma.page;
      })
  pub declined : unreached s ≡ true → (asked s (object_dma_told s) ≡ Err State) × (refusal_number State ≡ 7)

pub record CycleLaws : Type 0 where
  pub refusals : (s : Cgb) (a : Arbitration) (cartridge wram vram oam : List ℕ) → CycleRefusals s a cartridge wram vram oam
  pub accepted :
      (s : Cgb) (cartridge wram vram oam : List ℕ) → cycle_refusal s (lengths_of cartridge wram vram oam) ≡ None → CycleSteps s cartridge wram vram oam
  pub query : (s : Cgb) → ObjectDmaQuery s
  -- count and page stay within 7's tests
  pub within : (a : Arbitration) (o : ObjectDma) → ObjectDmaWithin o → ObjectDmaWithin (after_cycle a o)
