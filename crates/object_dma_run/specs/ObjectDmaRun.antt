-- What is shown of object DMA over runs (document 02, A1).
use Rattle.std.specs.Prelude.{ℕ, ◌+◌, ◌*◌, ◌<◌, ◌≤◌, ◌≡◌, true, false, List, ◌↔◌, length, get_or, Ok}
use Rattle.console.specs.Reached.{unreached}
use Rattle.console.specs.Set.{with_object_dma}
use Rattle.console.specs.declared.Cgb.{Cgb}
use Rattle.transfer.specs.QuestionSteps.{WillMove}
use Rattle.bus.specs.ArbitrationSteps.{HdmaActive}
use Rattle.bus.specs.Source.{object_byte}
use Rattle.bus.specs.declared.arbitration.Arbitration.{Arbitration}
use Rattle.bus.specs.declared.arbitration.Arbitration.TheVariants as given
use Rattle.bus.specs.declared.hold.HoldInput.{HoldInput}
use Rattle.fall_stages.specs.declared.FallInput.{FallInput}
use Rattle.map_write.specs.declared.WriteInput.{WriteInput}
use Rattle.object_dma.specs.ObjectDma.{runs}
use Rattle.answers.specs.declared.Cycle.TheVariants.{Nothing, Moved}
use Rattle.bus_calls.specs.BusCall.{banks_of}
use Rattle.bus_calls.specs.BusCallSteps.{WholeSlices}
use Rattle.engine.specs.Calls.{write_of, Lengths, lengths_of, inside_arbitration, inside_bus, cycle_of, cycle_oam}
use Rattle.ledger.specs.Calls.{Call, fall, step}
use Rattle.ledger.specs.Demand3.{History, RunsTo}
use Rattle.object_dma_run.specs.Copy.{CopyState, clear_cycles}
use Rattle.object_dma_run.specs.Shared.{answer_in, after_m_cycle}
use Rattle.object_dma_run.specs.Since.{none, since, start_of, object_at, transfers_at, edge_at}

-- 160 clear M-cycle calls with nothing between, after a write of page p with edge e at the state s
pub record Copies (s : Cgb) (p e : ℕ) (cartridge wram vram oam : List ℕ) (r : CopyState) : Type 0 where
  -- "moves 160 bytes from p × 256 up to FE00h–FE9Fh": each of OAM's 160 bytes is the one at its place of the page, of every kind of
  -- source (`ObjectSource` tells them)
  pub whole : length r.oam ≡ 160
  pub byte : (k : ℕ) → k < 160 → get_or r.oam k 0 ≡ object_byte (banks_of s) cartridge wram vram (p * 256 + k)
  -- it has run out, and nothing else of the state has changed
  pub state : r.state ≡ with_object_dma (record { running = false; page = p; counted = 160; start_edge = e }) s

-- the M-cycle that counts the 160th byte begins at s: object DMA runs, and 159 are counted; at single speed, where nothing stalls
pub record LastByte (s : Cgb) (n : Lengths) : Type 0 where
  pub reached : unreached s ≡ false
  pub slices : WholeSlices n
  pub runs : runs s.object_dma ≡ true
  pub counted : s.object_dma.counted ≡ 159
  pub single : s.double_speed ≡ false

-- what may stand between two M-cycles: whatever leaves object DMA, the speed and what arbitration kept, a fall above all
pub record BetweenCycles (s t : Cgb) : Type 0 where
  pub reached : unreached t ≡ false
  pub object : t.object_dma ≡ s.object_dma
  pub speed : t.double_speed ≡ s.double_speed
  pub was : t.vram_dma.oam.was_transferring ≡ s.vram_dma.oam.was_transferring

-- "The OAM-DMA's final byte still shares the bus on the M-cycle it completes" (vram_dma.rs): contention reaches one M-cycle past the
-- 160th, and no further. The next M-cycle begins at t, the one after that at u
pub record OneMore (s t u : Cgb) (i j k : HoldInput) (n : Lengths) : Type 0 where
  -- after the M-cycle of the 160th byte object DMA is at rest
  pub rests : runs (after_m_cycle s i n).object_dma ≡ false
  -- in the next one the bus is contended exactly if the engine holds it and moves a byte
  pub shared : (answer_in t j ≡ Ok given.Contended) ↔ (HdmaActive (inside_arbitration t j) × WillMove t.vram_dma)
  -- in the one after that it is clear
  pub over : answer_in u k ≡ Ok given.Clear

pub record ObjectDmaRun : Type 0 where
  -- object DMA after every list of calls, by the last accepted write to FF46 and the M-cycle calls since then that were accepted and
  -- not given stall, whatever else comes between
  pub state : (h : History) (s : Cgb) → RunsTo h s → s.object_dma ≡ object_at (start_of h)
  -- so exactly 160 of them end the run: it runs with fewer, and rests from the 160th on
  pub runs_below :
      (h : History) (s : Cgb) → RunsTo h s → (page edge n : ℕ) → start_of h ≡ since page edge n → n < 160 → runs s.object_dma ≡ true
  pub rests_after :
      (h : History) (s : Cgb) → RunsTo h s → (page edge n : ℕ) → start_of h ≡ since page edge n → 160 ≤ n → runs s.object_dma ≡ false
  pub rests_before : (h : History) (s : Cgb) → RunsTo h s → start_of h ≡ none → runs s.object_dma ≡ false
  -- with n behind it a clear one moves the byte at page × 256 + n; after the 160th none moves or counts, whatever it is given
  pub moves_next :
      (h : History) (s : Cgb) → RunsTo h s → (page edge n : ℕ) → start_of h ≡ since page edge n → n < 160 →
      (cartridge wram vram oam : List ℕ) → WholeSlices (lengths_of cartridge wram vram oam) →
      (cycle_of s given.Clear cartridge wram vram oam).answer ≡ Ok (Moved (page * 256 + n))
  pub none_after :
      (h : History) (s : Cgb) → RunsTo h s → (page edge n : ℕ) → start_of h ≡ since page edge n → 160 ≤ n →
      (a : Arbitration) (cartridge wram vram oam : List ℕ) → WholeSlices (lengths_of cartridge wram vram oam) →
      (cycle_of s a cartridge wram vram oam ≡ record { answer = Ok Nothing; byte = 0; state = s }) ×
      (cycle_oam s a (lengths_of cartridge wram vram oam) cartridge wram vram oam ≡ oam)
  -- what arbitration and the bus call from inside are told: whether it runs, and the edge of the last write, at rest too
  pub transfers :
      (h : History) (s : Cgb) → RunsTo h s → (i : HoldInput) →
      inside_arbitration s i ≡ record { hold = i.hold; suspended = i.suspended; oam_transferring = transfers_at (start_of h) }
  pub edge :
      (h : History) (s : Cgb) → RunsTo h s → (i : HoldInput) →
      inside_bus s i ≡ record { hold = i.hold; suspended = i.suspended; oam_start_edge = edge_at (start_of h) }
  -- 160 clear ones with nothing between copy the page: from the write on
  pub copies :
      (s : Cgb) (w : WriteInput) (cartridge wram vram oam : List ℕ) → unreached s ≡ false → w.value ≤ 0xDF →
      WholeSlices (lengths_of cartridge wram vram oam) →
      Copies s w.value w.oam_start_edge cartridge wram vram oam
      (clear_cycles 160 cartridge wram vram (record { state = (write_of s w 0xFF46 (length wram)).state; oam = oam }))
  -- contention lasts one M-cycle past the 160th; falls come between M-cycles, one or several
  pub one_more :
      (s t u : Cgb) (i j k : HoldInput) (n : Lengths) → LastByte s n →
      BetweenCycles (after_m_cycle s i n) t → BetweenCycles (after_m_cycle t j n) u → OneMore s t u i j k n
  pub fall_between : (s : Cgb) (f : FallInput) → unreached s ≡ false → BetweenCycles s (step s (fall f)).state
  pub more_between : (s t u : Cgb) → BetweenCycles s t → BetweenCycles t u → BetweenCycles s u
  -- count and page stay within 7 by every call, and so in every run
  pub keeps_7 : (s : Cgb) → unreached s ≡ false → (c : Call) → unreached (step s c).state ≡ false
  pub within : (h : History) (s : Cgb) → RunsTo h s → (s.object_dma.counted ≤ 160) × (s.object_dma.page ≤ 0xDF)
