-- What is shown of the bus call, in document 01's words (section 3).
use Rattle.std.specs.Prelude.{◌+◌, ◌-◌, ◌%◌, ◌<◌, min, ◌≡◌, true, false, [], ◌∷◌, ◌↔◌, length, Some, None}
use Rattle.countdown.specs.Countdown.{remaining_of, stepped}
use Rattle.console.specs.declared.vram_dma.TransferMode.TheVariants.{General}
use Rattle.console.specs.declared.vram_dma.VramDma.{VramDma}
use Rattle.transfer.specs.CauseSteps.{Caused}
use Rattle.transfer.specs.Keeps.{KeepsMarks, SixteenBits}
use Rattle.transfer.specs.Pair.{next_byte_of}
use Rattle.transfer.specs.PairsLeft.{pairs_left, movable}
use Rattle.transfer.specs.declared.pair.BytePair.{BytePair}
use Rattle.transfer.specs.declared.pair.Cause.{Cause}
use Rattle.transfer.specs.declared.pair.Cause.TheVariants.{GoingOn}
use Rattle.bus.specs.Commit.{Taken, nothing, holds_bus, setup_stands, with_cells, bus_taken}
use Rattle.bus.specs.declared.commit.BusInput.{BusInput}

-- how many pairs the engine d hands out in a call that takes t
pub record HandsOut (d : VramDma) (t : Taken) : Type 0 where
  -- as many as may move, within quota
  pub count : length t.pairs ≡ min d.cursor.quota (movable d)
  -- in mode General that is all that are left, an owed escape among them
  pub general : d.cursor.mode ≡ General → length t.pairs ≡ min d.cursor.quota (pairs_left d.cursor)
  -- and where none is owed the least of quota, left and 65,536 − destination
  pub unowed :
      d.cursor.mode ≡ General → d.cursor.escape_byte ≡ false →
      length t.pairs ≡ min d.cursor.quota (min d.cursor.remaining (65536 - d.cursor.dest))
  -- each of them is taken from what is left
  pub rest : length t.pairs + pairs_left t.dma.cursor ≡ pairs_left d.cursor

pub record BusSteps (i : BusInput) (d : VramDma) : Type 0 where
  -- "A bus call neither held nor suspended does nothing."
  pub released : i.hold ≡ false → i.suspended ≡ false → bus_taken i d ≡ nothing d
  -- "A set-up cell uses up the call."
  pub cell :
      holds_bus i ≡ true → 0 < remaining_of d.block.setup_cells →
      bus_taken i d ≡ record { dma = with_cells (stepped d.block.setup_cells) d; pairs = []; causes = []; setup = true }
  -- "Otherwise pairs are taken until none comes": the first one is the engine's next, the rest are those of the engine after it,
  -- and at the end there is none
  pub none : holds_bus i ≡ true → setup_stands d ≡ false → (next_byte_of d).answer ≡ None → bus_taken i d ≡ nothing d
  pub one :
      (p : BytePair) (k : Cause) → holds_bus i ≡ true → setup_stands d ≡ false → (next_byte_of d).answer ≡ Some (p, k) →
      ((bus_taken i d).pairs ≡ p ∷ (bus_taken i (next_byte_of d).dma).pairs) ×
      ((bus_taken i d).causes ≡ k ∷ (bus_taken i (next_byte_of d).dma).causes) ×
      ((bus_taken i d).dma ≡ (bus_taken i (next_byte_of d).dma).dma) ×
      ((bus_taken i d).setup ≡ false)
  pub ends : holds_bus i ≡ true → setup_stands d ≡ false → (next_byte_of (bus_taken i d).dma).answer ≡ None
  -- each of them takes 1 from quota
  pub quota : length (bus_taken i d).pairs + (bus_taken i d).dma.cursor.quota ≡ d.cursor.quota
  -- each pair has its cause (document 02, A3): of one alone that of the run after the call; of two the first is going on, and the
  -- second's register is the next
  pub cause_each : length (bus_taken i d).causes ≡ length (bus_taken i d).pairs
  pub cause_of_one :
      (k : Cause) → (bus_taken i d).causes ≡ k ∷ [] → Caused d.cursor.dest (bus_taken i d).dma.cursor.remaining k
  pub causes_of_two :
      (j k : Cause) → (bus_taken i d).causes ≡ j ∷ k ∷ [] →
      (j ≡ GoingOn) × Caused ((d.cursor.dest + 1) % 65536) (bus_taken i d).dma.cursor.remaining k
  -- how many they are, the destination being a 16-bit register
  pub hands_out : holds_bus i ≡ true → setup_stands d ≡ false → d.cursor.dest < 65536 → HandsOut d (bus_taken i d)
  -- a set-up cell is taken exactly where one stands and the bus is held; else the cells stay, and where none stands none comes
  pub takes_cell : ((bus_taken i d).setup ≡ true) ↔ ((holds_bus i ≡ true) × (setup_stands d ≡ true))
  pub keeps_cells : (bus_taken i d).setup ≡ false → (bus_taken i d).dma.block.setup_cells ≡ d.block.setup_cells
  pub no_cell : setup_stands d ≡ false → setup_stands (bus_taken i d).dma ≡ false
  -- the marks that a fall's commit looks at stay, and the pointers stay 16-bit registers
  pub marks : KeepsMarks d (bus_taken i d).dma
  pub sixteen_bits : SixteenBits d.cursor → SixteenBits (bus_taken i d).dma.cursor
  -- an owed escape is paid or stays; none comes
  pub paid : d.cursor.escape_byte ≡ false → (bus_taken i d).dma.cursor.escape_byte ≡ false
