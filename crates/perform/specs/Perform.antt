-- Every call of the engine through one function: what it says, a bus call's pairs with their causes and bytes, an M-cycle call's byte,
-- the state after and memory at exit, each by the definition that the call's own contract cites.
use Rattle.std.specs.Prelude.{ℕ, ◌≡◌, List, [], ◌∷◌, length}
use Rattle.console.specs.declared.Cgb.{Cgb}
use Rattle.bus.specs.Deposit.{no_pair}
use Rattle.bus.specs.declared.arbitration.Arbitration.{Arbitration}
use Rattle.bus.specs.declared.commit.BusInput.{BusInput}
use Rattle.map_write.specs.declared.WriteInput.{WriteInput}
use Rattle.answers.specs.Answers.{cause_numbers}
use Rattle.engine.specs.Calls.{read_said, write_of, write_wram, write_said, lengths_of, bus_said, bus_vram, bus_oam, bus_of}
use Rattle.engine.specs.Calls.{inside_bus, cycle_said, cycle_oam, cycle_of}
use Rattle.call.specs.declared.Call.{Call}
use Rattle.call.specs.declared.Call.TheVariants.{Write, Read, Bus, BusInside, ObjectDmaCycle, Plain}
use Rattle.plain.specs.Plain.{plain_performed}
use Rattle.told.specs.Declined.{Declined}
use Rattle.told.specs.Told.{told_of, telling}
use Rattle.told.specs.declared.Performed.{Performed}

unfoldable pub read_performed : Cgb → List ℕ → ℕ → Performed
read_performed s wram a = telling (read_said s wram a) s

unfoldable pub write_performed : Cgb → WriteInput → ℕ → ℕ → Performed
write_performed s w a n = telling (write_said s w.value a n) (write_of s w a n).state

unfoldable pub bus_performed : Cgb → BusInput → List ℕ → List ℕ → List ℕ → List ℕ → Performed
bus_performed s i cartridge wram vram oam =
    let b = bus_of s i cartridge wram vram oam in
    record {
      told = told_of (bus_said s i (lengths_of cartridge wram vram oam));
      pairs = b.pairs;
      causes = cause_numbers b.causes;
      bytes = b.bytes;
      state = b.state;
    }

unfoldable pub cycle_performed : Cgb → Arbitration → List ℕ → List ℕ → List ℕ → List ℕ → Performed
cycle_performed s a cartridge wram vram oam =
    let c = cycle_of s a cartridge wram vram oam in
    record {
      told = told_of (cycle_said s a (lengths_of cartridge wram vram oam));
      pairs = no_pair ∷ no_pair ∷ [];
      causes = 0 ∷ 0 ∷ [];
      bytes = c.byte ∷ 0 ∷ [];
      state = c.state;
    }

-- the parts of it that are lent memory
pub record WritePerformed (s : Cgb) (w : WriteInput) (a : ℕ) (wram : List ℕ) (r : Performed) (last : List ℕ) : Type 0 where
  pub result : r ≡ write_performed s w a (length wram)
  pub memory : last ≡ write_wram s w a wram

pub record BusPerformed (s : Cgb) (i : BusInput) (cartridge wram vram oam : List ℕ) (r : Performed) (last_vram last_oam : List ℕ) : Type 0 where
  pub result : r ≡ bus_performed s i cartridge wram vram oam
  pub stored : last_vram ≡ bus_vram s i (lengths_of cartridge wram vram oam) cartridge wram vram
  pub deposit : last_oam ≡ bus_oam s i (lengths_of cartridge wram vram oam) cartridge wram oam

pub record CyclePerformed (s : Cgb) (a : Arbitration) (cartridge wram vram oam : List ℕ) (r : Performed) (last : List ℕ) : Type 0 where
  pub result : r ≡ cycle_performed s a cartridge wram vram oam
  pub stored : last ≡ cycle_oam s a (lengths_of cartridge wram vram oam) cartridge wram vram oam

-- any call, with these contents in the slices
unfoldable pub perform_of : Cgb → Call → List ℕ → List ℕ → List ℕ → List ℕ → Performed
perform_of s (Write a w) cartridge wram vram oam = write_performed s w a (length wram)
perform_of s (Read a) cartridge wram vram oam = read_performed s wram a
perform_of s (Bus i) cartridge wram vram oam = bus_performed s i cartridge wram vram oam
perform_of s (BusInside i) cartridge wram vram oam = bus_performed s (inside_bus s i) cartridge wram vram oam
perform_of s (ObjectDmaCycle a) cartridge wram vram oam = cycle_performed s a cartridge wram vram oam
perform_of s (Plain p) cartridge wram vram oam = plain_performed s p

-- memory at exit
unfoldable pub wram_left : Cgb → Call → List ℕ → List ℕ
wram_left s (Write a w) wram = write_wram s w a wram
wram_left s (Read a) wram = wram
wram_left s (Bus i) wram = wram
wram_left s (BusInside i) wram = wram
wram_left s (ObjectDmaCycle a) wram = wram
wram_left s (Plain p) wram = wram

unfoldable pub vram_left : Cgb → Call → List ℕ → List ℕ → List ℕ → List ℕ → List ℕ
vram_left s (Write a w) cartridge wram vram oam = vram
vram_left s (Read a) cartridge wram vram oam = vram
vram_left s (Bus i) cartridge wram vram oam = bus_vram s i (lengths_of cartridge wram vram oam) cartridge wram vram
vram_left s (BusInside i) cartridge wram vram oam = bus_vram s (inside_bus s i) (lengths_of cartridge wram vram oam) cartridge wram vram
vram_left s (ObjectDmaCycle a) cartridge wram vram oam = vram
vram_left s (Plain p) cartridge wram vram oam = vram

unfoldable pub oam_left : Cgb → Call → List ℕ → List ℕ → List ℕ → List ℕ → List ℕ
oam_left s (Write a w) cartridge wram vram oam = oam
oam_left s (Read a) cartridge wram vram oam = oam
oam_left s (Bus i) cartridge wram vram oam = bus_oam s i (lengths_of cartridge wram vram oam) cartridge wram oam
oam_left s (BusInside i) cartridge wram vram oam = bus_oam s (inside_bus s i) (lengths_of cartridge wram vram oam) cartridge wram oam
oam_left s (ObjectDmaCycle a) cartridge wram vram oam = cycle_oam s a (lengths_of cartridge wram vram oam) cartridge wram vram oam
oam_left s (Plain p) cartridge wram vram oam = oam

-- the whole outcome
pub record Performs (s : Cgb) (call : Call) (cartridge wram vram oam : List ℕ) (r : Performed) (last_wram last_vram last_oam : List ℕ) : Type 0 where
  pub result : r ≡ perform_of s call cartridge wram vram oam
  pub work : last_wram ≡ wram_left s call wram
  pub stored : last_vram ≡ vram_left s call cartridge wram vram oam
  pub deposit : last_oam ≡ oam_left s call cartridge wram vram oam
  -- with a number, whichever: the state and the slices are those given
  pub declined : (r.told.refusal ≡ 0 → ⊥) → Declined s wram vram oam r last_wram last_vram last_oam
