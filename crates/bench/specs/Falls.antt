-- What the measured loop leaves: the calls' own definitions, one after the other.
use Rattle.std.specs.Prelude.{ℕ, zero, suc, ◌/◌, ◌%◌, ◌≡◌, Bool, true, false, cond, List, eqb, length, get_or}
use Rattle.codec.specs.Codec.{encode_of, state_of}
use Rattle.console.specs.declared.Cgb.{Cgb}
use Rattle.bus.specs.declared.commit.BusInput.{BusInput}
use Rattle.fall_stages.specs.declared.FallInput.{FallInput}
use Rattle.engine.specs.Calls.{fall_call_of, lengths_of, bus_state, bus_vram, bus_oam}

-- the state and the memory that bus calls write
pub record Measured : Type 0 where
  pub state : Cgb
  pub vram : List ℕ
  pub oam : List ℕ

abbrev pub step_bit : ℕ → ℕ → Bool
step_bit weight step = eqb (step / weight % 2) 1

-- a step's byte: mode in bits 0 and 1, halted, IRQ latched, stopped, a bus owned by OAM DMA
abbrev pub step_fall : ℕ → ℕ → FallInput
step_fall step edge =
    record {
      mode = step % 4;
      halted = step_bit 4 step;
      irq_latched = step_bit 8 step;
      stopped = step_bit 16 step;
      master_edge = edge;
      oam_owns_bus = step_bit 32 step;
    }

abbrev pub step_bus : BusInput
step_bus = record { hold = true; suspended = false; oam_start_edge = 0 }

unfoldable pub after_fall : ℕ → ℕ → Measured → Measured
after_fall edge step m = record { state = (fall_call_of m.state (step_fall step edge)).state; vram = m.vram; oam = m.oam }

-- a held bus call
unfoldable pub after_bus : List ℕ → List ℕ → Measured → Measured
after_bus cartridge wram m =
    let n = lengths_of cartridge wram m.vram m.oam in
    record {
      state = bus_state m.state step_bus n;
      vram = bus_vram m.state step_bus n cartridge wram m.vram;
      oam = bus_oam m.state step_bus n cartridge wram m.oam;
    }

pub record Held (s : Cgb) (cartridge wram vram oam : List ℕ) (r : Cgb) (last_vram last_oam : List ℕ) : Type 0 where
  pub all :
      record { state = r; vram = last_vram; oam = last_oam } ≡
      after_bus cartridge wram (record { state = s; vram = vram; oam = oam })

-- a fall for each byte, its edge the byte's place; where bit 6 is set a bus call follows
unfoldable pub stepped_of : List ℕ → List ℕ → ℕ → ℕ → Measured → Measured
stepped_of cartridge wram edge step m =
    cond (step_bit 64 step) (after_bus cartridge wram (after_fall edge step m)) (after_fall edge step m)

-- after the first n bytes of the steps
unfoldable pub after_steps : List ℕ → List ℕ → List ℕ → Measured → ℕ → Measured
after_steps cartridge wram steps start zero = start
after_steps cartridge wram steps start (suc n) =
    stepped_of cartridge wram n (get_or steps n 0) (after_steps cartridge wram steps start n)

-- the whole outcome, from the state that the bytes read as
unfoldable pub measured_of : List ℕ → List ℕ → List ℕ → List ℕ → List ℕ → List ℕ → Measured
measured_of bytes steps cartridge wram vram oam =
    after_steps cartridge wram steps (record { state = state_of bytes; vram = vram; oam = oam }) (length steps)

pub record Benched (bytes steps cartridge wram vram oam last_bytes last_vram last_oam : List ℕ) : Type 0 where
  pub state : last_bytes ≡ encode_of (measured_of bytes steps cartridge wram vram oam).state
  pub stored : last_vram ≡ (measured_of bytes steps cartridge wram vram oam).vram
  pub deposit : last_oam ≡ (measured_of bytes steps cartridge wram vram oam).oam
