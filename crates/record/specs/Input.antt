-- The inputs of a call in its record of 16 bytes (document 01, section 6: "1 write (2–3 address, 4 value, 5 LCD on if not 0), 2
-- fall (4 mode; 5 bits 0–3 halted, IRQ, stopped, OAM; 8–15 edge) .. 4 switch (4 phase; 5 bits 0–1 hold, interrupt; 8–15 edge) .. 7
-- blackout (8–11 elapsed). Other bytes and bits are ignored."); then 9 bus (5 bits 0–1 hold, suspended; 8–15 OAM DMA's start
-- edge), 10 arbitration (5 bits 0–2 hold, suspended, OAM DMA transfers), 12 wake intake (5 bit 0 M-cycle boundary); 8 read and 11
-- write conflict have an address as a write has. Document 02, A1: of a write "in the replay its bytes 8–15" are the start edge; 28 and 29,
-- from inside (5 bits 0–1 hold, suspended); 27 M-cycle (4 arbitration's answer).
use Rattle.std.specs.Prelude.{ℕ, ◌/◌, ◌%◌, Bool, not, List, eqb}
use Rattle.arithmetic.specs.Number.{byte_at, number_at}
use Rattle.bus.specs.declared.arbitration.ArbitrationInput.{ArbitrationInput}
use Rattle.bus.specs.declared.commit.BusInput.{BusInput}
use Rattle.bus.specs.declared.hold.HoldInput.{HoldInput}
use Rattle.fall_stages.specs.declared.FallInput.{FallInput}
use Rattle.map_write.specs.declared.WriteInput.{WriteInput}
use Rattle.speed_switch.specs.declared.switch.SwitchInput.{SwitchInput}

abbrev pub bit0 : ℕ → Bool
bit0 n = eqb (n % 2) 1

abbrev pub address_of : List ℕ → ℕ
address_of bytes = number_at bytes 2 2

abbrev pub edge_of : List ℕ → ℕ
edge_of bytes = number_at bytes 8 8

abbrev pub elapsed_of : List ℕ → ℕ
elapsed_of bytes = number_at bytes 8 4

abbrev pub write_input_of : List ℕ → WriteInput
write_input_of bytes = record { value = byte_at bytes 4; lcd_on = not (eqb (byte_at bytes 5) 0); oam_start_edge = edge_of bytes }

unfoldable pub fall_input_of : List ℕ → FallInput
fall_input_of bytes =
    record {
      mode = byte_at bytes 4;
      halted = bit0 (byte_at bytes 5);
      irq_latched = bit0 (byte_at bytes 5 / 2);
      stopped = bit0 (byte_at bytes 5 / 4);
      master_edge = edge_of bytes;
      oam_owns_bus = bit0 (byte_at bytes 5 / 8);
    }

unfoldable pub switch_input_of : List ℕ → SwitchInput
switch_input_of bytes =
    record {
      hold = bit0 (byte_at bytes 5);
      dot_phase = byte_at bytes 4;
      interrupt_ready = bit0 (byte_at bytes 5 / 2);
      master_edge = edge_of bytes;
    }

unfoldable pub bus_input_of : List ℕ → BusInput
bus_input_of bytes =
    record { hold = bit0 (byte_at bytes 5); suspended = bit0 (byte_at bytes 5 / 2); oam_start_edge = edge_of bytes }

unfoldable pub arbitration_input_of : List ℕ → ArbitrationInput
arbitration_input_of bytes =
    record { hold = bit0 (byte_at bytes 5); suspended = bit0 (byte_at bytes 5 / 2); oam_transferring = bit0 (byte_at bytes 5 / 4) }

unfoldable pub hold_input_of : List ℕ → HoldInput
hold_input_of bytes = record { hold = bit0 (byte_at bytes 5); suspended = bit0 (byte_at bytes 5 / 2) }

abbrev pub boundary_of : List ℕ → Bool
boundary_of bytes = bit0 (byte_at bytes 5)
