-- The bus that object DMA's last byte shares: an M-cycle by the forms from inside, in the manual's order (arbitration, the M-cycle call
-- with its answer, the bus call).
use Rattle.std.specs.Prelude.{Result}
use Rattle.console.specs.declared.Cgb.{Cgb}
use Rattle.console.specs.declared.refusal.Refusal.{Refusal}
use Rattle.bus.specs.declared.arbitration.Arbitration.{Arbitration}
use Rattle.bus.specs.declared.hold.HoldInput.{HoldInput}
use Rattle.engine.specs.Calls.{Lengths, arbitrated, arbitration_call_of, bus_state, inside_arbitration, inside_bus, cycle_state}

-- arbitration's answer in the M-cycle that begins at s
abbrev pub answer_in : Cgb → HoldInput → Result Arbitration Refusal
answer_in s i = (arbitration_call_of s (inside_arbitration s i)).answer

-- the same without a refusal, as the M-cycle call takes it
abbrev pub given_in : Cgb → HoldInput → Arbitration
given_in s i = (arbitrated s (inside_arbitration s i)).answer

unfoldable pub after_m_cycle : Cgb → HoldInput → Lengths → Cgb
after_m_cycle s i n =
    let arbitrated = (arbitration_call_of s (inside_arbitration s i)).state in
    let cycled = cycle_state arbitrated (given_in s i) n in
    bus_state cycled (inside_bus cycled i) n
