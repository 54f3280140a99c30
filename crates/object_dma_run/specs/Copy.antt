-- Clear M-cycle calls with nothing between: OAM is handed from each to the next.
use Rattle.std.specs.Prelude.{ℕ, zero, suc, List}
use Rattle.console.specs.declared.Cgb.{Cgb}
use Rattle.bus.specs.declared.arbitration.Arbitration.TheVariants.{Clear}
use Rattle.engine.specs.Calls.{lengths_of, cycle_state, cycle_oam}

-- the state, and OAM
pub record CopyState : Type 0 where
  pub state : Cgb
  pub oam : List ℕ

unfoldable pub clear_cycle : List ℕ → List ℕ → List ℕ → CopyState → CopyState
clear_cycle cartridge wram vram x =
    let n = lengths_of cartridge wram vram x.oam in
    record { state = cycle_state x.state Clear n; oam = cycle_oam x.state Clear n cartridge wram vram x.oam }

unfoldable pub clear_cycles : ℕ → List ℕ → List ℕ → List ℕ → CopyState → CopyState
clear_cycles zero cartridge wram vram x = x
clear_cycles (suc n) cartridge wram vram x = clear_cycle cartridge wram vram (clear_cycles n cartridge wram vram x)
