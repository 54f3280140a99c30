-- An input within its types' widths, a record each: what every input that code hands over is. Flags need no bound; that a written
-- value is a byte stands in the call itself.
use Rattle.std.specs.Prelude.{ℕ, ◌<◌, ◌^◌}
use Rattle.bus.specs.declared.commit.BusInput.{BusInput}
use Rattle.fall_stages.specs.declared.FallInput.{FallInput}
use Rattle.speed_switch.specs.declared.switch.SwitchInput.{SwitchInput}
use Rattle.ledger.specs.Calls
use Rattle.ledger.specs.Calls.{Call}
use Rattle.ledger.specs.Demand3.{History, from_power_on, then}

-- a count of master edges
abbrev pub IsEdge : ℕ → Type 0
IsEdge n = n < 2 ^ 64

pub record FitsFall (i : FallInput) : Type 0 where
  pub mode : i.mode < 256
  pub master_edge : IsEdge i.master_edge

pub record FitsSwitch (i : SwitchInput) : Type 0 where
  pub dot_phase : i.dot_phase < 256
  pub master_edge : IsEdge i.master_edge

pub record FitsBus (i : BusInput) : Type 0 where
  pub oam_start_edge : IsEdge i.oam_start_edge

abbrev pub FitsCall : Call → Type 0
FitsCall (Calls.write a w n byte) = (a < 2 ^ 16) × IsEdge w.oam_start_edge
FitsCall (Calls.read a n) = a < 2 ^ 16
FitsCall (Calls.fall i) = FitsFall i
FitsCall Calls.next_pair = Unit {0}
FitsCall Calls.escape_drain = Unit {0}
FitsCall (Calls.bus_call i n) = FitsBus i
FitsCall (Calls.switch_speed i) = FitsSwitch i
FitsCall Calls.lcd_off = Unit {0}
FitsCall Calls.retired = Unit {0}
FitsCall (Calls.blackout elapsed) = elapsed < 2 ^ 32
FitsCall (Calls.wake boundary) = Unit {0}
FitsCall (Calls.arbitrate i) = Unit {0}
FitsCall (Calls.conflict a) = a < 2 ^ 16
FitsCall (Calls.query q) = Unit {0}
FitsCall (Calls.arbitrate_inside i) = Unit {0}
FitsCall (Calls.bus_call_inside i n) = Unit {0}
FitsCall (Calls.object_dma_cycle a n) = Unit {0}

-- every call of a history
unfoldable pub FitsHistory : History → Type 0
FitsHistory (from_power_on k) = Unit {0}
FitsHistory (then h e) = FitsHistory h × FitsCall e.call
