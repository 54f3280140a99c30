-- Object DMA told by H alone (document 02, A1): the last accepted write to FF46, and the M-cycle calls since then that count.
use Rattle.std.specs.Prelude.{ℕ, ◌+◌, min, Bool, false, cond, ltb, eqb}
use Rattle.console.specs.PowerOn.{object_dma_at_rest}
use Rattle.console.specs.declared.object.ObjectDma.{ObjectDma}
use Rattle.bus.specs.declared.arbitration.Arbitration.{Arbitration}
use Rattle.bus.specs.declared.arbitration.Arbitration.TheVariants.{Clear, Contended, Stall}
use Rattle.ledger.specs.Calls.{Call, write, read, fall, next_pair, escape_drain, bus_call, switch_speed, lcd_off, retired, blackout, wake}
use Rattle.ledger.specs.Calls.{arbitrate, conflict, query, arbitrate_inside, bus_call_inside, object_dma_cycle}
use Rattle.ledger.specs.Demand3.{History, from_power_on, then}
use Rattle.ledger.specs.LedgerInput.{accepts}

-- of a call: a write to FF46 with its page and edge, an M-cycle call that is not given stall, or any other
pub data ObjectInput : Type 0 where
  a_start : (page edge : ℕ) → ObjectInput
  a_cycle another : ObjectInput

-- by what it is given: "contended, its own byte is passed over but counted; stalled, it waits"
abbrev pub cycle_input : Arbitration → ObjectInput
cycle_input Clear = a_cycle
cycle_input Contended = a_cycle
cycle_input Stall = another

unfoldable pub object_input : Call → ObjectInput
object_input (write a w n byte) = cond (eqb a 0xFF46) (a_start w.value w.oam_start_edge) another
object_input (read a n) = another
object_input (fall i) = another
object_input next_pair = another
object_input escape_drain = another
object_input (bus_call i n) = another
object_input (switch_speed i) = another
object_input lcd_off = another
object_input retired = another
object_input (blackout elapsed) = another
object_input (wake boundary) = another
object_input (arbitrate i) = another
object_input (conflict a) = another
object_input (query q) = another
object_input (arbitrate_inside i) = another
object_input (bus_call_inside i n) = another
object_input (object_dma_cycle a n) = cycle_input a

-- no accepted write to FF46 yet; or the last one, and how many accepted M-cycle calls since then were not given stall
pub data Start : Type 0 where
  none : Start
  since : (page edge cycles : ℕ) → Start

-- "a new write starts over"; "whatever else comes between" changes nothing
abbrev pub entered : Start → ObjectInput → Start
entered l (a_start page edge) = since page edge 0
entered none a_cycle = none
entered (since page edge n) a_cycle = since page edge (n + 1)
entered l another = l

-- a declined call does not enter
unfoldable pub start_of : History → Start
start_of (from_power_on k) = none
start_of (then h e) = cond (accepts e.reply) (entered (start_of h) (object_input e.call)) (start_of h)

-- object DMA then: at rest from power-on; else it runs until 160 are counted, and counts no more
unfoldable pub object_at : Start → ObjectDma
object_at none = object_dma_at_rest
object_at (since page edge n) = record { running = ltb n 160; page = page; counted = min n 160; start_edge = edge }

-- what arbitration and the bus call from inside are told then
abbrev pub transfers_at : Start → Bool
transfers_at none = false
transfers_at (since page edge n) = ltb n 160

abbrev pub edge_at : Start → ℕ
edge_at none = 0
edge_at (since page edge n) = edge
