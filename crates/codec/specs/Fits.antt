-- A state within its types' widths, a field each: what every state that code holds is. Flags and modes need no bound.
use Rattle.std.specs.Prelude.{ℕ, ◌<◌, ◌^◌, ◌≡◌, List, length}
use Rattle.arithmetic.specs.Number.{byte_at}
use Rattle.codec.specs.Rest.{latency_value}
use Rattle.console.specs.declared.Cgb.{Cgb}
use Rattle.console.specs.declared.object.ObjectDma.{ObjectDma}
use Rattle.console.specs.declared.vram_dma.HaltArbiter.{HaltArbiter}
use Rattle.console.specs.declared.vram_dma.HblankBlock.{HblankBlock}
use Rattle.console.specs.declared.vram_dma.TransferCursor.{TransferCursor}

-- n bytes
pub record Bytes (n : ℕ) (b : List ℕ) : Type 0 where
  pub long : length b ≡ n
  pub small : (k : ℕ) → byte_at b k < 256

pub record FitsCursor (c : TransferCursor) : Type 0 where
  pub source : c.source < 2 ^ 16
  pub dest : c.dest < 2 ^ 16
  pub remaining : c.remaining < 2 ^ 16
  pub quota : c.quota < 256

pub record FitsBlock (k : HblankBlock) : Type 0 where
  pub remaining : k.remaining < 256
  pub start_edge : k.start_edge < 2 ^ 64
  pub setup_cells : k.setup_cells.0 < 256
  pub ready_in : k.ready_in.0 < 256
  pub seize_falls : k.seize_falls < 256

pub record FitsArb (a : HaltArbiter) : Type 0 where
  pub halted_falls : a.halted_falls < 256
  pub pend_age : a.pend_age < 256
  pub wake_tenure : a.wake_tenure.0 < 256
  pub halt_wake_blind : a.halt_wake_blind.0 < 256
  pub wake_pend_blind : a.wake_pend_blind.0 < 256
  pub granted_ahead : a.granted_ahead < 256

pub record FitsObject (o : ObjectDma) : Type 0 where
  pub page : o.page < 256
  pub counted : o.counted < 256
  pub start_edge : o.start_edge < 2 ^ 64

pub record Fits (s : Cgb) : Type 0 where
  pub cursor : FitsCursor s.vram_dma.cursor
  pub block : FitsBlock s.vram_dma.block
  pub arb : FitsArb s.vram_dma.arb
  pub svbk : s.svbk < 256
  pub speed_switch_blackout : s.speed_switch_blackout < 2 ^ 32
  pub speed_switch_wake_latency : latency_value s.speed_switch_wake_latency < 256
  pub ff72 : s.ff72 < 256
  pub ff73 : s.ff73 < 256
  pub ff74 : s.ff74 < 256
  pub ff75 : s.ff75 < 256
  pub extra_oam : Bytes 24 s.extra_oam
  pub selected : s.vram.selected < 256
  pub blackout_anchor : s.console_state.blackout_anchor < 2 ^ 64
  pub object : FitsObject s.object_dma
