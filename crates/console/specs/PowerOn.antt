-- The state at power-on (document 01, section 1: "Power-on takes the compat flag; other fields are `Default`'s").
-- The Rust's `Default` of `Cgb` has svbk 1; every other number is 0 and every other flag false. Document 02, A1: "the start edge, 0 at
-- power-on, where object DMA rests".
use Rattle.std.specs.Prelude.{Bool, false, None, replicate}
use Rattle.countdown.specs.Countdown.{cleared}
use Rattle.console.specs.declared.Cgb.{Cgb}
use Rattle.console.specs.declared.CgbConsoleState.{CgbConsoleState}
use Rattle.console.specs.declared.object.ObjectDma.{ObjectDma}
use Rattle.console.specs.declared.vram_dma.HaltArbiter.{HaltArbiter}
use Rattle.console.specs.declared.vram_dma.HblankBlock.{HblankBlock}
use Rattle.console.specs.declared.vram_dma.OamContention.{OamContention}
use Rattle.console.specs.declared.vram_dma.TransferCursor.{TransferCursor}
use Rattle.console.specs.declared.vram_dma.TransferMode.TheVariants.{Idle}
use Rattle.console.specs.declared.vram_dma.VramDma.{VramDma}

abbrev pub cursor_at_rest : TransferCursor
cursor_at_rest = record { source = 0; dest = 0; mode = Idle; remaining = 0; quota = 0; escape_byte = false }

abbrev pub block_at_rest : HblankBlock
block_at_rest =
    record {
      remaining = 0;
      start_edge = 0;
      taken = false;
      setup_cells = cleared;
      ready_in = cleared;
      seize_falls = 0;
      from_arm = false;
      arm_ready_probation = false;
    }

abbrev pub arb_at_rest : HaltArbiter
arb_at_rest =
    record {
      pend = false;
      pend_from_arm = false;
      armed_this_fall = false;
      halted_falls = 0;
      prev_view_hblank = false;
      pend_age = 0;
      pend_granted = false;
      wake_tenure = cleared;
      park_waits_for_fetch = false;
      idle_claim = false;
      halt_wake_blind = cleared;
      prev_cpu_halted = false;
      grant_counted = false;
      wake_pend_blind = cleared;
      granted_ahead = 0;
    }

abbrev pub oam_at_rest : OamContention
oam_at_rest = record { was_transferring = false; contended = false }

unfoldable pub dma_at_rest : VramDma
dma_at_rest = record { cursor = cursor_at_rest; block = block_at_rest; arb = arb_at_rest; oam = oam_at_rest }

abbrev pub console_at_rest : CgbConsoleState
console_at_rest = record { blackout_anchor = 0; vram_dma_claim = record { committed = false; standing = false } }

abbrev pub object_dma_at_rest : ObjectDma
object_dma_at_rest = record { running = false; page = 0; counted = 0; start_edge = 0 }

unfoldable pub power_on_of : Bool → Cgb
power_on_of compat =
    record {
      svbk = 1;
      key1_armed = false;
      double_speed = false;
      dmg_compat = compat;
      vram_dma = dma_at_rest;
      speed_switch_blackout = 0;
      speed_switch_wake_latency = None;
      switch_relock_debit = false;
      ff72 = 0;
      ff73 = 0;
      ff74 = 0;
      ff75 = 0;
      extra_oam = replicate 24 0;
      vram = record { selected = 0 };
      console_state = console_at_rest;
      object_dma = object_dma_at_rest;
    }
