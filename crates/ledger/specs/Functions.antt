-- Every public function of the library that takes the state, by its own contract. Written by tools/calls from calls.txt.
use Rattle.ledger.specs.Function.{Function}
use Rattle.engine.proofs.write.Kinds as write_kinds
use Rattle.engine.proofs.write.Reads as write_reads
use Rattle.engine.proofs.vram_dma_fall_edge.Kinds as vram_dma_fall_edge_kinds
use Rattle.engine.proofs.vram_dma_fall_edge.Reads as vram_dma_fall_edge_reads
use Rattle.engine.proofs.next_byte.Kinds as next_byte_kinds
use Rattle.engine.proofs.next_byte.Reads as next_byte_reads
use Rattle.engine.proofs.attempt_speed_switch.Kinds as attempt_speed_switch_kinds
use Rattle.engine.proofs.attempt_speed_switch.Reads as attempt_speed_switch_reads
use Rattle.engine.proofs.vram_dma_lcd_disabled.Kinds as vram_dma_lcd_disabled_kinds
use Rattle.engine.proofs.vram_dma_lcd_disabled.Reads as vram_dma_lcd_disabled_reads
use Rattle.engine.proofs.vram_dma_drain_escape.Kinds as vram_dma_drain_escape_kinds
use Rattle.engine.proofs.vram_dma_drain_escape.Reads as vram_dma_drain_escape_reads
use Rattle.engine.proofs.drain_speed_switch_blackout.Kinds as drain_speed_switch_blackout_kinds
use Rattle.engine.proofs.drain_speed_switch_blackout.Reads as drain_speed_switch_blackout_reads
use Rattle.engine.proofs.read.Kinds as read_kinds
use Rattle.engine.proofs.read.Reads as read_reads
use Rattle.engine.proofs.vram_dma_commit_bytes.Kinds as vram_dma_commit_bytes_kinds
use Rattle.engine.proofs.vram_dma_commit_bytes.Reads as vram_dma_commit_bytes_reads
use Rattle.engine.proofs.vram_dma_arbitrate_oam.Kinds as vram_dma_arbitrate_oam_kinds
use Rattle.engine.proofs.vram_dma_arbitrate_oam.Reads as vram_dma_arbitrate_oam_reads
use Rattle.engine.proofs.vram_dma_conflict_source.Kinds as vram_dma_conflict_source_kinds
use Rattle.engine.proofs.vram_dma_conflict_source.Reads as vram_dma_conflict_source_reads
use Rattle.engine.proofs.speed_switch_wake_ready.Kinds as speed_switch_wake_ready_kinds
use Rattle.engine.proofs.speed_switch_wake_ready.Reads as speed_switch_wake_ready_reads
use Rattle.engine.proofs.vram_dma_instruction_retired.Kinds as vram_dma_instruction_retired_kinds
use Rattle.engine.proofs.vram_dma_instruction_retired.Reads as vram_dma_instruction_retired_reads
use Rattle.engine.proofs.tally.Kinds as tally_kinds
use Rattle.engine.proofs.tally.Reads as tally_reads
use Rattle.engine.proofs.vram_dma_status.Kinds as vram_dma_status_kinds
use Rattle.engine.proofs.vram_dma_status.Reads as vram_dma_status_reads
use Rattle.engine.proofs.vram_dma_claim.Kinds as vram_dma_claim_kinds
use Rattle.engine.proofs.vram_dma_claim.Reads as vram_dma_claim_reads
use Rattle.engine.proofs.vram_dma_park_waits_for_fetch.Kinds as vram_dma_park_waits_for_fetch_kinds
use Rattle.engine.proofs.vram_dma_park_waits_for_fetch.Reads as vram_dma_park_waits_for_fetch_reads
use Rattle.engine.proofs.vram_dma_request_standing.Kinds as vram_dma_request_standing_kinds
use Rattle.engine.proofs.vram_dma_request_standing.Reads as vram_dma_request_standing_reads
use Rattle.engine.proofs.vram_dma_holds_cpu.Kinds as vram_dma_holds_cpu_kinds
use Rattle.engine.proofs.vram_dma_holds_cpu.Reads as vram_dma_holds_cpu_reads
use Rattle.engine.proofs.vram_dma_seizes_bus.Kinds as vram_dma_seizes_bus_kinds
use Rattle.engine.proofs.vram_dma_seizes_bus.Reads as vram_dma_seizes_bus_reads
use Rattle.engine.proofs.speed_switch_in_progress.Kinds as speed_switch_in_progress_kinds
use Rattle.engine.proofs.speed_switch_in_progress.Reads as speed_switch_in_progress_reads
use Rattle.engine.proofs.speed_switch_divider_active.Kinds as speed_switch_divider_active_kinds
use Rattle.engine.proofs.speed_switch_divider_active.Reads as speed_switch_divider_active_reads
use Rattle.engine.proofs.double_speed.Kinds as double_speed_kinds
use Rattle.engine.proofs.double_speed.Reads as double_speed_reads
use Rattle.engine.proofs.cpu_steps_per_dot.Kinds as cpu_steps_per_dot_kinds
use Rattle.engine.proofs.cpu_steps_per_dot.Reads as cpu_steps_per_dot_reads
use Rattle.engine.proofs.wram_bank.Kinds as wram_bank_kinds
use Rattle.engine.proofs.wram_bank.Reads as wram_bank_reads
use Rattle.engine.proofs.svbk_register.Kinds as svbk_register_kinds
use Rattle.engine.proofs.svbk_register.Reads as svbk_register_reads
use Rattle.engine.proofs.object_dma_m_cycle.Kinds as object_dma_m_cycle_kinds
use Rattle.engine.proofs.object_dma_m_cycle.Reads as object_dma_m_cycle_reads
use Rattle.engine.proofs.vram_dma_arbitrate_inside.Kinds as vram_dma_arbitrate_inside_kinds
use Rattle.engine.proofs.vram_dma_arbitrate_inside.Reads as vram_dma_arbitrate_inside_reads
use Rattle.engine.proofs.vram_dma_commit_bytes_inside.Kinds as vram_dma_commit_bytes_inside_kinds
use Rattle.engine.proofs.vram_dma_commit_bytes_inside.Reads as vram_dma_commit_bytes_inside_reads
use Rattle.engine.proofs.object_dma.Kinds as object_dma_kinds
use Rattle.engine.proofs.object_dma.Reads as object_dma_reads

abbrev pub write : Function
write =
    record {
      lifetimes = 1;
      parameters = write_kinds.ps;
      result = write_kinds.r;
      tells = write_reads.Learnt;
    }

abbrev pub vram_dma_fall_edge : Function
vram_dma_fall_edge =
    record {
      lifetimes = 0;
      parameters = vram_dma_fall_edge_kinds.ps;
      result = vram_dma_fall_edge_kinds.r;
      tells = vram_dma_fall_edge_reads.Learnt;
    }

abbrev pub next_byte : Function
next_byte =
    record {
      lifetimes = 0;
      parameters = next_byte_kinds.ps;
      result = next_byte_kinds.r;
      tells = next_byte_reads.Learnt;
    }

abbrev pub attempt_speed_switch : Function
attempt_speed_switch =
    record {
      lifetimes = 0;
      parameters = attempt_speed_switch_kinds.ps;
      result = attempt_speed_switch_kinds.r;
      tells = attempt_speed_switch_reads.Learnt;
    }

abbrev pub vram_dma_lcd_disabled : Function
vram_dma_lcd_disabled =
    record {
      lifetimes = 0;
      parameters = vram_dma_lcd_disabled_kinds.ps;
      result = vram_dma_lcd_disabled_kinds.r;
      tells = vram_dma_lcd_disabled_reads.Learnt;
    }

abbrev pub vram_dma_drain_escape : Function
vram_dma_drain_escape =
    record {
      lifetimes = 0;
      parameters = vram_dma_drain_escape_kinds.ps;
      result = vram_dma_drain_escape_kinds.r;
      tells = vram_dma_drain_escape_reads.Learnt;
    }

abbrev pub drain_speed_switch_blackout : Function
drain_speed_switch_blackout =
    record {
      lifetimes = 0;
      parameters = drain_speed_switch_blackout_kinds.ps;
      result = drain_speed_switch_blackout_kinds.r;
      tells = drain_speed_switch_blackout_reads.Learnt;
    }

abbrev pub read : Function
read =
    record {
      lifetimes = 1;
      parameters = read_kinds.ps;
      result = read_kinds.r;
      tells = read_reads.Learnt;
    }

abbrev pub vram_dma_commit_bytes : Function
vram_dma_commit_bytes =
    record {
      lifetimes = 4;
      parameters = vram_dma_commit_bytes_kinds.ps;
      result = vram_dma_commit_bytes_kinds.r;
      tells = vram_dma_commit_bytes_reads.Learnt;
    }

abbrev pub vram_dma_arbitrate_oam : Function
vram_dma_arbitrate_oam =
    record {
      lifetimes = 0;
      parameters = vram_dma_arbitrate_oam_kinds.ps;
      result = vram_dma_arbitrate_oam_kinds.r;
      tells = vram_dma_arbitrate_oam_reads.Learnt;
    }

abbrev pub vram_dma_conflict_source : Function
vram_dma_conflict_source =
    record {
      lifetimes = 0;
      parameters = vram_dma_conflict_source_kinds.ps;
      result = vram_dma_conflict_source_kinds.r;
      tells = vram_dma_conflict_source_reads.Learnt;
    }

abbrev pub speed_switch_wake_ready : Function
speed_switch_wake_ready =
    record {
      lifetimes = 0;
      parameters = speed_switch_wake_ready_kinds.ps;
      result = speed_switch_wake_ready_kinds.r;
      tells = speed_switch_wake_ready_reads.Learnt;
    }

abbrev pub vram_dma_instruction_retired : Function
vram_dma_instruction_retired =
    record {
      lifetimes = 0;
      parameters = vram_dma_instruction_retired_kinds.ps;
      result = vram_dma_instruction_retired_kinds.r;
      tells = vram_dma_instruction_retired_reads.Learnt;
    }

abbrev pub tally : Function
tally =
    record {
      lifetimes = 0;
      parameters = tally_kinds.ps;
      result = tally_kinds.r;
      tells = tally_reads.Learnt;
    }

abbrev pub vram_dma_status : Function
vram_dma_status =
    record {
      lifetimes = 0;
      parameters = vram_dma_status_kinds.ps;
      result = vram_dma_status_kinds.r;
      tells = vram_dma_status_reads.Learnt;
    }

abbrev pub vram_dma_claim : Function
vram_dma_claim =
    record {
      lifetimes = 0;
      parameters = vram_dma_claim_kinds.ps;
      result = vram_dma_claim_kinds.r;
      tells = vram_dma_claim_reads.Learnt;
    }

abbrev pub vram_dma_park_waits_for_fetch : Function
vram_dma_park_waits_for_fetch =
    record {
      lifetimes = 0;
      parameters = vram_dma_park_waits_for_fetch_kinds.ps;
      result = vram_dma_park_waits_for_fetch_kinds.r;
      tells = vram_dma_park_waits_for_fetch_reads.Learnt;
    }

abbrev pub vram_dma_request_standing : Function
vram_dma_request_standing =
    record {
      lifetimes = 0;
      parameters = vram_dma_request_standing_kinds.ps;
      result = vram_dma_request_standing_kinds.r;
      tells = vram_dma_request_standing_reads.Learnt;
    }

abbrev pub vram_dma_holds_cpu : Function
vram_dma_holds_cpu =
    record {
      lifetimes = 0;
      parameters = vram_dma_holds_cpu_kinds.ps;
      result = vram_dma_holds_cpu_kinds.r;
      tells = vram_dma_holds_cpu_reads.Learnt;
    }

abbrev pub vram_dma_seizes_bus : Function
vram_dma_seizes_bus =
    record {
      lifetimes = 0;
      parameters = vram_dma_seizes_bus_kinds.ps;
      result = vram_dma_seizes_bus_kinds.r;
      tells = vram_dma_seizes_bus_reads.Learnt;
    }

abbrev pub speed_switch_in_progress : Function
speed_switch_in_progress =
    record {
      lifetimes = 0;
      parameters = speed_switch_in_progress_kinds.ps;
      result = speed_switch_in_progress_kinds.r;
      tells = speed_switch_in_progress_reads.Learnt;
    }

abbrev pub speed_switch_divider_active : Function
speed_switch_divider_active =
    record {
      lifetimes = 0;
      parameters = speed_switch_divider_active_kinds.ps;
      result = speed_switch_divider_active_kinds.r;
      tells = speed_switch_divider_active_reads.Learnt;
    }

abbrev pub double_speed : Function
double_speed =
    record {
      lifetimes = 0;
      parameters = double_speed_kinds.ps;
      result = double_speed_kinds.r;
      tells = double_speed_reads.Learnt;
    }

abbrev pub cpu_steps_per_dot : Function
cpu_steps_per_dot =
    record {
      lifetimes = 0;
      parameters = cpu_steps_per_dot_kinds.ps;
      result = cpu_steps_per_dot_kinds.r;
      tells = cpu_steps_per_dot_reads.Learnt;
    }

abbrev pub wram_bank : Function
wram_bank =
    record {
      lifetimes = 0;
      parameters = wram_bank_kinds.ps;
      result = wram_bank_kinds.r;
      tells = wram_bank_reads.Learnt;
    }

abbrev pub svbk_register : Function
svbk_register =
    record {
      lifetimes = 0;
      parameters = svbk_register_kinds.ps;
      result = svbk_register_kinds.r;
      tells = svbk_register_reads.Learnt;
    }

abbrev pub object_dma_m_cycle : Function
object_dma_m_cycle =
    record {
      lifetimes = 4;
      parameters = object_dma_m_cycle_kinds.ps;
      result = object_dma_m_cycle_kinds.r;
      tells = object_dma_m_cycle_reads.Learnt;
    }

abbrev pub vram_dma_arbitrate_inside : Function
vram_dma_arbitrate_inside =
    record {
      lifetimes = 0;
      parameters = vram_dma_arbitrate_inside_kinds.ps;
      result = vram_dma_arbitrate_inside_kinds.r;
      tells = vram_dma_arbitrate_inside_reads.Learnt;
    }

abbrev pub vram_dma_commit_bytes_inside : Function
vram_dma_commit_bytes_inside =
    record {
      lifetimes = 4;
      parameters = vram_dma_commit_bytes_inside_kinds.ps;
      result = vram_dma_commit_bytes_inside_kinds.r;
      tells = vram_dma_commit_bytes_inside_reads.Learnt;
    }

abbrev pub object_dma : Function
object_dma =
    record {
      lifetimes = 0;
      parameters = object_dma_kinds.ps;
      result = object_dma_kinds.r;
      tells = object_dma_reads.Learnt;
    }
