-- What each call gives and leaves, in the paper's order (document 01): the definitions that the promises of the calls speak of, passed
-- on from the crates that have them. Power-on's is `power_on_of` of `console`; the answers' values are `Answers` of `answers`.

-- section 1: register and WRAM reads and writes
pub use Rattle.register_calls.specs.Access.{page_above, read_refusal, write_refusal, AnswersWrite}
unfoldable pub use Rattle.register_calls.specs.Access.{access_refusal, read_of, read_said, write_of, write_wram, write_said}
-- section 2: falls
pub use Rattle.fall_call.specs.Fall.{fallen}
unfoldable pub use Rattle.fall_call.specs.Fall.{fall_refusal, fallen_state, fall_call_of, fall_said}
-- section 3: the next pair, the bus call, arbitration
unfoldable pub use Rattle.transfer_calls.specs.Pair.{next_pair_of, next_pair_said}
pub use Rattle.bus_calls.specs.BusCall.{Lengths, lengths_of, taken_in, moved_by, AnswersBus}
unfoldable pub use Rattle.memory.specs.Lengths.{wrong_lengths}
unfoldable pub use Rattle.bus_calls.specs.BusCall.{bus_refusal, bus_pairs, bus_causes, bus_answer, bus_state, bus_said, bus_bytes, bus_vram, bus_oam, bus_of}
pub use Rattle.bus_calls.specs.Bus.{arbitrated, conflict_found}
unfoldable pub use Rattle.bus_calls.specs.Bus.{arbitration_call_of, arbitration_said}
-- section 4: the switch, the escape drain, LCD off, the write conflict, blackout and wake
unfoldable pub use Rattle.speed_calls.specs.Speed.{defers, switch_refusal, switch_call_of, switch_said, blackout_call_of, blackout_said}
unfoldable pub use Rattle.speed_calls.specs.Speed.{wake_call_of, wake_said}
unfoldable pub use Rattle.transfer_calls.specs.Pair.{escape_drain_of, escape_drain_said}
unfoldable pub use Rattle.transfer_calls.specs.Lcd.{done_said, lcd_call_of, retired_call_of}
-- section 5: the tally, and what else is asked
unfoldable pub use Rattle.answers.specs.Queries.{asked, query_said}
pub use Rattle.engine_queries.specs.Queries.{tallied, engine_status, last_claim, park_waits, request_stands, cpu_held, bus_seized}
pub use Rattle.speed_queries.specs.Queries.{switch_in_progress, divider_runs, at_double_speed, cpu_steps}
pub use Rattle.bank_queries.specs.Queries.{bank_selected, svbk_written}
-- document 02, A1: object DMA's M-cycle call, what the state tells arbitration and the bus call, the query
pub use Rattle.object_dma_calls.specs.Cycle.{counts_byte, moves_byte, cycle_refusal, AnswersCycle}
unfoldable pub use Rattle.object_dma_calls.specs.Cycle.{cycle_answer_of, after_cycle, byte_moved, oam_after_cycle, cycle_answer, cycle_state, cycle_said}
unfoldable pub use Rattle.object_dma_calls.specs.Cycle.{cycle_byte, cycle_oam, cycle_of}
pub use Rattle.bus_calls.specs.Inside.{inside_arbitration, inside_bus}
pub use Rattle.object_dma_calls.specs.Query.{object_dma_told}
