-- What is asked of the engine (document 01, sections 4 and 5: "tallies and other queries"; the Rust's queries of `Cgb`). "7 first
-- wherever a state is given"; a query changes nothing.
use Rattle.std.specs.Prelude.{Bool}
use Rattle.console.specs.declared.Cgb.{Cgb}
use Rattle.console.specs.declared.VramDmaClaim.{VramDmaClaim}
use Rattle.transfer.specs.Questions.{request_standing, holds_cpu, seizes_bus, status_of}
use Rattle.transfer.specs.declared.VramDmaStatus.{VramDmaStatus}
use Rattle.answers.specs.declared.Tally.{Tally}

-- section 5: "A tally call, added here, gives the engine's source, destination, left and escape flag"
abbrev pub tallied : Cgb → Tally
tallied s =
    let c = s.vram_dma.cursor in
    record { source = c.source; dest = c.dest; remaining = c.remaining; escape_byte = c.escape_byte }

abbrev pub engine_status : Cgb → VramDmaStatus
engine_status s = status_of s.vram_dma

-- section 3: "`VramDmaClaim` is two flags, committed and standing"
abbrev pub last_claim : Cgb → VramDmaClaim
last_claim s = s.console_state.vram_dma_claim

-- what the other queries ask (the Rust's queries of `Cgb`; lib.rs)
abbrev pub park_waits : Cgb → Bool
park_waits s = s.vram_dma.arb.park_waits_for_fetch

abbrev pub request_stands : Cgb → Bool
request_stands s = request_standing s.vram_dma

abbrev pub cpu_held : Cgb → Bool
cpu_held s = holds_cpu s.vram_dma

abbrev pub bus_seized : Cgb → Bool
bus_seized s = seizes_bus s.vram_dma
