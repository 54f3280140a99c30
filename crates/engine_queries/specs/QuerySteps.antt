-- What is shown of the queries of the engine (document 01, sections 4 and 5; the Rust's queries of `Cgb`), of each state that passes
-- 7: a yes-or-no query answers yes exactly when its conditions hold, which stand as facts about fields and numbers (`QuestionSteps`
-- has those that are named here), and every other query gives its fields.
use Rattle.std.specs.Prelude.{◌+◌, ◌%◌, ◌≡◌, true, false, Ok}
use Rattle.console.specs.Reached.{unreached}
use Rattle.console.specs.declared.Cgb.{Cgb}
use Rattle.console.specs.declared.vram_dma.TransferMode.TheVariants as mode
use Rattle.transfer.specs.QuestionSteps.{RequestStanding, HoldsCpu, SeizesBus}
use Rattle.transfer.specs.declared.VramDmaStatus.TheVariants.{Idle, General, HBlank}
use Rattle.answers.specs.Queries.{asked, Asks}
use Rattle.engine_queries.specs.Queries.{tallied, engine_status, last_claim, park_waits, request_stands, cpu_held, bus_seized}

pub record EngineQuerySteps (s : Cgb) : Type 0 where
  -- `vram_dma_park_waits_for_fetch`, `vram_dma_request_standing`, `vram_dma_holds_cpu`, `vram_dma_seizes_bus`
  pub park : Asks s (park_waits s) (s.vram_dma.arb.park_waits_for_fetch ≡ true)
  pub request : Asks s (request_stands s) (RequestStanding s.vram_dma)
  pub holds : Asks s (cpu_held s) (HoldsCpu s.vram_dma)
  pub seizes : Asks s (bus_seized s) (SeizesBus s.vram_dma)
  -- "A tally call, added here, gives the engine's source, destination, left and escape flag"
  pub tally :
      asked s (tallied s) ≡
      Ok (record {
        source = s.vram_dma.cursor.source;
        dest = s.vram_dma.cursor.dest;
        remaining = s.vram_dma.cursor.remaining;
        escape_byte = s.vram_dma.cursor.escape_byte;
      })
  -- `vram_dma_status`, in each mode; "`dest` folds to the VRAM write address"
  pub status_idle : s.vram_dma.cursor.mode ≡ mode.Idle → asked s (engine_status s) ≡ Ok Idle
  pub status_general :
      s.vram_dma.cursor.mode ≡ mode.General → asked s (engine_status s) ≡ Ok (General s.vram_dma.cursor.remaining)
  pub status_hblank :
      s.vram_dma.cursor.mode ≡ mode.HBlank →
      asked s (engine_status s) ≡
      Ok (HBlank s.vram_dma.cursor.remaining s.vram_dma.cursor.source (0x8000 + s.vram_dma.cursor.dest % 0x2000))
  -- "`VramDmaClaim` is two flags, committed and standing"
  pub claim : asked s (last_claim s) ≡ Ok s.console_state.vram_dma_claim

pub record EngineQueries : Type 0 where
  pub steps : (s : Cgb) → unreached s ≡ false → EngineQuerySteps s
