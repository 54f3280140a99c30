-- The queries of the engine answer what their conditions and fields say (specs, `EngineQuerySteps`). Assumes nothing.
use mathlib.Core.Path.{◌≡◌, ◌∙◌}
use mathlib.Core.Bool.{false}
use mathlib.Core.Logic.Iff
use Rattle.console.specs.Reached.{unreached}
use Rattle.console.specs.declared.Cgb.{Cgb}
use Rattle.transfer.specs.Questions.{status_of}
use Rattle.transfer.proofs.QuestionSteps.{question_steps}
use Rattle.answers.proofs.Queries.{given, asks}
use Rattle.engine_queries.specs.Queries.{tallied}
use Rattle.engine_queries.specs.QuerySteps.{EngineQuerySteps, EngineQueries}

query_steps : (s : Cgb) → unreached s ≡ false → EngineQuerySteps s
unfolding status_of
query_steps s reached =
    let steps = question_steps s.vram_dma in
    record {
      park = asks s reached _ Iff.rfl;
      request = asks s reached _ steps.request;
      holds = asks s reached _ steps.holds;
      seizes = asks s reached _ steps.seizes;
      tally = given s reached (tallied s);
      status_idle = λ e. given s reached (status_of s.vram_dma) ∙ rw e;
      status_general = λ e. given s reached (status_of s.vram_dma) ∙ rw e;
      status_hblank = λ e. given s reached (status_of s.vram_dma) ∙ rw e;
      claim = given s reached s.console_state.vram_dma_claim;
    }

pub engine_queries : EngineQueries
engine_queries = record { steps = query_steps }
