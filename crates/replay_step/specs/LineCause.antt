-- What is shown of a line's sixth field (document 02, A3: "the replay line shows it as a sixth field, 0, 1 or 2, zero without a pair").
use Rattle.std.specs.Prelude.{ℕ, ◌≡◌, List}
use Rattle.console.specs.declared.Cgb.{Cgb}
use Rattle.answers.specs.CauseNumbers.{CauseTold}
use Rattle.replay_step.specs.Record.{record_at_start}
use Rattle.replay_step.specs.Step.{step_of}
use Rattle.replay_step.specs.declared.step.Line.{Line}

-- of the line of a record at the state s
pub record LineCause (s : Cgb) (l : Line) : Type 0 where
  pub none : l.pairs ≡ 0 → l.cause ≡ 0
  -- by the destination register in front of the record, and what the line says is left
  pub some : (l.pairs ≡ 0 → ⊥) → CauseTold s.vram_dma.cursor.dest l.left l.cause

-- of every record's bytes, short ones too, at every state
pub record LineCauses : Type 0 where
  pub every : (s : Cgb) (wram bytes : List ℕ) → LineCause s (step_of s wram (record_at_start bytes)).line
