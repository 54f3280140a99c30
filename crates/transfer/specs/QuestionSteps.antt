-- What is shown of the questions that are asked of the engine (vram_dma.rs, `impl VramDma`): each is answered yes exactly when
-- the conditions of its Rust method hold, which stand here as facts about fields and numbers. A question and its conditions
-- have one name, the conditions with a capital letter; `⊎` is "or".
use Rattle.std.specs.Prelude.{ℕ, ◌+◌, ◌%◌, ◌<◌, ◌≤◌, ◌≡◌, Bool, true, ◌↔◌, ◌⊎◌, Some, None}
use Rattle.console.specs.declared.vram_dma.TransferMode.TheVariants.{General}
use Rattle.console.specs.declared.vram_dma.VramDma.{VramDma}
use Rattle.transfer.specs.Questions.{request_standing, holds_cpu, seizes_bus}
use Rattle.transfer.specs.Pair.{moving_of}
use Rattle.transfer.specs.Conflict.{will_move, conflict_of}

-- `moving`: a General transfer, or a latched block that is ready; with bytes left in either case
pub record Moving (d : VramDma) : Type 0 where
  pub left : 0 < d.cursor.remaining
  pub going : (d.cursor.mode ≡ General) ⊎ ((0 < d.block.remaining) × (d.block.ready_in.0 ≡ 0))

-- `will_move`: "block active, quota available, no setup cell pending"
pub record WillMove (d : VramDma) : Type 0 where
  pub no_cell : d.block.setup_cells.0 ≡ 0
  pub quota : 0 < d.cursor.quota
  pub moving : Moving d

-- bytes of a latched block are still to move
pub record BlockLeft (d : VramDma) : Type 0 where
  pub block : 0 < d.block.remaining
  pub left : 0 < d.cursor.remaining

-- `request_standing`
abbrev pub RequestStanding : VramDma → Type 0
RequestStanding d = (d.arb.pend ≡ true) ⊎ BlockLeft d

-- `holds_cpu`
pub record HoldsCpu (d : VramDma) : Type 0 where
  pub general : d.cursor.mode ≡ General
  pub left : 0 < d.cursor.remaining

-- `seizes_bus`
pub record SeizesBus (d : VramDma) : Type 0 where
  pub ready : d.block.ready_in.0 ≡ 0
  pub work : (0 < d.block.setup_cells.0) ⊎ BlockLeft d

-- `vram_dma_write_conflict_source`: the five conditions of a write conflict at an address
pub record Conflicts (double : Bool) (a : ℕ) (d : VramDma) : Type 0 where
  -- "Double speed only"
  pub speed : double ≡ true
  -- "once the bus seizure has settled one full prior fall (.. the count includes this fall, so `>= 2`)"
  pub settled : 2 ≤ d.block.seize_falls
  pub block : 0 < d.block.remaining
  pub left : 0 < d.cursor.remaining
  -- where the next byte lands: 8000h and the destination's low 13 bits
  pub address : a ≡ 0x8000 + d.cursor.dest % 0x2000

pub record QuestionSteps (d : VramDma) : Type 0 where
  pub moving : (moving_of d ≡ true) ↔ Moving d
  pub will_move_lem : (will_move d ≡ true) ↔ WillMove d
  pub request : (request_standing d ≡ true) ↔ RequestStanding d
  pub holds : (holds_cpu d ≡ true) ↔ HoldsCpu d
  pub seizes : (seizes_bus d ≡ true) ↔ SeizesBus d
  -- the source of the byte that is being written where the five hold, none where one of them does not
  pub conflict : (double : Bool) (a : ℕ) → (conflict_of double a d ≡ Some d.cursor.source) ↔ Conflicts double a d
  pub no_conflict : (double : Bool) (a : ℕ) → (conflict_of double a d ≡ None) ↔ (Conflicts double a d → ⊥)
