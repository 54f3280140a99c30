-- The questions are answered yes exactly when the conditions of their Rust methods hold (specs, `QuestionSteps`). Assumes
-- nothing.
use Prim.Native.Nat.{ℕ, ◌<◌}
use mathlib.Core.Path.{◌≡◌, refl, sym, ap}
use mathlib.Core.Bool.{Bool, true, false, cond, not, ◌&&◌, ◌||◌, false≢true}
use mathlib.Core.Logic.Iff
use mathlib.Core.Logic.{◌↔◌, inl, inr, ⊎_elim}
use lib.Dec.{ltb, leb, eqb}
use Rattle.std.specs.Prelude.{Some, None}
use Rattle.countdown.specs.Countdown.{active_of}
use Rattle.console.specs.Modes.{is_general}
use Rattle.console.specs.declared.vram_dma.TransferMode.{TransferMode}
use Rattle.console.specs.declared.vram_dma.TransferMode.TheVariants.{Idle, General, HBlank}
use Rattle.console.specs.declared.vram_dma.VramDma.{VramDma}
use Rattle.transfer.specs.Questions.{write_address, block_left, request_standing, holds_cpu, seizes_bus}
use Rattle.transfer.specs.Pair.{moving_of}
use Rattle.transfer.specs.Conflict.{will_move, conflicts, conflict_of}
use Rattle.transfer.specs.QuestionSteps.{Moving, WillMove, BlockLeft, RequestStanding, HoldsCpu, SeizesBus, Conflicts, QuestionSteps}
use Rattle.transfer.proofs.Conditions.{when_lt, when_le, when_eq, when_zero, when_both, when_either, when_false}

pub when_general : (m : TransferMode) → (is_general m ≡ true) ↔ (m ≡ General)
when_general Idle = (λ e. absurd (false≢true e), λ e. ap is_general e)
when_general General = (λ e. refl, λ e. refl)
when_general HBlank = (λ e. absurd (false≢true e), λ e. ap is_general e)

module _ (d : VramDma) where
  abbrev left : Bool
  left = ltb 0 d.cursor.remaining

  abbrev block : Bool
  block = ltb 0 d.block.remaining

  abbrev ready : Bool
  ready = not (active_of d.block.ready_in)

  abbrev cells : Bool
  cells = active_of d.block.setup_cells

  abbrev quota : Bool
  quota = ltb 0 d.cursor.quota

  abbrev general : Bool
  general = is_general d.cursor.mode

  when_left : (left ≡ true) ↔ (0 < d.cursor.remaining)
  when_left = when_lt 0 d.cursor.remaining

  when_block : (block ≡ true) ↔ (0 < d.block.remaining)
  when_block = when_lt 0 d.block.remaining

  when_ready : (ready ≡ true) ↔ (d.block.ready_in.0 ≡ 0)
  when_ready = when_zero d.block.ready_in.0

  moving : (moving_of d ≡ true) ↔ Moving d
  unfolding moving_of
  moving =
      Iff.trans
      (when_either (block && left && ready) (general && left)
      (when_both (block && left) ready (when_both block left when_block when_left) when_ready)
      (when_both general left (when_general d.cursor.mode) when_left)) (
        λ h. ⊎_elim (λ b. record { left = b.0.1; going = inr (b.0.0, b.1) }) (λ g. record { left = g.1; going = inl g.0 }) h,
        λ m. ⊎_elim (λ g. inr (g, m.left)) (λ b. inl ((b.0, m.left), b.1)) m.going,
      )

  will_move_lem : (will_move d ≡ true) ↔ WillMove d
  unfolding will_move
  will_move_lem =
      Iff.trans
      (when_both (not cells && quota) (moving_of d)
      (when_both (not cells) quota (when_zero d.block.setup_cells.0) (when_lt 0 d.cursor.quota))
      moving)
      (λ h. record { no_cell = h.0.0; quota = h.0.1; moving = h.1 }, λ m. ((m.no_cell, m.quota), m.moving))

  block_left_lem : (block_left d ≡ true) ↔ BlockLeft d
  block_left_lem =
      Iff.trans (when_both block left when_block when_left)
      (λ h. record { block = h.0; left = h.1 }, λ k. (k.block, k.left))

  request : (request_standing d ≡ true) ↔ RequestStanding d
  request = when_either d.arb.pend (block_left d) Iff.rfl block_left_lem

  holds : (holds_cpu d ≡ true) ↔ HoldsCpu d
  unfolding holds_cpu
  holds =
      Iff.trans (when_both general left (when_general d.cursor.mode) when_left)
      (λ h. record { general = h.0; left = h.1 }, λ k. (k.general, k.left))

  seizes : (seizes_bus d ≡ true) ↔ SeizesBus d
  unfolding seizes_bus
  seizes =
      Iff.trans
      (when_both ready (cells || block_left d) when_ready
      (when_either cells (block_left d) (when_lt 0 d.block.setup_cells.0) block_left_lem))
      (λ h. record { ready = h.0; work = h.1 }, λ k. (k.ready, k.work))

  module _ (double : Bool) (a : ℕ) where
    abbrev settled : Bool
    settled = leb 2 d.block.seize_falls

    abbrev here : Bool
    here = eqb a (write_address d.cursor)

    conflicting : (conflicts double a d ≡ true) ↔ Conflicts double a d
    unfolding conflicts
    conflicting =
        Iff.trans
        (when_both (double && settled && block && left) here
        (when_both (double && settled && block) left
        (when_both (double && settled) block (when_both double settled Iff.rfl (when_le 2 d.block.seize_falls)) when_block)
        when_left)
        (when_eq a (write_address d.cursor))) (
          λ h. record { speed = h.0.0.0.0; settled = h.0.0.0.1; block = h.0.0.1; left = h.0.1; address = h.1 },
          λ k. ((((k.speed, k.settled), k.block), k.left), k.address),
        )

-- the answer tells the test
found : (b : Bool) (x : ℕ) → (cond b (Some x) None ≡ Some x) ↔ (b ≡ true)
found true x = (λ e. refl, λ e. refl)
found false x = (λ e. cc, λ e. absurd (false≢true e))

none : (b : Bool) (x : ℕ) → (cond b (Some x) None ≡ None) ↔ (b ≡ false)
none true x = (λ e. cc, λ e. absurd (false≢true (sym e)))
none false x = (λ e. refl, λ e. refl)

conflict : (d : VramDma) (double : Bool) (a : ℕ) → (conflict_of double a d ≡ Some d.cursor.source) ↔ Conflicts double a d
unfolding conflict_of
conflict d double a = Iff.trans (found (conflicts double a d) d.cursor.source) (conflicting d double a)

no_conflict : (d : VramDma) (double : Bool) (a : ℕ) → (conflict_of double a d ≡ None) ↔ (Conflicts double a d → ⊥)
unfolding conflict_of
no_conflict d double a =
    Iff.trans (none (conflicts double a d) d.cursor.source) (when_false (conflicts double a d) (conflicting d double a))

pub question_steps : (d : VramDma) → QuestionSteps d
question_steps d =
    record {
      moving = moving d;
      will_move_lem = will_move_lem d;
      request = request d;
      holds = holds d;
      seizes = seizes d;
      conflict = conflict d;
      no_conflict = no_conflict d;
    }
