-- A record read back (specs, `Layout`). Assumes nothing.
use mathlib.Core.Path.{refl}
use Rattle.arithmetic.proofs.Digits.{digits_back}
use Rattle.replay_step.specs.declared.step.Line.{Line}
use Rattle.board_log.specs.LogRecord.{log_record, Layout}

pub layout : (l : Line) → Layout l
unfolding log_record
layout l =
    record {
      size = refl;
      refusal = refl;
      pairs = refl;
      left = λ h. digits_back 2 l.left h;
      ff55 = refl;
      source = λ h. digits_back 2 l.source h;
      destination = λ h. digits_back 2 l.dest h;
      zeros = refl;
    }
