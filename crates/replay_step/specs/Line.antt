-- A record's line as text (document 01, section 6): "Each line: record from 0, refusal or 0, pairs, left, FF55 in two capitals"; document
-- 02, A3: "the replay line shows it as a sixth field, 0, 1 or 2".
use Rattle.std.specs.Prelude.{ℕ, List, [], ◌∷◌, ◌++◌}
use Rattle.text.specs.Text.{space, decimal, field, hex_byte, line_feed}
use Rattle.replay_step.specs.declared.step.Line.{Line}

unfoldable pub line_text : ℕ → Line → List ℕ
line_text number l =
    field number ++ field l.refusal ++ field l.pairs ++ field l.left ++
    hex_byte l.ff55 ++ (space ∷ []) ++ decimal l.cause ++ line_feed ∷ []
