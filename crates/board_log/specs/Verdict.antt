-- The judge's line (document 02, A2): "yes exactly when every record is the engine's, else the number, from 0, of the first record that
-- is not"; "22, printed as "refused 22"".
use Rattle.std.specs.Prelude.{ℕ, cond, not, ◌||◌, List, [], ◌∷◌, ◌++◌, eqb}
use Rattle.text.specs.Text.{decimal, space, line_feed}
use Rattle.board_log.specs.declared.judging.Judge.{Judge}
use Rattle.board_log.specs.declared.verdict.Verdict.{Verdict}
use Rattle.board_log.specs.declared.verdict.Verdict.TheVariants.{Yes, Wrong, Refused}

-- the answer where no whole record is left in both, and so many bytes of script and log wait (of a longer file at least one)
unfoldable pub verdict_of : Judge → ℕ → ℕ → Verdict
verdict_of j script_left log_left =
    cond (not (eqb script_left 0) || not (eqb log_left 0)) Refused (cond j.differs (Wrong j.agreed) Yes)

-- y e s, and r e f u s e d
abbrev pub yes_text : List ℕ
yes_text = 121 ∷ 101 ∷ 115 ∷ []

abbrev pub refused_text : List ℕ
refused_text = 114 ∷ 101 ∷ 102 ∷ 117 ∷ 115 ∷ 101 ∷ 100 ∷ []

unfoldable pub verdict_text : Verdict → List ℕ
verdict_text Yes = yes_text ++ line_feed ∷ []
verdict_text (Wrong k) = decimal k ++ line_feed ∷ []
verdict_text Refused = refused_text ++ space ∷ decimal 22 ++ line_feed ∷ []
