-- A record of the board's log (document 02, A2): "one record of 16 bytes for each replay record: refusal, pairs, left (two bytes),
-- FF55, source and destination of the pair (two bytes each, zero if none), then zeros, all little-endian".
use Rattle.std.specs.Prelude.{ℕ, ◌<◌, ◌≡◌, List, [], ◌∷◌, ◌++◌, length, drop, replicate}
use Rattle.arithmetic.specs.Number.{byte_at, number_at, digits}
use Rattle.replay_step.specs.declared.step.Line.{Line}

-- of the same numbers as the replay's line
unfoldable pub log_record : Line → List ℕ
log_record l =
    (l.refusal ∷ l.pairs ∷ []) ++
    digits 2 l.left ++ (l.ff55 ∷ []) ++ digits 2 l.source ++ digits 2 l.dest ++ replicate 7 0

-- the record read back, by its offsets: all of it, and nothing else
pub record Layout (l : Line) : Type 0 where
  pub size : length (log_record l) ≡ 16
  pub refusal : byte_at (log_record l) 0 ≡ l.refusal
  pub pairs : byte_at (log_record l) 1 ≡ l.pairs
  pub left : l.left < 65536 → number_at (log_record l) 2 2 ≡ l.left
  pub ff55 : byte_at (log_record l) 4 ≡ l.ff55
  pub source : l.source < 65536 → number_at (log_record l) 5 2 ≡ l.source
  pub destination : l.dest < 65536 → number_at (log_record l) 7 2 ≡ l.dest
  pub zeros : drop 9 (log_record l) ≡ 0 ∷ 0 ∷ 0 ∷ 0 ∷ 0 ∷ 0 ∷ 0 ∷ []
