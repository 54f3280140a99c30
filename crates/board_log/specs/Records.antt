-- The records of a script or of a log: 16 bytes each, one behind the other (document 01, section 6, and document 02, A2).
use Rattle.std.specs.Prelude.{ℕ, ◌*◌, ◌/◌, min, List, length, take, drop}

-- record k of a file, counted from 0: the 16 bytes from 16 × k on
abbrev pub nth_record : List ℕ → ℕ → List ℕ
nth_record file k = take 16 (drop (k * 16) file)

-- how many records are whole in both
unfoldable pub whole_in_both : List ℕ → List ℕ → ℕ
whole_in_both a b = min (length a / 16) (length b / 16)
