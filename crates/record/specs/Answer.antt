-- An answer's record of 24 bytes, numbers lowest byte first: 0 refusal, 1 zero, 2–9 the four values, 10–13 the first pair's source
-- and destination, 14–17 the second's, 18 and 19 their bytes, 20 and 21 their causes, 22 and 23 zero; an M-cycle call's
-- byte is byte 18.
use Rattle.std.specs.Prelude.{ℕ, List, [], ◌∷◌, ◌++◌, get_or, replicate}
use Rattle.arithmetic.specs.Number.{digits}
use Rattle.bus.specs.Deposit.{no_pair}
use Rattle.transfer.specs.declared.pair.BytePair.{BytePair}
use Rattle.told.specs.declared.Performed.{Performed}

abbrev pub pair_bytes : BytePair → List ℕ
pair_bytes p = digits 2 p.source ++ digits 2 p.dest

abbrev pub answer_bytes : Performed → List ℕ
answer_bytes p =
    (p.told.refusal ∷ 0 ∷ [])
    ++ digits 2 (get_or p.told.values 0 0)
    ++ digits 2 (get_or p.told.values 1 0)
    ++ digits 2 (get_or p.told.values 2 0)
    ++ digits 2 (get_or p.told.values 3 0)
    ++ pair_bytes (get_or p.pairs 0 no_pair)
    ++ pair_bytes (get_or p.pairs 1 no_pair)
    ++ (get_or p.bytes 0 0 ∷ get_or p.bytes 1 0 ∷ get_or p.causes 0 0 ∷ get_or p.causes 1 0 ∷ 0 ∷ 0 ∷ [])

-- a refused call's: the number and zeros
abbrev pub refused_bytes : ℕ → List ℕ
refused_bytes n = n ∷ replicate 23 0
