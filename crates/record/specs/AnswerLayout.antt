-- An answer's record read back by its offsets: `answer_bytes` is one list, and a list with two places swapped would meet a contract that
-- cites it.
use Rattle.std.specs.Prelude.{◌<◌, ◌≡◌, length, get_or}
use Rattle.arithmetic.specs.Number.{byte_at, number_at}
use Rattle.bus.specs.Deposit.{no_pair}
use Rattle.told.specs.declared.Performed.{Performed}
use Rattle.record.specs.Answer.{answer_bytes}

pub record AnswerLayout (p : Performed) : Type 0 where
  pub size : length (answer_bytes p) ≡ 24
  pub refusal : byte_at (answer_bytes p) 0 ≡ p.told.refusal
  -- the four values; of a next pair and an escape drain the last is the cause
  pub first_value : get_or p.told.values 0 0 < 65536 → number_at (answer_bytes p) 2 2 ≡ get_or p.told.values 0 0
  pub second_value : get_or p.told.values 1 0 < 65536 → number_at (answer_bytes p) 4 2 ≡ get_or p.told.values 1 0
  pub third_value : get_or p.told.values 2 0 < 65536 → number_at (answer_bytes p) 6 2 ≡ get_or p.told.values 2 0
  pub fourth_value : get_or p.told.values 3 0 < 65536 → number_at (answer_bytes p) 8 2 ≡ get_or p.told.values 3 0
  -- a bus call's pairs
  pub first_source : (get_or p.pairs 0 no_pair).source < 65536 → number_at (answer_bytes p) 10 2 ≡ (get_or p.pairs 0 no_pair).source
  pub first_dest : (get_or p.pairs 0 no_pair).dest < 65536 → number_at (answer_bytes p) 12 2 ≡ (get_or p.pairs 0 no_pair).dest
  pub second_source : (get_or p.pairs 1 no_pair).source < 65536 → number_at (answer_bytes p) 14 2 ≡ (get_or p.pairs 1 no_pair).source
  pub second_dest : (get_or p.pairs 1 no_pair).dest < 65536 → number_at (answer_bytes p) 16 2 ≡ (get_or p.pairs 1 no_pair).dest
  -- their bytes, and their causes (document 02, A3)
  pub first_byte : byte_at (answer_bytes p) 18 ≡ get_or p.bytes 0 0
  pub second_byte : byte_at (answer_bytes p) 19 ≡ get_or p.bytes 1 0
  pub first_cause : byte_at (answer_bytes p) 20 ≡ get_or p.causes 0 0
  pub second_cause : byte_at (answer_bytes p) 21 ≡ get_or p.causes 1 0
  -- the rest
  pub zero_1 : byte_at (answer_bytes p) 1 ≡ 0
  pub zero_22 : byte_at (answer_bytes p) 22 ≡ 0
  pub zero_23 : byte_at (answer_bytes p) 23 ≡ 0
