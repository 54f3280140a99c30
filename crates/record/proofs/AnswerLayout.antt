-- An answer's record read back (specs, `AnswerLayout`). Assumes nothing.
use mathlib.Core.Path.{refl}
use lib.ListN.{get_or}
use Rattle.arithmetic.proofs.Digits.{digits_back}
use Rattle.bus.specs.Deposit.{no_pair}
use Rattle.told.specs.declared.Performed.{Performed}
use Rattle.record.specs.AnswerLayout.{AnswerLayout}

pub answer_layout : (p : Performed) → AnswerLayout p
answer_layout p =
    record {
      size = refl;
      refusal = refl;
      first_value = digits_back 2 (get_or p.told.values 0 0);
      second_value = digits_back 2 (get_or p.told.values 1 0);
      third_value = digits_back 2 (get_or p.told.values 2 0);
      fourth_value = digits_back 2 (get_or p.told.values 3 0);
      first_source = digits_back 2 (get_or p.pairs 0 no_pair).source;
      first_dest = digits_back 2 (get_or p.pairs 0 no_pair).dest;
      second_source = digits_back 2 (get_or p.pairs 1 no_pair).source;
      second_dest = digits_back 2 (get_or p.pairs 1 no_pair).dest;
      first_byte = refl;
      second_byte = refl;
      first_cause = refl;
      second_cause = refl;
      zero_1 = refl;
      zero_22 = refl;
      zero_23 = refl;
    }
