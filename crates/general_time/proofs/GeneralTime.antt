-- Document 02, A5 (specs, `GeneralTime`). Assumes nothing.
use Rattle.general_time.specs.GeneralTime.{GeneralTime}
use Rattle.general_time.proofs.SomeTransfer.{some_transfer}
use Rattle.general_time.proofs.Theorem.{takes, exactly, in_words, falls_accepted}

pub general_time : GeneralTime
general_time =
    record {
      exactly = λ h l double v w b k ps g rounds u r. exactly b rounds u r;
      takes = λ h l double v w b k ps g rounds u r. takes b rounds u r;
      words_follow = λ h l double v w b k ps g rounds most. in_words b rounds most;
      falls_accepted = λ h l double v w b k ps g rounds u r i mode o returned. falls_accepted b rounds u r i mode o returned;
      some = λ v destination double small wide. some_transfer v destination double small wide;
    }
