-- A turn shows what waited and what came, also where a file could not be read.
use Rattle.judge.proofs.Shows.{turned}
use Rattle.judge.proofs.turn.Goals as goal

pub returns-in_err-more_script : goal.returns-in_err-more_script
returns-in_err-more_script g c =
    turned c.refill-more_script.ensures.waiting_kept c.refill-more_log.ensures.waiting_kept c.waiting.ensures.value c.waiting-2.ensures.value
    c.feed-fed.ensures c.take.ensures c.take-2.ensures

pub returns-in_err-more_log : goal.returns-in_err-more_log
returns-in_err-more_log g c =
    turned c.refill-more_script.ensures.waiting_kept c.refill-more_log.ensures.waiting_kept c.waiting.ensures.value c.waiting-2.ensures.value
    c.feed-fed.ensures c.take.ensures c.take-2.ensures

pub returns : goal.returns
returns g c =
    turned c.refill-more_script.ensures.waiting_kept c.refill-more_log.ensures.waiting_kept c.waiting.ensures.value c.waiting-2.ensures.value
    c.feed-fed.ensures c.take.ensures c.take-2.ensures
