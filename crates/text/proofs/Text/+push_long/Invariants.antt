use Rattle.text.proofs.Text.+push_long.Given as goal

abbrev pub decreases-push_long : goal.decreases-push_long
decreases-push_long l = l.n
