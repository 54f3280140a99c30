-- The characters so far are stored.
use Rattle.std.proofs.Common.{take}
use Rattle.text.specs.Text.{Pushed}
use Rattle.text.proofs.Text.push_text.Given as goal

abbrev pub invariant-loop-character : goal.invariant-loop-character
invariant-loop-character l = Pushed l.initial.self (take l.character-index l.text) l.self
