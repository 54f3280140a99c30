use Rattle.std.proofs.Common.{Some, rules, sym, ap, ◌∙◌}
use Rattle.c_api.proofs.Entries.{entered_unreadable, entered_performed}
use Rattle.c_api.proofs.cgb_perform.Goals as goal

pub returns-in_default : goal.returns-in_default
returns-in_default c = entered_unreadable _ _ _ _ _ _ _ _ (sym c.decode.ensures ∙ c.in_default.is) c.from-number.ensures (search rules)

pub returns : goal.returns
returns c =
    entered_performed _ _ _ _ _ _ _ (sym c.decode.ensures ∙ c.in-Some.is ∙ ap Some (sym c.anew.ensures)) _ _ _ _ _ _ _ c.decode-2.ensures
    c.perform_record-done.ensures (search rules) (search rules)
