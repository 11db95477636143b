use Rattle.std.proofs.Common.{sym, ◌∙◌}
use Rattle.filter_text.specs.Views.{lexeme}
use Rattle.filter_text.proofs.SelectionLaws.{no_selection, selection_cut, selection_not}
use Rattle.filter_text.proofs.form.selection.Goals as goal
use Rattle.filter_text.proofs.form.selection.Goals.{in_default-via-in-Some+else-is_key, in_default-via-in_default}

pub returns-in-Some : goal.returns-in-Some
returns-in-Some c = selection_cut c.args.text.now c.in-Some.behind.now (lexeme c.in-Some.first) c.behind_select.result c.in-Some.ensures.next (sym c.is_key.ensures ∙ c.if-is_key.true) c.behind_select.ensures

pub returns-in_default : goal.returns-in_default
returns-in_default c =
    elim c.in_default.branch [
      | in_default-via-in-Some+else-is_key w ↦ selection_not c.args.text.now w.in-Some.behind.now (lexeme w.in-Some.first) w.in-Some.ensures.next (sym w.is_key.ensures ∙ w.if-is_key.false)
      | in_default-via-in_default w ↦ no_selection c.args.text.now w.in_default.ensures.next
    ]
