use Rattle.std.proofs.Common.{sym, ap, ◌∙◌}
use Rattle.std.specs.Prelude.{◌||◌}
use Rattle.filter_text.specs.Lexemes.{is_this_mark}
use Rattle.filter_text.specs.Views.{lexeme}
use Rattle.filter_text.proofs.ListLaws.{no_first, no_second, no_name, column_cut, neither_cut}
use Rattle.filter_text.proofs.column.first_column.Goals as goal
use Rattle.filter_text.proofs.column.first_column.Goals.{then-is_last-via-then-is_last, then-is_last-via-else-is_last+then-is_mark}

pub returns-in_err-column-clause-column : goal.returns-in_err-column-clause-column
returns-in_err-column-clause-column c = rw c.from_residual.ensures (no_first c.args.text.now c.in_err-column.ensures.next)

pub returns-in_err-name-clause-column : goal.returns-in_err-name-clause-column
returns-in_err-name-clause-column c =
    rw c.from_residual-in_err-name.ensures (no_name c.args.text.now c.in_ok-column.behind.now (lexeme c.in_ok-column.column) c.in_ok-column.ensures.next (sym c.in_err-name.ensures))

pub returns-in_err-next-clause-column : goal.returns-in_err-next-clause-column
returns-in_err-next-clause-column c =
    rw c.from_residual-in_err-next.ensures (no_second c.args.text.now c.in_ok-column.behind.now (lexeme c.in_ok-column.column) c.in_ok-column.ensures.next c.in_err-next.ensures.next)

pub returns-then-is_last-clause-column : goal.returns-then-is_last-clause-column
returns-then-is_last-clause-column c =
    let comma = is_this_mark 44 (lexeme c.in_ok-next.next) in
    column_cut c.args.text.now c.in_ok-column.behind.now c.in_ok-next.behind.now (lexeme c.in_ok-column.column) (lexeme c.in_ok-next.next) c.in_ok-name.name.now c.is_key-is_last.result
    c.in_ok-column.ensures.next c.in_ok-next.ensures.next (sym c.in_ok-name.ensures) (sym c.is_key-is_last.ensures)
    (elim c.then-is_last.branch [
      | then-is_last-via-then-is_last w ↦ ap (λ b. b || comma) w.if-is_last.true
      | then-is_last-via-else-is_last+then-is_mark w ↦ ap (λ b. b || comma) w.if-is_last.false ∙ sym w.is_mark.ensures ∙ w.if-is_mark.true
    ])

pub returns-clause-column : goal.returns-clause-column
returns-clause-column c =
    neither_cut c.args.text.now c.in_ok-column.behind.now c.in_ok-next.behind.now (lexeme c.in_ok-column.column) (lexeme c.in_ok-next.next) c.in_ok-column.ensures.next c.in_ok-next.ensures.next
    (sym c.is_key-is_last.ensures ∙ c.if-is_last.false) (sym c.is_mark.ensures ∙ c.if-is_mark.false)
