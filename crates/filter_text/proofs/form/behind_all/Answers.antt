use Rattle.std.proofs.Common.{sym, ◌∙◌}
use Rattle.filter_text.specs.Views.{lexeme}
use Rattle.filter_text.proofs.SelectionLaws.{no_all, no_from, not_all, star_other, from_other}
use Rattle.filter_text.proofs.form.behind_all.Goals as goal
use Rattle.filter_text.proofs.form.behind_all.Goals.{else-is_mark-via-then-is_mark+else-is_key, else-is_mark-via-else-is_mark}

pub returns-in_err-star-clause-none : goal.returns-in_err-star-clause-none
returns-in_err-star-clause-none c = rw c.from_residual.ensures (no_all c.args.text.now c.in_err-star.ensures.next)

pub returns-in_err-from-clause-none : goal.returns-in_err-from-clause-none
returns-in_err-from-clause-none c =
    rw c.from_residual-in_err-from.ensures (no_from c.args.text.now c.in_ok-star.behind.now (lexeme c.in_ok-star.star) c.in_ok-star.ensures.next c.in_err-from.ensures.next)

pub returns-else-is_mark-clause-none : goal.returns-else-is_mark-clause-none
returns-else-is_mark-clause-none c =
    not_all c.args.text.now c.in_ok-star.behind.now c.in_ok-from.behind.now (lexeme c.in_ok-star.star) (lexeme c.in_ok-from.from) c.in_ok-star.ensures.next c.in_ok-from.ensures.next
    (elim c.else-is_mark.branch [
      | else-is_mark-via-then-is_mark+else-is_key w ↦ from_other (lexeme c.in_ok-star.star) (lexeme c.in_ok-from.from) (sym w.is_key.ensures ∙ w.if-is_key.false)
      | else-is_mark-via-else-is_mark w ↦ star_other (lexeme c.in_ok-star.star) (lexeme c.in_ok-from.from) (sym c.is_mark.ensures ∙ w.if-is_mark.false)
    ])
