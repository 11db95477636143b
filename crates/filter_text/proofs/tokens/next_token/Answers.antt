use Rattle.std.proofs.Common.{sym, ◌∙◌}
use Rattle.filter_text.proofs.ListLaws.{none_next}
use Rattle.filter_text.proofs.tokens.next_token.Goals as goal

pub returns-then-is_empty-clause-next : goal.returns-then-is_empty-clause-next
returns-then-is_empty-clause-next c = none_next c.args.text.now c.skip_blanks-text.result.now c.skip_blanks-text.ensures.same (sym c.is_empty.ensures ∙ c.if-is_empty.true)
