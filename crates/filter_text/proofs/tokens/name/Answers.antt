use Rattle.std.proofs.Common.{sym, ◌∙◌}
use Rattle.filter_text.specs.Tokens.{tokens_of, until}
use Rattle.filter_text.proofs.TokenLaws.{name_behind, no_name_behind}
use Rattle.filter_text.proofs.tokens.name.Goals as goal

pub returns-then-is_empty-clause-cut : goal.returns-then-is_empty-clause-cut
returns-then-is_empty-clause-cut c = no_name_behind (until 96 c.args.text.now) c.in_ok-name.name.now (tokens_of c.in_ok-name.rest.now) c.in_ok-name.ensures.cut (sym c.is_empty.ensures ∙ c.if-is_empty.true)

pub returns-clause-cut : goal.returns-clause-cut
returns-clause-cut c = name_behind (until 96 c.args.text.now) c.in_ok-name.name.now (tokens_of c.in_ok-name.rest.now) c.in_ok-name.ensures.cut (sym c.is_empty.ensures ∙ c.if-is_empty.false)
