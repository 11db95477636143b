use Rattle.filter_text.specs.Tokens.{tokens_of, until}
use Rattle.filter_text.proofs.TokenLaws.{quoted_behind}
use Rattle.filter_text.proofs.tokens.quoted.Goals as goal

pub returns-clause-cut : goal.returns-clause-cut
returns-clause-cut c = quoted_behind (until 39 c.args.text.now) c.in_ok-text.text.now (tokens_of c.in_ok-text.rest.now) c.in_ok-text.ensures.cut
