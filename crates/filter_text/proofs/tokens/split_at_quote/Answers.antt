use Rattle.filter_text.proofs.TokenLaws.{until_split}
use Rattle.filter_text.proofs.tokens.split_at_quote.Goals as goal

pub returns-clause-cut : goal.returns-clause-cut
returns-clause-cut c = until_split c.args.quote c.args.text.now c.split_once.result c.requires c.split_once.ensures.cases
