use Rattle.filter_text.proofs.CutLaws.{first_boundary, first_drop}
use Rattle.filter_text.proofs.tokens.behind_first.Goals as goal

pub split_at-requires : goal.split_at-requires
split_at-requires c = first_boundary c.args.text.now c.utf8.text c.requires.some c.requires.ascii

pub returns : goal.returns
returns c = first_drop c.args.text.now c.split_at.result.1.now c.requires.some c.split_at.ensures.back
