use Rattle.filter_text.proofs.CutLaws.{word_cut}
use Rattle.filter_text.proofs.tokens.word.Goals as goal

pub returns-clause-cut : goal.returns-clause-cut
returns-clause-cut c = word_cut c.args.text.now c.split_word.result.0.now c.split_word.result.1.now c.requires c.split_word.ensures.word c.split_word.ensures.rest
