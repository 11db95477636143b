use Rattle.filter_text.proofs.CutLaws.{word_boundary, word_is}
use Rattle.filter_text.proofs.tokens.split_word.Goals as goal

pub split_at-requires : goal.split_at-requires
split_at-requires c = word_boundary c.args.text.now c.as_bytes.result.now c.word_len.result c.utf8.text c.as_bytes.ensures.value c.word_len.ensures

pub returns-clause-value : goal.returns-clause-value
returns-clause-value c = word_is c.args.text.now c.as_bytes.result.now c.split_at.result.0.now c.word_len.result c.as_bytes.ensures.value c.word_len.ensures c.split_at.ensures.front
