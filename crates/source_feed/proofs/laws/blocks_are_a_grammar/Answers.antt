use Rattle.source_feed.proofs.GrammarLaws.{block_grammar}
use Rattle.source_feed.proofs.laws.blocks_are_a_grammar.Goals as goal

pub returns : goal.returns
returns c = λ source. block_grammar source
