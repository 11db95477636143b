use Rattle.std.proofs.Common.{map, sym, ◌∙◌}
use Rattle.filter_text.specs.Views.{lexeme}
use Rattle.filter_text.proofs.CutLaws.{read_all}
use Rattle.filter_text.proofs.tokens.tokens_of.Goals as goal

pub is_empty-requires-text-self : goal.is_empty-requires-text-self
is_empty-requires-text-self c = λ r. c.loop-rest.invariant.read.utf8

pub returns-clause-some : goal.returns-clause-some
returns-clause-some c = read_all c.args.text.now c.loop-rest.rest.now (map lexeme c.loop-rest.tokens.items) (sym c.is_empty.ensures ∙ c.loop-rest-test.false) c.loop-rest.invariant.read.so_far
