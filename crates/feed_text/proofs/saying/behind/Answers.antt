use Rattle.std.specs.Prelude.{Some}
use Rattle.std.proofs.lemmas.Bool.Decides.{Decides-eqb}
use Rattle.std.proofs.lemmas.Slice.Eq.{strip_prefix_is}
use Rattle.feed_text.proofs.saying.behind.Goals as goal

pub returns-in-Some : goal.returns-in-Some
returns-in-Some c = strip_prefix_is Decides-eqb c.args.text.now c.args.piece.now (Some c.in-Some.rest) c.in-Some.ensures.cases
