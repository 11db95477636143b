use Rattle.std.proofs.Common.{rules, tests}
use Rattle.std.proofs.lemmas.Iterator.{YieldsList-from_slice}
use Rattle.std.proofs.lemmas.Iterator.Search.{position_from_yields_List}
use Rattle.std.specs.Prelude.{◌==◌}
use Rattle.live_requests.proofs.WordLaws.{split-at, split-last}
use Rattle.live_requests.proofs.word.first_part.Goals as goal

pub returns-in-Some-clause-more : goal.returns-in-Some-clause-more
returns-in-Some-clause-more c =
    split-at (λ b. b == c.args.end) c.args.text.now c.in-Some.place c.position.result c.in-Some.is
    (position_from_yields_List (λ b. b == c.args.end) _ _ c.position.result c.position.ensures.ran (YieldsList-from_slice c.args.text.now cc) (λ x b q k. search (rules, tests)))

pub returns-in-None-clause-last : goal.returns-in-None-clause-last
returns-in-None-clause-last c =
    split-last (λ b. b == c.args.end) c.args.text.now c.position.result c.in-None.is
    (position_from_yields_List (λ b. b == c.args.end) _ _ c.position.result c.position.ensures.ran (YieldsList-from_slice c.args.text.now cc) (λ x b q k. search (rules, tests)))
