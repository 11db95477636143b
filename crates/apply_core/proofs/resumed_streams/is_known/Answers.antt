use Rattle.std.proofs.Common.{ℕ, refl, subst}
use Rattle.std.proofs.lemmas.Bool.{false≢true}
use Rattle.source_feed.specs.GroupValue.{Position}
use Rattle.source_feed.specs.Positions.{IsNumberAt}
use Rattle.apply_core.proofs.resumed_streams.is_known.Goals as goal

pub returns-in-None : goal.returns-in-None
returns-in-None c = (
  λ is. absurd (false≢true is),
  λ known. absurd (subst (λ (p : Position). (number : ℕ) → ¬ IsNumberAt c.args.feed.now p number) c.position.ensures c.in-None.ensures known.0 known.1),
)

pub returns-in-Some : goal.returns-in-Some
returns-in-Some c = (λ _. (c.in-Some._number, subst (λ (p : Position). IsNumberAt c.args.feed.now p c.in-Some._number) c.position.ensures c.in-Some.ensures), λ _. refl)
