use Rattle.std.proofs.Common.{◌≡◌, List, length, sym, subst, arith}
use Rattle.live_core.specs.declared.source.Source.{Source}
use Rattle.live_core.specs.Live.{AreOfSources}
use Rattle.live_core.specs.Private.Kept.{IsKept}
use Rattle.live_core.proofs.LiveLaws.{kept-grown, refilled-sources}
use Rattle.live_core.proofs.live.Live.grow.Goals as goal

pub grow_in-taken-requires-clause-known : goal.grow_in-taken-requires-clause-known
grow_in-taken-requires-clause-known c = subst (λ (sources : List Source). AreOfSources c.self.inside.fed.feeds sources) (sym c.deref_mut.ensures.value) c.self.invariant.known

pub invariant_of-self : goal.invariant_of-self
invariant_of-self c =
    let g = c.grow_in-taken in
    let same : length g.new.sources ≡ c.self.inside.sources.len = omega (arith, g.auto.sources, c.deref_mut.ensures.len) in
    subst (λ (sources : List Source). IsKept g.new.fed.feeds g.new.fed.board sources c.self.inside.told) (sym (refilled-sources c.self.inside.sources.len c.self.inside.sources.items g.new.sources same))
    (kept-grown c.self.inside.fed.feeds g.new.fed.feeds c.self.inside.fed.board g.new.fed.board c.self.inside.sources.items g.new.sources c.self.inside.told g.ensures.board c.self.invariant g.ensures.count g.ensures.known)
