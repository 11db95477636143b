use Rattle.std.proofs.Common.{◌≡◌, List, length, Some, slice_get, refl, sym, ap, subst, ◌∙◌}
use Rattle.std.proofs.lemmas.Bool.{ltb-true}
use Rattle.std.proofs.lemmas.Option.{slice_get_read}
use Rattle.live_core.specs.declared.source.Source.{Source}
use Rattle.live_core.specs.Live.{LiveValue}
use Rattle.live_core.proofs.GrowingLaws.{taken-many}
use Rattle.live_core.proofs.live.Live.taken.Goals as goal

pub returns-in-Some-clause-taken : goal.returns-in-Some-clause-taken
returns-in-Some-clause-taken c =
    let lent : List Source = c.deref.result.now in
    let source : Source = c.in-Some.source.now in
    let found : slice_get lent c.args.s ≡ Some source = slice_get_read lent (length lent) c.args.s source refl (ltb-true c.args.s (length lent) (sym c.in-Some.ensures.lookup.0)) c.in-Some.ensures.lookup.1 in
    c.taken.ensures ∙ taken-many c.self.inside.fed.feeds c.self.inside.sources.items c.self.invariant.count c.self.invariant.known c.args.s source c.args.self.now.bytes
    (ap (λ (live : LiveValue). live.bytes) c.self.view_is)
    (subst (λ (sources : List Source). slice_get sources c.args.s ≡ Some source) c.deref.ensures.value found)
