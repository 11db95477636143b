use Rattle.std.proofs.Common.{refl, subst}
use Rattle.std.proofs.lemmas.Result.{err_from_is_err_and}
use Rattle.std.specs.Arc.{arc_value}
use Rattle.source_feed.specs.Touches.{PreparedValue}
use Rattle.board_laws.specs.Event.{offer}
use Rattle.apply_core.specs.Private.StreamStep.{RefusesByItself}
use Rattle.apply_core.proofs.StepLaws.{read-takes, offer-answered}
use Rattle.apply_core.proofs.stream.Stream.offer_own.Goals as goal

pub returns-in_err-offered : goal.returns-in_err-offered
returns-in_err-offered c =
    let p = err_from_is_err_and c.from_residual.result c.from_residual.ensures.1 in
    rw (p.1, p.2) (subst (λ (g : PreparedValue). RefusesByItself c.args.self.now (offer g) c.in_err-offered.field-0.0) c.deref.ensures c.in_err-offered.ensures.err, refl)

pub returns-in_err-read-in-Read : goal.returns-in_err-read-in-Read
returns-in_err-read-in-Read c =
    let p = err_from_is_err_and c.from_residual-in_err-read-in-Read.result c.from_residual-in_err-read-in-Read.ensures.1 in
    let ok = offer-answered c.args.self.now c.deref.result.now (arc_value c.args.group) c.deref.ensures _ _ c.in-Read.is (c.in_ok-offered.ensures.ok.allowed, c.in_ok-offered.ensures.ok.answered) in
    rw (p.1, p.2) (λ board s. (ok.0, read-takes c.args.self.now (arc_value c.args.group) c.in-Read.number ok.0 ok.1), c.in_err-read-in-Read.ensures.err)
