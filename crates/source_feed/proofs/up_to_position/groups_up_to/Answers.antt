use Rattle.std.proofs.Common.{◌∙◌, ◌∷◌, [], ◌<◌, length, map, ap, arith}
use Rattle.std.proofs.lemmas.List.{map-append}
use Rattle.std.proofs.lemmas.Result.{err_from_is_err_and}
use Rattle.std.specs.Arc.{arc_value}
use Rattle.source_feed.specs.FaultNumber.{meant_of}
use Rattle.source_feed.proofs.SoundGroupLaws.{first_more, first_stops, if_meant}
use Rattle.source_feed.proofs.up_to_position.groups_up_to.Goals as goal

pub returns-in_err-prepare-clause-refused : goal.returns-in_err-prepare-clause-refused
returns-in_err-prepare-clause-refused c =
    let p = err_from_is_err_and c.from_residual.result c.from_residual.ensures.1 in
    let inside : c.loop-i.i < length c.args.feed.now.groups = omega (arith, c.loop-i-test.true, c.requires) in
    rw (p.1, p.2) (if_meant (meant_of c.in_err-prepare.field-0.0) (λ fault e. first_stops c.args.feed.now c.loop-i.i c.args.number _ fault inside c.loop-i-test.true e c.loop-i.invariant) c.in_err-prepare.ensures.exact)

pub loop-i-preserved : goal.loop-i-preserved
loop-i-preserved c =
    let inside : c.loop-i.i < length c.args.feed.now.groups = omega (arith, c.loop-i-test.true, c.requires) in
    first_more c.args.feed.now c.loop-i.i _ _ (arc_value c.in_ok-prepare.field-0) inside c.in_ok-prepare.ensures.exact
    (ap (map arc_value) c.in_ok-push.ensures.items ∙ map-append arc_value c.loop-i.groups.items (c.in_ok-prepare.field-0 ∷ [])) c.loop-i.invariant
