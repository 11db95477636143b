use Rattle.std.proofs.Common.{◌∙◌, map, ◌<◌, ap, sym, subst}
use Rattle.std.proofs.lemmas.Option.{slice_get-map}
use Rattle.std.proofs.lemmas.Result.{err_from_is_err_and}
use Rattle.std.specs.Arc.{arc_value}
use Rattle.std.specs.Option.{option_map}
use Rattle.filter_rule.specs.PlanValue.{PlanValue}
use Rattle.checkpoint_laws.specs.Saved.{SavedStream}
use Rattle.checkpoint_laws.specs.Said.{SaysStream}
use Rattle.checkpoint_core.specs.Private.Reading.{SayStreams}
use Rattle.checkpoint_core.proofs.Items.{there_at, nothing_by}
use Rattle.checkpoint_core.proofs.ReadLaws.{say_more, not_one}
use Rattle.checkpoint_core.proofs.reading.read_streams.Goals as goal

pub returns-in_err-one-clause-err : goal.returns-in_err-one-clause-err
returns-in_err-one-clause-err c =
    let p = err_from_is_err_and c.from_residual.result c.from_residual.ensures.1 in
    let at = there_at c.args.parts.now c.loop-s.s c.index-parts-s.result c.loop-s-test.true c.index-parts-s.is in
    let plan = there_at c.args.plans.now c.loop-s.s c.index-plans-s.result (subst (λ n. c.loop-s.s < n) c.requires c.loop-s-test.true) c.index-plans-s.is in
    let here = slice_get-map arc_value c.args.plans.now c.loop-s.s ∙ ap (option_map arc_value) plan in
    rw (p.1, p.2) (nothing_by (λ (one : SavedStream). SaysStream c.args.version c.deref.result.now one c.index-parts-s.result) (SayStreams c.args.version (map arc_value c.args.plans.now) c.args.parts.now)
    (λ none. not_one c.args.version (map arc_value c.args.plans.now) c.args.parts.now c.loop-s.s (arc_value c.index-plans-s.result) c.index-parts-s.result here at
    (λ one h. none one (subst (λ (plan : PlanValue). SaysStream c.args.version plan one c.index-parts-s.result) (sym c.deref.ensures) h)))
    c.in_err-one.field-0.0 c.in_err-one.ensures.err)

pub loop-s-preserved : goal.loop-s-preserved
loop-s-preserved c =
    let at = there_at c.args.parts.now c.loop-s.s c.index-parts-s.result c.loop-s-test.true c.index-parts-s.is in
    let plan = there_at c.args.plans.now c.loop-s.s c.index-plans-s.result (subst (λ n. c.loop-s.s < n) c.requires c.loop-s-test.true) c.index-plans-s.is in
    let here = slice_get-map arc_value c.args.plans.now c.loop-s.s ∙ ap (option_map arc_value) plan in
    say_more c.args.version (map arc_value c.args.plans.now) c.args.parts.now c.loop-s.s c.loop-s.saved.items c.push_stream.new.saved.items (arc_value c.index-plans-s.result) c.in_ok-one.one c.index-parts-s.result here at
    (subst (λ (plan : PlanValue). SaysStream c.args.version plan c.in_ok-one.one c.index-parts-s.result) c.deref.ensures c.in_ok-one.ensures.ok) c.in_ok-push_stream.ensures.ok c.loop-s.invariant
