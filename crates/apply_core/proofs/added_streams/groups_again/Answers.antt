use Rattle.std.proofs.Common.{◌≡◌, ◌+◌, ◌<◌, ◌≤◌, ◌∷◌, [], ◌∙◌, List, inl, Some, length, map, slice_get, refl, sym, ap, subst, arith}
use Rattle.std.proofs.lemmas.Bool.{true≢false}
use Rattle.std.proofs.lemmas.List.{length-map, map-append}
use Rattle.std.proofs.lemmas.Result.{err_from_is_err_and}
use Rattle.std.specs.Arc.{arc_value}
use Rattle.source_feed.specs.Touches.{PreparedValue}
use Rattle.apply_core.specs.Private.Adding.{IsNotAgain, IsGroupAgain, IsStoppedBy}
use Rattle.apply_core.proofs.AddLaws.{fewer_by, again_none, again_more, wanted_next, stopped}
use Rattle.apply_core.proofs.StreamLaws.{item_at}
use Rattle.apply_core.proofs.added_streams.groups_again.Goals as goal

pub returns-then-not-has_enough-clause-err : goal.returns-then-not-has_enough-clause-err
returns-then-not-has_enough-clause-err c =
    (refl, inl (fewer_by c.args.stream.now.applied (length c.args.feed.now.groups) (λ most. true≢false (sym (c.has_enough.ensures.1 (omega (arith, most, c.applied_of-applied.ensures))) ∙ c.if-not-has_enough.true))))

pub loop-i-init : goal.loop-i-init
loop-i-init c = again_none c.args.feed.now c.args.stream.now _ (ap (map arc_value) c.new-groups.ensures.items)

pub returns-in_err-group-clause-err : goal.returns-in_err-group-clause-err
returns-in_err-group-clause-err c =
    let p = err_from_is_err_and c.from_residual.result c.from_residual.ensures.1 in
    let enough : c.args.stream.now.applied ≤ length c.args.feed.now.groups = (let most = c.has_enough.ensures.0 c.if-not-has_enough.false in omega (arith, most, c.applied_of-applied.ensures)) in
    let less : c.loop-i.i < c.args.stream.now.applied = omega (arith, c.loop-i-test.true, c.applied_of-applied.ensures) in
    let long : length c.list-list.result.now ≡ length c.args.stream.now.list = sym (length-map c.list-list.result.now arc_value) ∙ ap length c.list-list.ensures in
    let here : slice_get c.args.stream.now.list c.loop-i.i ≡ Some (arc_value c.index-list-i.result)
    = ap (λ (xs : List PreparedValue). slice_get xs c.loop-i.i) (sym c.list-list.ensures) ∙ item_at arc_value c.list-list.result.now c.loop-i.i c.index-list-i.result (arc_value c.index-list-i.result) (omega (arith, less, long, c.is_sound.ensures.standing.applied)) c.index-list-i.is refl in
    rw (p.1, p.2) (stopped c.args.feed.now c.args.stream.now c.loop-i.i (map arc_value c.loop-i.groups.items) c.loop-i.invariant (omega (arith, less, enough)) (arc_value c.index-list-i.result) c.args.s c.in_err-group.field-0.0 less enough here
    (subst (λ n. IsNotAgain n c.args.feed.now (arc_value c.index-list-i.result) (c.loop-i.i + 1) c.args.s c.in_err-group.field-0.0) c.tables_of-tables.ensures
    (subst (λ (old : PreparedValue). IsNotAgain c.tables_of-tables.result c.args.feed.now old (c.loop-i.i + 1) c.args.s c.in_err-group.field-0.0) c.deref.ensures c.in_err-group.ensures.err)))

pub loop-i-preserved : goal.loop-i-preserved
loop-i-preserved c =
    let enough : c.args.stream.now.applied ≤ length c.args.feed.now.groups = (let most = c.has_enough.ensures.0 c.if-not-has_enough.false in omega (arith, most, c.applied_of-applied.ensures)) in
    let less : c.loop-i.i < c.args.stream.now.applied = omega (arith, c.loop-i-test.true, c.applied_of-applied.ensures) in
    let long : length c.list-list.result.now ≡ length c.args.stream.now.list = sym (length-map c.list-list.result.now arc_value) ∙ ap length c.list-list.ensures in
    let here : slice_get c.args.stream.now.list c.loop-i.i ≡ Some (arc_value c.index-list-i.result)
    = ap (λ (xs : List PreparedValue). slice_get xs c.loop-i.i) (sym c.list-list.ensures)
    ∙ item_at arc_value c.list-list.result.now c.loop-i.i c.index-list-i.result (arc_value c.index-list-i.result) (omega (arith, less, long, c.is_sound.ensures.standing.applied)) c.index-list-i.is refl in
    let again : IsGroupAgain (length c.args.stream.now.plan.tables) c.args.feed.now (arc_value c.index-list-i.result) (c.loop-i.i + 1) (arc_value c.in_ok-group.group)
    = subst (λ n. IsGroupAgain n c.args.feed.now (arc_value c.index-list-i.result) (c.loop-i.i + 1) (arc_value c.in_ok-group.group)) c.tables_of-tables.ensures
    (subst (λ (old : PreparedValue). IsGroupAgain c.tables_of-tables.result c.args.feed.now old (c.loop-i.i + 1) (arc_value c.in_ok-group.group)) c.deref.ensures c.in_ok-group.ensures.ok) in
    again_more c.args.feed.now c.args.stream.now c.loop-i.i (map arc_value c.loop-i.groups.items) c.loop-i.invariant (omega (arith, less, enough)) (arc_value c.in_ok-group.group) again.prepared_is (arc_value c.index-list-i.result)
    (map arc_value c.push_group.new.groups.items) here again.same (ap (map arc_value) c.in_ok-push_group.ensures.ok ∙ map-append arc_value c.loop-i.groups.items (c.in_ok-group.group ∷ []))

pub returns-in_err-push_group-clause-err : goal.returns-in_err-push_group-clause-err
returns-in_err-push_group-clause-err c =
    let p = err_from_is_err_and c.from_residual-in_err-push_group.result c.from_residual-in_err-push_group.ensures.1 in
    let enough : c.args.stream.now.applied ≤ length c.args.feed.now.groups = (let most = c.has_enough.ensures.0 c.if-not-has_enough.false in omega (arith, most, c.applied_of-applied.ensures)) in
    let less : c.loop-i.i < c.args.stream.now.applied = omega (arith, c.loop-i-test.true, c.applied_of-applied.ensures) in
    rw (p.1, p.2) (subst (IsStoppedBy c.args.s c.args.feed.now c.args.stream.now) (sym c.in_err-push_group.ensures.err)
    (wanted_next c.args.feed.now c.args.stream.now c.loop-i.i (map arc_value c.loop-i.groups.items) c.loop-i.invariant (omega (arith, less, enough)) enough (arc_value c.in_ok-group.group) c.in_ok-group.ensures.ok.prepared_is))
