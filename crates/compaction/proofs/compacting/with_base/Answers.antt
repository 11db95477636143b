use Rattle.std.proofs.Common.{◌≡◌, ◌≤◌, ◌^◌, [], ◌∷◌, ◌++◌, length, map, subst, inl, inr}
use Rattle.std.proofs.lemmas.Result.{err_from_is_err_and}
use Rattle.vevent.specs.EventValue.{Begin, Commit}
use Rattle.vevent.specs.WrittenEvent.{written_event}
use Rattle.event_laws.specs.WrittenMessages.{framed, written_response}
use Rattle.compaction.specs.Compacting.{HasLongRow, IsOver}
use Rattle.compaction.specs.Private.Sized.{joined}
use Rattle.compaction.specs.Private.Written.{AddsEnd, AddsFields, AddsRows}
use Rattle.compaction.proofs.WritingLaws.{is_long_feed, is_written_over, over_by}
use Rattle.compaction.proofs.compacting.with_base.Goals as goal

pub returns-clause-over : goal.returns-clause-over
returns-clause-over c =
    let fields = c.args.cut.fields.items in
    let seen = c.deref-2.ensures in
    let value = c.plan.ensures.value in
    let is : c.deref-2.result.now ≡ c.args.feed.now.plan = cc in
    is_written_over c.args.feed.now.plan fields c.args.rows.now c.args.cut.place.now c.args.cut.others c.args.cut.rest.now c.write_fields.new.out.items c.write_end.new.out.items c.write_others.new.out.items c.push_rows.new.portions.items
    c.in_ok-new.new (subst (λ old. AddsFields old c.write_fields.new.out.items fields) c.new-head.ensures.items (rw c.deref.ensures.value at c.in_ok-write_fields.ensures.adds))
    (
    subst (λ plan. AddsRows plan [] (joined c.push_rows.new.portions.items) c.args.rows.now) is
    (subst (λ old. AddsRows c.deref-2.result.now (joined old) (joined c.push_rows.new.portions.items) c.args.rows.now) c.new-portions.ensures.items c.in_ok-push_rows.ensures.adds)
    )
    (subst (λ old. AddsEnd old c.write_end.new.out.items c.args.cut.place.now) c.new-tail.ensures.items c.in_ok-write_end.ensures.adds) c.in_ok-write_others.ensures c.in_ok-new.ensures.pieces c.in_ok-new.ensures.short

pub returns-in_err-push_rows-clause-long : goal.returns-in_err-push_rows-clause-long
returns-in_err-push_rows-clause-long c =
    let cut = c.args.cut in
    let p = err_from_is_err_and c.from_residual-in_err-push_rows.result c.from_residual-in_err-push_rows.ensures.1 in
    rw (p.1, p.2)
    (over_by (HasLongRow c.args.rows.now) (IsOver c.args.feed.now.plan cut.fields.items c.args.rows.now cut.place.now cut.others cut.rest.now) c.in_err-push_rows.field-0.0 (λ long. inl long) c.in_err-push_rows.ensures.long)

pub returns-in_err-new-clause-long : goal.returns-in_err-new-clause-long
returns-in_err-new-clause-long c =
    let cut = c.args.cut in
    let fields = cut.fields.items in
    let rows = c.args.rows.now in
    let seen = c.deref-2.ensures in
    let value = c.plan.ensures.value in
    let is : c.deref-2.result.now ≡ c.args.feed.now.plan = cc in
    let head = c.write_fields.new.out.items in
    let portions = c.push_rows.new.portions.items in
    let end = c.write_end.new.out.items in
    let tail = c.write_others.new.out.items in
    let p = err_from_is_err_and c.from_residual-in_err-new.result c.from_residual-in_err-new.ensures.1 in
    rw (p.1, p.2)
    (over_by (2 ^ 31 ≤ length (head ++ (joined portions ++ (tail ++ cut.rest.now)))) (IsOver c.args.feed.now.plan fields rows cut.place.now cut.others cut.rest.now) c.in_err-new.field-0.0
    (λ long. inr (is_long_feed c.args.feed.now.plan fields rows cut.place.now cut.others cut.rest.now head end tail portions
    (subst (λ old. head ≡ old ++ framed (written_response (map (λ field. field.bytes) fields ++ written_event Begin ∷ []))) c.new-head.ensures.items (rw c.deref.ensures.value at c.in_ok-write_fields.ensures.bytes))
    (
    subst (λ plan. AddsRows plan [] (joined portions) rows) is
    (subst (λ old. AddsRows c.deref-2.result.now (joined old) (joined portions) rows) c.new-portions.ensures.items c.in_ok-push_rows.ensures.adds)
    )
    (subst (λ old. end ≡ old ++ framed (written_response (cut.place.now ∷ written_event Commit ∷ []))) c.new-tail.ensures.items c.in_ok-write_end.ensures.bytes) c.in_ok-write_others.ensures long))
    c.in_err-new.ensures.long)
