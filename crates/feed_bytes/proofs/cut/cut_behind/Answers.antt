use Rattle.std.proofs.Common.{◌<◌, ap, sym, subst, ◌∙◌, arith}
use Rattle.source_feed.specs.EventList.{events_of_feed}
use Rattle.feed_bytes.specs.Private.Course.{CourseValue, Walk, walked}
use Rattle.feed_bytes.specs.Private.Search.{IsSought}
use Rattle.feed_bytes.proofs.SearchLaws.{sought_first, sought_next, cut_found}
use Rattle.feed_bytes.proofs.cut.cut_behind.Goals as goal

pub loop-message-init : goal.loop-message-init
loop-message-init c =
    let feed = c.args.feed.now in
    let source = c.args.source.now in
    let number = c.args.number in
    let some : 0 < number = omega (arith, c.if-number-eq0.false) in
    let left = ap (λ (course : CourseValue). course.left) c.new-course.ensures in (
      λ all e.
          subst (λ (course : CourseValue). IsSought source number (events_of_feed feed).items course feed) (sym c.new-course.ensures) (sought_first c.set_laws.ensures feed source number all e some),
      omega (arith, left, some),
    )

pub returns-then-left-eq0 : goal.returns-then-left-eq0
returns-then-left-eq0 c = λ all e.
    let source = c.args.source.now in
    let course = c.loop-message.course in
    let walk : Walk = record { course = c.see_message.new.self; rest = c.see_message.new.events } in
    let is = c.in_ok-see_message.ensures ∙ ap (walked source course) c.new-others.ensures in
    rw (c.into_parts-fields.ensures.fields, c.into_parts-fields.ensures.last)
    (
    cut_found c.set_laws.ensures c.args.feed.now source c.args.number all e course c.loop-message.rest.now c.in-Some.message.now c.in-Some.behind.now (c.loop-message.invariant.0 all e) c.in-Some.ensures.some walk is
    (omega (arith, c.left.ensures, c.if-left-eq0.true))
    )

pub loop-message-preserved : goal.loop-message-preserved
loop-message-preserved c =
    let source = c.args.source.now in
    let course = c.loop-message.course in
    let walk : Walk = record { course = c.see_message.new.self; rest = c.see_message.new.events } in
    let is = c.in_ok-see_message.ensures ∙ ap (walked source course) c.new-others.ensures in
    let more : 0 < c.see_message.new.self.left = omega (arith, c.left.ensures, c.if-left-eq0.false) in (
      λ all e.
          sought_next c.set_laws.ensures c.args.feed.now source c.args.number all e course c.loop-message.rest.now c.in-Some.message.now c.in-Some.behind.now (c.loop-message.invariant.0 all e) c.in-Some.ensures.some
          walk is more,
      more,
    )
