use Rattle.std.proofs.Common.{map, refl, sym, subst}
use Rattle.std.proofs.lemmas.Result.{err_from_is_err_and}
use Rattle.std.specs.Arc.{arc_value}
use Rattle.vrepl_compact.specs.Asked.{AskedFeed}
use Rattle.vrepl_compact.specs.Compacted.{IsCompactedOf, IsLastReplaced}
use Rattle.vrepl_compact.specs.Private.Faults.{IsOfFeed, IsOfLimit}
use Rattle.vrepl_compact.proofs.LimitLaws.{all_go_on, feed_given, limit_given, of_feed, of_limit}
use Rattle.vrepl_compact.proofs.compacting.compacted_feed.Goals as goal

pub returns-clause-compacted : goal.returns-clause-compacted
returns-clause-compacted g c =
    let inputs = c.args.inputs.now in
    let asked : AskedFeed = record { plans = map arc_value c.args.plans.now; bytes = c.args.bytes.now; feed = c.args.feed.now } in
    let last : IsLastReplaced inputs asked c.in-Ok-compact_feed.made.groups = subst (IsLastReplaced inputs asked) (sym c.in-Ok-compact_feed.ensures.exact) c.in-Ok.ensures.limit in
    record {
      last = last;
      compaction = c.in-Ok-compact_feed.ensures.compacted;
      go_on = all_go_on inputs asked c.in-Ok-compact_feed.made.groups c.in-Ok-compact_feed.ensures.compacted.some last;
    }

pub returns-clause-told : goal.returns-clause-told
returns-clause-told g c = c.in_ok-line.ensures

pub returns-in-Err-clause-refused : goal.returns-in-Err-clause-refused
returns-in-Err-clause-refused g c =
    of_limit c.args.inputs.now (record { plans = map arc_value c.args.plans.now; bytes = c.args.bytes.now; feed = c.args.feed.now }) c.in-Err.fault c.unlimited.result
    (subst (λ plan. IsOfLimit plan c.args.inputs.now.stream c.in-Err.fault c.unlimited.result) c.requires.plan c.unlimited.ensures) (c.in-Err.ensures.refused c.args.bytes.now)

pub returns-in-Err-clause-memory : goal.returns-in-Err-clause-memory
returns-in-Err-clause-memory g c = limit_given _ (arc_value c.args.plan) c.args.inputs.now.stream c.in-Err.fault c.unlimited.result c.unlimited.ensures

pub returns-in-Err-compact_feed-clause-refused : goal.returns-in-Err-compact_feed-clause-refused
returns-in-Err-compact_feed-clause-refused g c =
    of_feed c.args.inputs.now (record { plans = map arc_value c.args.plans.now; bytes = c.args.bytes.now; feed = c.args.feed.now }) c.in-Ok.number c.in-Err-compact_feed.fault c.uncompacted_by.result
    (subst (λ plan. IsOfFeed plan c.in-Err-compact_feed.fault c.uncompacted_by.result) c.requires.plan c.uncompacted_by.ensures) c.in-Ok.ensures.limit c.in-Err-compact_feed.ensures.cause

pub returns-in-Err-compact_feed-clause-memory : goal.returns-in-Err-compact_feed-clause-memory
returns-in-Err-compact_feed-clause-memory g c = feed_given _ (arc_value c.args.plan) c.in-Err-compact_feed.fault c.uncompacted_by.result c.uncompacted_by.ensures

pub returns-in_err-line-clause-refused : goal.returns-in_err-line-clause-refused
returns-in_err-line-clause-refused g c =
    let p = err_from_is_err_and c.from_residual.result c.from_residual.ensures.1 in
    rw (p.1, p.2) tt

pub returns-in_err-line-clause-memory : goal.returns-in_err-line-clause-memory
returns-in_err-line-clause-memory g c =
    let p = err_from_is_err_and c.from_residual.result c.from_residual.ensures.1 in
    let inputs = c.args.inputs.now in
    let made = c.in-Ok-compact_feed.made in
    let asked : AskedFeed = record { plans = map arc_value c.args.plans.now; bytes = c.args.bytes.now; feed = c.args.feed.now } in
    let last : IsLastReplaced inputs asked made.groups = subst (IsLastReplaced inputs asked) (sym c.in-Ok-compact_feed.ensures.exact) c.in-Ok.ensures.limit in
    let of : IsCompactedOf inputs asked made.groups made.rows made.feed = record { last = last; compaction = c.in-Ok-compact_feed.ensures.compacted; go_on = all_go_on inputs asked made.groups c.in-Ok-compact_feed.ensures.compacted.some last } in
    rw (p.1, p.2) (refl, (made.groups, made.rows, made.feed, of))
