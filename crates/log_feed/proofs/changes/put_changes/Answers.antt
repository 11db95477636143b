use Rattle.std.proofs.Common.{ap}
use Rattle.log_feed.specs.Private.Bytes.{with_changes}
use Rattle.log_feed.proofs.BytesLaws.{loop-end, loop-further, loop-less, loop-wrong}
use Rattle.log_feed.proofs.changes.put_changes.Goals as goal

pub loop-more-init : goal.loop-more-init
loop-more-init c = ap (λ r. with_changes c.args.kind r.items r.fault c.args.out.now.items) c.new-changes.ensures

pub returns-then-not-more : goal.returns-then-not-more
returns-then-not-more c = loop-end c.args.kind c.loop-more.changes c.put_next.new.changes c.loop-more.out.items c.put_next.new.out.items c.in-Ok.more _ c.if-not-more.true c.in-Ok.ensures c.loop-more.invariant

pub loop-more-preserved : goal.loop-more-preserved
loop-more-preserved c = loop-further c.args.kind c.loop-more.changes c.put_next.new.changes c.loop-more.out.items c.put_next.new.out.items c.in-Ok.more _ c.if-not-more.false c.in-Ok.ensures c.loop-more.invariant

pub loop-more-smaller : goal.loop-more-smaller
loop-more-smaller c = loop-less c.args.kind c.loop-more.changes c.put_next.new.changes c.loop-more.out.items c.put_next.new.out.items c.in-Ok.more c.if-not-more.false c.in-Ok.ensures

pub returns-in-Err : goal.returns-in-Err
returns-in-Err c = loop-wrong c.args.kind c.loop-more.changes c.put_next.new.changes c.loop-more.out.items c.put_next.new.out.items c.in-Err.error _ c.in-Err.ensures c.loop-more.invariant
