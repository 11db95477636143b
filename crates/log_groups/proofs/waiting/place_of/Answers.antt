use Rattle.std.proofs.Common.{sym, ◌∙◌}
use Rattle.log_groups.specs.Body.{xid_value}
use Rattle.log_groups.specs.GroupCalls.{waiting_value}
use Rattle.log_groups.proofs.WaitingLaws.{looked_none, looked_more, found_at, found_rest, found_none}
use Rattle.log_groups.proofs.waiting.place_of.Goals as goal

pub loop-place-init : goal.loop-place-init
loop-place-init c = looked_none waiting_value c.args.waiting.now (xid_value c.args.xid.now)

pub loop-place-preserved : goal.loop-place-preserved
loop-place-preserved c = looked_more waiting_value c.args.waiting.now (xid_value c.args.xid.now) c.loop-place.place _ c.loop-place-test.true (sym c.same_xid.ensures ∙ c.if-same_xid.false) c.loop-place.invariant

pub returns-then-same_xid : goal.returns-then-same_xid
returns-then-same_xid c = (
  c.loop-place-test.true,
  λ d. found_at waiting_value c.args.waiting.now (xid_value c.args.xid.now) c.loop-place.place _ d c.loop-place-test.true (sym c.same_xid.ensures ∙ c.if-same_xid.true) c.loop-place.invariant,
  found_rest waiting_value c.args.waiting.now (xid_value c.args.xid.now) c.loop-place.place _ c.loop-place-test.true (sym c.same_xid.ensures ∙ c.if-same_xid.true) c.loop-place.invariant,
)

pub returns : goal.returns
returns c = found_none waiting_value c.args.waiting.now (xid_value c.args.xid.now) c.loop-place.place c.loop-place-test.false c.loop-place.invariant
