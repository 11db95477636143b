use Rattle.std.proofs.Common.{◌≡◌}
use Rattle.serde_json.proofs.Views.{Entry}
use Rattle.workflow_check.proofs.IgnoredLaws.{others-more}
use Rattle.workflow_check.proofs.ignored.push_members.Goals as goal

pub loop-key-preserved : goal.loop-key-preserved
loop-key-preserved c =
    let e : Entry = (c.in-Some.key.now, c.in-Some._member.now) in
    others-more c.args.object c.args.path.now _ _ _ e _ _ _ c.in-Some.ensures.steps c.as_str.ensures.value c.in_ok-push_other.ensures c.loop-key.invariant
