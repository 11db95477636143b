use Rattle.std.proofs.Common.{◌++◌, [], ap, ◌∙◌, rules}
use Rattle.feed_check.specs.KeyedChanges.{keyed_in, keyed_changes}
use Rattle.feed_check.specs.Findings.{findings_of}
use Rattle.feed_check.proofs.ReplayLaws.{one-group, all-groups}
use Rattle.feed_check.proofs.before_images.findings_of.Goals as goal

pub loop-group-init : goal.loop-group-init
loop-group-init g c = ([], search rules, search rules)

pub loop-group-preserved : goal.loop-group-preserved
loop-group-preserved g c =
    let past = c.loop-group.invariant in (
      past.0 ++ c.in_ok-changes.changes.items,
      one-group (keyed_in c.args.plan.now) past.0 c.in_ok-changes.changes.items c.loop-group.group-iterator c.next.new.self c.in-Some.group (keyed_changes c.args.plan.now c.args.groups.now.items) c.in-Some.ensures.steps c.in_ok-changes.ensures past.1,
      c.in_ok-take_all.ensures past.0 past.2,
    )

pub returns : goal.returns
returns g c =
    let past = c.loop-group.invariant in
    past.2.found ∙ ap findings_of (all-groups (keyed_in c.args.plan.now) past.0 c.loop-group.group-iterator (keyed_changes c.args.plan.now c.args.groups.now.items) c.in-None.ensures.steps.0 past.1)
