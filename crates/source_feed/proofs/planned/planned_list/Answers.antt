use Rattle.std.proofs.Common.{List, [], ◌∷◌, ◌++◌, sym, ap, ◌∙◌}
use Rattle.source_feed.specs.Planned.{PlannedChangeValue}
use Rattle.source_feed.specs.Private.FeedTables.{numbers_in}
use Rattle.source_feed.specs.Private.KeptGroups.{numbered}
use Rattle.source_feed.proofs.PlannedLaws.{one_kept, one_dropped}
use Rattle.source_feed.proofs.planned.planned_list.Goals as goal

pub loop-change-preserved-in-Continue-branch-2 : goal.loop-change-preserved-in-Continue-branch-2
loop-change-preserved-in-Continue-branch-2 c =
    c.in_ok-push.ensures.items
    ∙ ap (λ (under : List PlannedChangeValue). under ++ c.in-Some-planned.change ∷ []) c.loop-change.invariant
    ∙ sym (one_kept (numbered (numbers_in c.args.tables.now)) c.loop-change.yielded c.in-Some.change c.in-Some-planned.change (sym c.planned.ensures ∙ c.in-Some-planned.is))

pub loop-change-preserved : goal.loop-change-preserved
loop-change-preserved c =
    c.loop-change.invariant ∙ sym (one_dropped (numbered (numbers_in c.args.tables.now)) c.loop-change.yielded c.in-Some.change c.planned.result c.planned.ensures c.in_default.not-Some)
