-- The groups of a feed under a plan that takes it.
use Rattle.std.proofs.Common.{◌≡◌, ℕ, Bool, true, false, List, map, Result, Ok, Err, refl, sym, ap, ◌∙◌}
use Rattle.std.specs.Prelude.{if◌then◌else◌}
use Rattle.std.specs.List.{list_any}
use Rattle.filter_rule.specs.PlanValue.{PlanValue}
use Rattle.source_feed.specs.declared.fault.FeedFault.{FeedFault}
use Rattle.source_feed.specs.declared.fault.FeedFault.TheVariants.{FieldsDiffer}
use Rattle.source_feed.specs.EventList.{events_of_feed}
use Rattle.source_feed.specs.GroupValue.{GroupValue}
use Rattle.source_feed.specs.Groups.{groups}
use Rattle.source_feed.specs.Planned.{PlannedGroupValue, differs, groups_under, planned_group, planned_groups, source_of}

-- they are its groups with the changes of the plan's tables
pub under_all : (plan : PlanValue) (feed : List ℕ) (all : List GroupValue) (planned : List PlannedGroupValue) → groups feed (source_of plan) ≡ Ok all → groups_under feed plan ≡ Ok planned
    → groups_under feed plan ≡ Ok (map (planned_group plan) all)
under_all plan feed all planned read opened =
    let of_all : groups_under feed plan ≡ planned_groups plan (events_of_feed feed).items (Ok all) = ap (planned_groups plan (events_of_feed feed).items) read in
    of_all ∙ by (list_any (differs plan) (events_of_feed feed).items) (sym of_all ∙ opened)
  where
    by : (b : Bool) → ◌≡◌ {A = Result (List PlannedGroupValue) FeedFault} (if b then Err FieldsDiffer else Ok (map (planned_group plan) all)) (Ok planned)
        → ◌≡◌ {A = Result (List PlannedGroupValue) FeedFault} (if b then Err FieldsDiffer else Ok (map (planned_group plan) all)) (Ok (map (planned_group plan) all))
    by true h = cc
    by false h = refl
