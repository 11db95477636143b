use Rattle.std.proofs.Common.{sym, ◌∙◌}
use Rattle.log_groups.specs.Step.{gtid_value}
use Rattle.log_places.proofs.PlaceLaws.{goes_further}
use Rattle.log_places.proofs.NextLaws.{behind-last}
use Rattle.log_places.proofs.places.position_behind.Goals as goal

pub returns : goal.returns
returns c =
    goes_further c.args.reached.now c.in_ok-one.one c.in_ok-behind.behind (gtid_value c.args.gtid.now) c.in_ok-interval.interval c.in_ok-interval.ensures.value c.in_ok-one.ensures
    (sym c.is_within.ensures.value ∙ c.if-is_within.false) c.in_ok-behind.ensures

pub returns-then-lacks_the_last : goal.returns-then-lacks_the_last
returns-then-lacks_the_last c =
    behind-last c.within_is_subset.ensures c.args.reached.now c.in_ok-next.next (gtid_value c.args.gtid.now) c.in_ok-interval.interval c.in_ok-interval.ensures.right c.in_ok-interval.ensures.value (c.lacks_the_last.ensures c.if-lacks_the_last.true)
    c.in_ok-next.ensures
