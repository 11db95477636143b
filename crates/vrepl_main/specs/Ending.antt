-- A workflow's feeds up to the positions that are given (this profile).
use Rattle.std.specs.Prelude.{List, Result, Ok, Err}
use Rattle.list_laws.specs.Outcome.{◌>>=◌}
use Rattle.source_feed.specs.Planned.{FeedValue}
use Rattle.source_feed.specs.declared.fault.FeedFault.TheVariants.{BadPosition}
use Rattle.vrepl_choices.specs.UntilValue.{UntilValue}
use Rattle.feed_ends.specs.EndedFeeds.{ended_feeds}
use Rattle.feed_ends.specs.Faults as ends
use Rattle.feed_ends.specs.Faults.{EndReason}
use Rattle.filter_rule.specs.PlanValue.{PlanValue}
use Rattle.vrepl_main.specs.Opening.{OpenedValue}
use Rattle.vrepl_main.specs.Reasons.{Reason, bad_feed, no_stream, not_reached}

-- why feeds don't end at positions: a position is refused as one of a feed's is
abbrev pub end_reason : EndReason → Reason
end_reason ends.no_stream = no_stream
end_reason (ends.bad_position cause) = bad_feed (BadPosition cause)
end_reason (ends.not_reached stream) = not_reached stream

abbrev pub ended_over : List PlanValue → Result (List FeedValue) EndReason → Result OpenedValue Reason
ended_over plans (Ok feeds) = Ok (record { plans = plans; feeds = feeds })
ended_over plans (Err fault) = Err (end_reason fault)

-- a workflow with its feeds, each up to the position that is given for its stream
abbrev pub ended : List UntilValue → OpenedValue → Result OpenedValue Reason
ended untils given = ended_over given.plans (ended_feeds untils given.feeds)

-- what is opened, and then ends at the positions
abbrev pub opened_until : List UntilValue → Result OpenedValue Reason → Result OpenedValue Reason
opened_until untils reading = reading >>= ended untils
