-- Where a reader stops (this profile).
use Rattle.std.specs.Prelude.{◌≡◌, ℕ, ◌+◌, ◌≤◌, length, IsOk}
use Rattle.list_laws.specs.Outcome.{Refuses}
use Rattle.source_feed.specs.declared.fault.FeedFault.TheVariants.{Memory}
use Rattle.source_feed.specs.FaultNumber.{meant_of}
use Rattle.source_feed.specs.Planned.{FeedValue}
use Rattle.source_feed.specs.Touches.{prepared_at}
use Rattle.feed_readers.specs.declared.reading.Stop.{Stop}
use Rattle.feed_readers.specs.declared.reading.Stop.TheVariants.{AtEnd, Unprepared, Nobody}

-- with the last group of this number sent: no group is left; the next one has this fault, or memory is wanted for it and it is sound; or there is nobody to receive it
abbrev pub IsStop : FeedValue → ℕ → Stop → Type 0
IsStop feed last AtEnd = length feed.groups ≤ last
IsStop feed last (Unprepared fault) = Refuses meant_of fault (prepared_at feed (last + 1)) × (fault ≡ Memory → IsOk (prepared_at feed (last + 1)))
IsStop feed last Nobody = Unit {0}
