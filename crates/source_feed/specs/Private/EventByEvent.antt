-- The groups of a feed, event after event: what stands before each place, or the first fault on the way.
use Rattle.std.specs.Prelude.{List, [], ◌∷◌, Option, Result, Ok, Err, if◌then◌else◌}
use Rattle.list_laws.specs.Outcome.{◌>>=◌, unless}
use Rattle.vevent.specs.EventValue.{EventValue}
use Rattle.source_feed.specs.declared.fault.FeedFault.{FeedFault}
use Rattle.source_feed.specs.declared.fault.FeedFault.TheVariants.{OpenAtEnd}
use Rattle.source_feed.specs.SourceValue.{SourceValue}
use Rattle.source_feed.specs.GroupValue.{GroupValue}
use Rattle.source_feed.specs.PastEvents.{PastEvents, is_open}
use Rattle.source_feed.specs.Groups.{fault_at, groups_of}

-- the past behind some more events and then the end or a fault
abbrev pub past_behind : SourceValue → PastEvents → List EventValue → Option FeedFault → Result PastEvents FeedFault
past_behind source earlier [] end = unless end >>= λ _. Ok earlier
past_behind source earlier (event ∷ events) end = unless (fault_at source earlier event) >>= λ _. past_behind source (event ∷ earlier) events end

-- the groups at the end of all events, where no transaction is open
abbrev pub groups_at_end : SourceValue → Result PastEvents FeedFault → Result (List GroupValue) FeedFault
groups_at_end source (Err fault) = Err fault
groups_at_end source (Ok history) = if is_open history then Err OpenAtEnd else Ok (groups_of source history)
