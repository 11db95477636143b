-- The groups of a feed, as they were read.
use Rattle.std.specs.Prelude.{List, map}
use Rattle.source_feed.specs.declared.kept.KeptGroups.{KeptGroups}
use Rattle.source_feed.specs.GroupValue.{GroupValue}
use Rattle.source_feed.specs.Private.FeedTables.{names_in}
use Rattle.source_feed.specs.Private.KeptGroups.{named_group}

-- what they say, under the names of the feed's tables
abbrev pub all_named : KeptGroups → List GroupValue
all_named kept = map (named_group (names_in kept.tables)) kept.groups.items
