-- What the bytes are that logs give behind a feed: with them it has its groups, and behind these just the logs' transactions
-- that it didn't have (this profile).
use Rattle.std.specs.Prelude.{◌≡◌, ◌⊎◌, ℕ, ◌+◌, true, false, List, [], ◌∷◌, ◌++◌, length, Ok, if◌then◌else◌}
use Rattle.gtid_set.specs.declared.interval.Interval.{Interval}
use Rattle.gtid_set.specs.Position.{IsWithin, within_of, union_of}
use Rattle.source_feed.specs.GroupValue.{GroupValue}
use Rattle.source_feed.specs.Groups.{groups}
use Rattle.log_course.specs.Course.{PlacedValue}
use Rattle.log_laws.specs.Source.{SourceTables, source_of}
use Rattle.log_laws.specs.Read.{groups_read, last_read, reached_by, said_by}
use Rattle.log_transcribe.specs.Apart.{IsApart}
use Rattle.log_transcribe.specs.Behind.{moved}
use Rattle.log_transcribe.specs.Feed.{HaveTransactions}
use Rattle.log_transcribe.specs.Said.{reached_in}

-- The transactions of logs that a position doesn't have, in order, each with the position behind it: of those before it and of
-- the position. A transaction is had where all that the logs reach with it is in these.
abbrev pub further : List Interval → List PlacedValue → List PlacedValue
further had [] = []
further had (g ∷ groups) = if within_of g.position had then further had groups else moved had g ∷ further (union_of had g.position) groups

-- of each other one the position has no number
abbrev pub AreWhole : List Interval → List Interval → List PlacedValue → Type 0
AreWhole had before [] = Unit {0}
AreWhole had before (g ∷ groups) =
    ((within_of g.position had ≡ true) × AreWhole had g.position groups)
    ⊎ ((within_of g.position had ≡ false) × IsApart had before g.position × AreWhole (union_of had g.position) g.position groups)

-- the groups that come behind others, as many as these, which reach this position
abbrev pub groups_further : SourceTables → ℕ → List Interval → List PlacedValue → List GroupValue
groups_further s many had transactions =
    groups_read s (many + 1) transactions ++ last_read (said_by s true transactions) (reached_by had transactions) (many + length (groups_read s (many + 1) transactions) + 1)

-- The feed has these groups and reaches this position, and the logs, which begin with nothing that it doesn't have, have these
-- transactions; with the bytes behind it the feed has its groups, and behind them those of the transactions that it didn't have.
pub record IsFeedBehind (s : SourceTables) (feed : List ℕ) (logs : List (List ℕ)) (more : List ℕ) : Type 0 where
  pub old : List GroupValue
  pub had : groups feed (source_of s) ≡ Ok old
  pub reached : List Interval
  pub end : reached_in feed old ≡ Ok reached
  pub first : List Interval
  pub begins : IsWithin first reached
  pub transactions : List PlacedValue
  pub have : HaveTransactions first [] logs transactions
  pub whole : AreWhole reached first transactions
  pub read : groups (feed ++ more) (source_of s) ≡ Ok (old ++ groups_further s (length old) reached (further reached transactions))
