-- What the feed of logs is: its groups are just their transactions that change its tables (this profile).
use Rattle.std.specs.Prelude.{◌≡◌, ℕ, ◌+◌, true, false, List, [], ◌∷◌, ◌++◌, length, None, Ok}
use Rattle.gtid_set.specs.declared.interval.Interval.{Interval}
use Rattle.source_feed.specs.Groups.{groups}
use Rattle.source_feed.specs.GroupValue.{GroupValue}
use Rattle.log_groups.specs.Group.{WaitingValue, still_waits}
use Rattle.log_course.specs.Course.{PlacedValue, IsCourse}
use Rattle.log_laws.specs.Source.{SourceTables, source_of}
use Rattle.log_laws.specs.Read.{groups_read, last_read, reached_by, said_by}

-- Logs have these transactions, one file behind another: each file is a log that goes on where the one before it ended, with
-- its transactions to its end, and with the XA transactions that wait there. Behind the last file none waits that changes
-- anything.
abbrev pub HaveTransactions : List Interval → List WaitingValue → List (List ℕ) → List PlacedValue → Type 0
HaveTransactions reached waiting [] transactions = (transactions ≡ []) × (still_waits waiting ≡ false)
HaveTransactions reached waiting (bytes ∷ logs) transactions =
    (here : List PlacedValue) × (left : List WaitingValue) × (others : List PlacedValue) × (transactions ≡ here ++ others)
    × IsCourse reached waiting bytes (record { groups = record { items = here; fault = None }; waiting = left }) × HaveTransactions (reached_by reached here) left logs others

-- The groups of transactions that have rows of the feed's tables, in order, each with the position behind it and its changes;
-- and at the end one without changes where others are behind the last of them.
abbrev pub groups_of_all : SourceTables → List PlacedValue → List GroupValue
groups_of_all s transactions = groups_read s 1 transactions ++ last_read (said_by s true transactions) (reached_by [] transactions) (length (groups_read s 1 transactions) + 1)

-- the bytes are the feed of logs: they have transactions, and the feed has the groups of these
pub record IsFeedOfLogs (s : SourceTables) (logs : List (List ℕ)) (feed : List ℕ) : Type 0 where
  pub transactions : List PlacedValue
  pub have : HaveTransactions [] [] logs transactions
  pub read : groups feed (source_of s) ≡ Ok (groups_of_all s transactions)
