-- The rule of a reader's channel (this profile).
use Rattle.std.specs.Prelude.{◌≡◌, ℕ, ◌+◌, List}
use Rattle.std.specs.List.{AllByRecursion}
use Rattle.source_feed.specs.Planned.{FeedValue}
use Rattle.source_feed.specs.Touches.{PreparedValue}
use Rattle.feed_readers.specs.Ahead.{IsGroupOf}

-- what a pass is for: its thread prepares groups and sends them, of which it knows the number of the last that it sent, at first how many are read before it begins; or it needs them and receives them
pub data SideOf : Type 0 where
  Reads : ℕ → SideOf
  Works : SideOf

-- the number of the last group that was sent or was read before
abbrev pub last_sent : SideOf → ℕ
last_sent (Reads last) = last
last_sent Works = 0

-- the number of the group that may be sent next: the one behind the last
abbrev pub MaySend : SideOf → ℕ → Type 0
MaySend side number = number ≡ last_sent side + 1

-- each is the feed's group, prepared, of the number that it names
abbrev pub AreGroupsOf : FeedValue → List PreparedValue → Type 0
AreGroupsOf feed groups = AllByRecursion (IsGroupOf feed) groups

-- ---- the two steps

-- the group of the feed behind the last that was sent is sent by the thread that prepares, and is the last from then on
pub record IsSent (feed : FeedValue) (before : SideOf) (group : PreparedValue) (after : SideOf) : Type 0 where
  pub reads : before ≡ Reads (last_sent before)
  pub next : MaySend before group.number
  pub prepared : IsGroupOf feed group
  pub sent : after ≡ Reads group.number

-- a group of the feed is received by the thread that needs it
pub record IsReceived (feed : FeedValue) (before : SideOf) (group : PreparedValue) (after : SideOf) : Type 0 where
  pub works : before ≡ Works
  pub same : after ≡ before
  pub prepared : IsGroupOf feed group
