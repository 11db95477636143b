-- What the events before a place say to those behind it, and two histories that say the same (this profile).
use Rattle.std.specs.Prelude.{◌≡◌, ℕ, ◌+◌, ◌-◌, List, ◌++◌, true, length, map, None}
use Rattle.std.specs.Option.{option_map}
use Rattle.source_feed.specs.declared.fault.FeedFault.{FeedFault}
use Rattle.source_feed.specs.declared.fault.FeedFault.TheVariants.{Diverged}
use Rattle.source_feed.specs.GroupValue.{GroupValue}
use Rattle.source_feed.specs.SourceValue.{SourceValue}
use Rattle.source_feed.specs.PastEvents.{PastEvents, is_open, last_field, body_position, body_changes}
use Rattle.source_feed.specs.Groups.{seen, groups_of, first_fault}

-- ---- so many groups fewer

-- a group, numbered behind so many groups fewer
abbrev pub lowered_group : ℕ → GroupValue → GroupValue
lowered_group fewer group = record group { number = group.number - fewer }

-- the one fault of a feed's events that names a group
abbrev pub lowered_fault : ℕ → FeedFault → FeedFault
lowered_fault fewer (Diverged group) = Diverged (group - fewer)
lowered_fault fewer fault = fault

-- ---- two histories

-- Two histories answer alike, but for so many groups fewer: to what follows a history says whether a transaction is open, and
-- what of it stands so far; the columns of each table; the positions of its blocks together; and how many groups it has.
pub record AnswerAlike (source : SourceValue) (fewer : ℕ) (old new : PastEvents) : Type 0 where
  pub inside : is_open new ≡ is_open old
  pub body_at : is_open old ≡ true → body_position source new ≡ body_position source old
  pub body : is_open old ≡ true → body_changes source new ≡ body_changes source old
  pub columns : (table : List ℕ) → last_field source new table ≡ last_field source old table
  pub reached : seen source new ≡ seen source old
  pub numbers : length (groups_of source new) + fewer ≡ length (groups_of source old)

-- Later events go on alike behind two histories: they make the same groups, but for their numbers, have the same first
-- fault, but for the group that it names, and leave histories that answer alike.
pub record GoOnAlike (source : SourceValue) (fewer : ℕ) (old new later : PastEvents) : Type 0 where
  pub more : List GroupValue
  pub of_old : groups_of source (later ++ old) ≡ groups_of source old ++ more
  pub of_new : groups_of source (later ++ new) ≡ groups_of source new ++ map (lowered_group fewer) more
  pub behind : AnswerAlike source fewer (later ++ old) (later ++ new)
  pub faults : first_fault source old ≡ None → first_fault source new ≡ None
      → first_fault source (later ++ new) ≡ option_map (lowered_fault fewer) (first_fault source (later ++ old))
