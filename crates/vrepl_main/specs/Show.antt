-- What `show` prints of a feed (this profile).
use Rattle.std.specs.Prelude.{ℕ, List, Option, None, Some, Result, Ok, Err}
use Rattle.source_feed.specs.declared.fault.FeedFault.{FeedFault}
use Rattle.source_feed.specs.GroupValue.{GroupValue}
use Rattle.source_feed.specs.SourceValue.{SourceValue}
use Rattle.source_feed.specs.Groups.{groups}
use Rattle.vrepl_choices.specs.declared.feed_form.FeedForm.{FeedForm}
use Rattle.vrepl_main.specs.Reasons.{Reason, bad_hex, bad_feed}
use Rattle.vrepl_main.specs.HexText.{feed_bytes}
use Rattle.feed_text.specs.Shown.{shown}

-- whose feed it is
abbrev pub shown_source : List ℕ → List ℕ → SourceValue
shown_source keyspace shard = record { keyspace = keyspace; shard = shard }

abbrev pub shown_groups : Result (List GroupValue) FeedFault → Result (List ℕ) Reason
shown_groups (Ok groups) = Ok (shown groups)
shown_groups (Err fault) = Err (bad_feed fault)

abbrev pub shown_bytes : SourceValue → Option (List ℕ) → Result (List ℕ) Reason
shown_bytes source None = Err bad_hex
shown_bytes source (Some feed) = shown_groups (groups feed source)

-- the text of the feed's groups, or why it is refused
abbrev pub shown_feed : FeedForm → List ℕ → SourceValue → Result (List ℕ) Reason
shown_feed form feed source = shown_bytes source (feed_bytes form feed)
