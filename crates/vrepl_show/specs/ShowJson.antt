-- What `show --json` prints of a feed (this profile).
use Rattle.std.specs.Prelude.{ℕ, List, Option, None, Some, Result, Ok, Err}
use Rattle.source_feed.specs.declared.fault.FeedFault.{FeedFault}
use Rattle.source_feed.specs.GroupValue.{GroupValue}
use Rattle.source_feed.specs.SourceValue.{SourceValue}
use Rattle.source_feed.specs.Groups.{groups}
use Rattle.show_json.specs.Columns.{columns_of}
use Rattle.show_json.specs.Text.{NamedTables, json_text_of}
use Rattle.vrepl_choices.specs.declared.feed_form.FeedForm.{FeedForm}
use Rattle.vrepl_main.specs.HexText.{feed_bytes}
use Rattle.vrepl_main.specs.Reasons.{Reason, bad_hex, bad_feed}

abbrev pub json_groups : NamedTables → Result (List GroupValue) FeedFault → Result (List ℕ) Reason
json_groups tables (Ok groups) = Ok (json_text_of tables groups)
json_groups tables (Err fault) = Err (bad_feed fault)

abbrev pub json_bytes : SourceValue → Option (List ℕ) → Result (List ℕ) Reason
json_bytes source None = Err bad_hex
json_bytes source (Some feed) = json_groups (columns_of feed source) (groups feed source)

-- the lines of the feed's groups, or why it is refused
abbrev pub json_feed : FeedForm → List ℕ → SourceValue → Result (List ℕ) Reason
json_feed form feed source = json_bytes source (feed_bytes form feed)
