-- What `show` prints of a feed that says a text.
use Rattle.std.proofs.Common.{◌≡◌, ℕ, List, Result, Ok, ap, ◌∙◌}
use Rattle.source_feed.specs.declared.fault.FeedFault.{FeedFault}
use Rattle.source_feed.specs.GroupValue.{GroupValue}
use Rattle.source_feed.specs.SourceValue.{SourceValue}
use Rattle.feed_text.specs.Says.{Says}
use Rattle.vrepl_choices.specs.declared.feed_form.FeedForm.TheVariants.{Bytes}
use Rattle.vrepl_main.specs.Reasons.{Reason}
use Rattle.vrepl_main.specs.Show.{shown_feed, shown_groups}

-- the text
pub says_shows : (source : SourceValue) (feed text : List ℕ) → Says source feed text → shown_feed Bytes feed source ≡ Ok text
says_shows source feed text s = ap shown_groups s.read ∙ ap (λ (t : List ℕ). Ok t) s.as_text
