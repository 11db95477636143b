use Rattle.std.proofs.Common.{◌≡◌, ℕ, List, length, None}
use Rattle.proto_wire.specs.Frame.{frames_of}
use Rattle.show_json.specs.Columns.{told_in_messages}
use Rattle.show_json.specs.Private.Kept.{told_in}
use Rattle.show_json.proofs.columns.FeedColumns.of_feed.Given as goal

-- what the messages still to come say behind those so far is what all say
abbrev pub invariant-loop-message : goal.invariant-loop-message
invariant-loop-message l = (name : List ℕ) → told_in_messages l.source name (told_in l.tables name) l.frames.items ≡ told_in_messages l.source name None (frames_of l.fn.feed).items

abbrev pub decreases-loop-message : goal.decreases-loop-message
decreases-loop-message l = length l.frames.items
