use Rattle.std.proofs.Common.{◌≡◌, ℕ, List, length}
use Rattle.vevent.specs.Response.{response_of}
use Rattle.show_json.specs.Columns.{told_behind}
use Rattle.show_json.specs.Private.Kept.{told_in}
use Rattle.show_json.proofs.columns.FeedColumns.see_message.Given as goal

-- what the events still to come say behind those so far is what all say
abbrev pub invariant-loop-event : goal.invariant-loop-event
invariant-loop-event l = (name : List ℕ) → told_behind l.source name (told_in l.self name) l.events.items ≡ told_behind l.source name (told_in l.fn.self name) (response_of l.message).items

abbrev pub decreases-loop-event : goal.decreases-loop-event
decreases-loop-event l = length l.events.items
