-- What a command's refusal tells behind its number, word by word (this profile).
use Rattle.std.specs.Prelude.{ℕ, List, [], ◌∷◌, Option, None, Some, option_map, codes, string_bytes}
use Rattle.vevent.specs.declared.fault.EventFault.TheVariants.{BadType}
use Rattle.filter_rule.specs.declared.fault.PlanFault.{PlanFault}
use Rattle.filter_rule.specs.declared.fault.PlanFault.TheVariants.{NoSuchColumn, KeyType, BadRule, ColumnsDiffer}
use Rattle.source_feed.specs.FaultNumber.{cause_of}
use Rattle.source_feed.specs.declared.fault.FeedFault.{FeedFault}
use Rattle.source_feed.specs.declared.fault.FeedFault.TheVariants.{Event, Diverged}
use Rattle.refusal_json.specs.Details.{DetailValue, told_before, told_number, told_text}
use Rattle.vrepl_main.specs.declared.refusal.CommandRefusal.{CommandRefusal}
use Rattle.vrepl_main.specs.declared.refusal.CommandRefusal.TheVariants.{Workflow, NotReached, Feed, BadScript, BadDump, Changed, CannotRead, CannotWrite}

-- a number by a word
abbrev pub numbered : List ℕ → ℕ → DetailValue
numbered word n = record { word = word; told = told_number n }

-- a text by a word
abbrev pub named : List ℕ → List ℕ → DetailValue
named word text = record { word = word; told = told_text text }

-- the number of the innermost fault
abbrev pub cause_told : ℕ → DetailValue
cause_told cause = numbered (codes "cause") cause

-- the type of an event that isn't read; the number that a group would have had
abbrev pub feed_place_told : FeedFault → Option DetailValue
feed_place_told (Event (BadType kind)) = Some (numbered (codes "type") kind)
feed_place_told (Diverged group) = Some (numbered (codes "group") group)
feed_place_told _ = None

abbrev pub feed_told : FeedFault → List DetailValue
feed_told fault = told_before (option_map cause_told (cause_of fault)) (told_before (feed_place_told fault) [])

-- the column of a table
abbrev pub column_told : List ℕ → List ℕ → List DetailValue
column_told table column = named (codes "table") table ∷ named (codes "column") column ∷ []

-- a column, a table, or a rule of a stream, both counted from 0
abbrev pub workflow_told : PlanFault → List DetailValue
workflow_told (NoSuchColumn table column) = column_told (string_bytes table) (string_bytes column)
workflow_told (KeyType table column) = column_told (string_bytes table) (string_bytes column)
workflow_told (BadRule stream rule) = numbered (codes "stream") stream ∷ numbered (codes "rule") rule ∷ []
workflow_told (ColumnsDiffer table) = named (codes "table") (string_bytes table) ∷ []
workflow_told _ = []

-- what stands behind the number
abbrev pub told_of : CommandRefusal → List DetailValue
told_of (Workflow fault) = workflow_told fault
told_of (Feed fault) = feed_told fault
told_of (NotReached stream) = numbered (codes "stream") stream ∷ []
told_of (BadScript bad) = numbered (codes "line") bad ∷ []
told_of (BadDump bad) = numbered (codes "line") bad ∷ []
told_of (Changed file) = named (codes "file") file.now ∷ []
told_of (CannotRead file) = named (codes "file") file.now ∷ []
told_of (CannotWrite file) = named (codes "file") file.now ∷ []
told_of _ = []
