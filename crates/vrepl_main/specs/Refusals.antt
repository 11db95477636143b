-- The lines of refusals, as this profile prints them on standard error.
use Rattle.std.specs.Prelude.{ℕ, List, [], ◌++◌, Option, Some, None, codes, decimal, string_bytes}
use Rattle.vevent.specs.declared.fault.EventFault.TheVariants.{BadType}
use Rattle.filter_rule.specs.Faults as plans
use Rattle.filter_rule.specs.declared.fault.PlanFault.{PlanFault}
use Rattle.filter_rule.specs.declared.fault.PlanFault.TheVariants.{NoSuchColumn, KeyType, BadRule, ColumnsDiffer}
use Rattle.source_feed.specs.FaultNumber as feed
use Rattle.source_feed.specs.declared.fault.FeedFault.{FeedFault}
use Rattle.source_feed.specs.declared.fault.FeedFault.TheVariants.{Event, Diverged}
use Rattle.vrepl_main.specs.Printing.{named_number}
use Rattle.vrepl_main.specs.RefusalLine.{line_of}
use Rattle.vrepl_main.specs.declared.refusal.CommandRefusal.{CommandRefusal}
use Rattle.vrepl_main.specs.declared.refusal.CommandRefusal.TheVariants.{Memory, Workflow, NoStream, FeedCount, NotReached, Feed, BadHex, BadScript, BadDump, Changed, CannotRead, CannotWrite}

-- the number of each refusal
abbrev pub number_of : CommandRefusal → ℕ
number_of Memory = 72
number_of (Workflow fault) = plans.number_of fault
number_of NoStream = 115
number_of FeedCount = 119
number_of (NotReached stream) = 128
number_of (Feed fault) = feed.number_of fault
number_of BadHex = 93
number_of (BadScript bad) = 120
number_of (BadDump bad) = 121
number_of (Changed file) = 129
number_of (CannotRead file) = 131
number_of (CannotWrite file) = 132

-- the number of the innermost fault, where there is one
abbrev pub cause_text : Option ℕ → List ℕ
cause_text None = []
cause_text (Some cause) = codes " cause " ++ decimal cause

-- behind it: the type of an event that isn't read; the number that a group would have had
abbrev pub feed_place : FeedFault → List ℕ
feed_place (Event (BadType kind)) = codes " type " ++ decimal kind
feed_place (Diverged group) = codes " group " ++ decimal group
feed_place _ = []

-- what stands behind the number of a refused feed
abbrev pub feed_details : FeedFault → List ℕ
feed_details fault = cause_text (feed.cause_of fault) ++ feed_place fault

-- the column of a table that a workflow's fault names
abbrev pub column_text : List ℕ → List ℕ → List ℕ
column_text table column = codes " table " ++ table ++ codes " column " ++ column

-- the rule of a stream that it names
abbrev pub rule_text : ℕ → ℕ → List ℕ
rule_text stream rule = named_number (codes " stream ") stream ++ named_number (codes " rule ") rule

-- what stands behind the number of a refused workflow: a column, a table, or a rule of a stream, both counted from 0
abbrev pub workflow_details : PlanFault → List ℕ
workflow_details (NoSuchColumn table column) = column_text (string_bytes table) (string_bytes column)
workflow_details (KeyType table column) = column_text (string_bytes table) (string_bytes column)
workflow_details (BadRule stream rule) = rule_text stream rule
workflow_details (ColumnsDiffer table) = codes " table " ++ string_bytes table
workflow_details _ = []

-- what stands behind the number
abbrev pub details_of : CommandRefusal → List ℕ
details_of (Workflow fault) = workflow_details fault
details_of (Feed fault) = feed_details fault
details_of (NotReached stream) = codes " stream " ++ decimal stream
details_of (BadScript bad) = codes " line " ++ decimal bad
details_of (BadDump bad) = codes " line " ++ decimal bad
details_of (Changed file) = codes " file " ++ file.now
details_of (CannotRead file) = codes " file " ++ file.now
details_of (CannotWrite file) = codes " file " ++ file.now
details_of _ = []

-- the line
abbrev pub refusal_line : CommandRefusal → List ℕ
refusal_line refusal = line_of (number_of refusal) (details_of refusal)
