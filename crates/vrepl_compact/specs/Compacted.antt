-- The feed of a stream without its past, why there is none, and what the command `compact` leaves of both (this profile).
use Rattle.std.specs.Prelude.{◌≡◌, ◌⊎◌, ℕ, ◌-◌, List, length, codes, Option, Result, IsOkAnd, IfSome}
use Rattle.std.specs.Option.{option_map}
use Rattle.std.specs.Arc.{arc_value}
use Rattle.std.specs.List.{AllByRecursion}
use Rattle.filter_rule.specs.PlanValue.{PlanValue}
use Rattle.source_feed.specs.Planned.{FeedValue}
use Rattle.source_feed.specs.Touches.{group_at}
use Rattle.checkpoint_laws.specs.Saved.{SavedStream}
use Rattle.compaction.specs.Compacting.{IsCause, IsCompaction}
use Rattle.compaction_laws.specs.Laws.{IsFromBaseOn}
use Rattle.compact_limit.specs.Limit.{SaysOf, IsLimit}
use Rattle.compact_limit.specs.Refused.{IsRefusedLimit, WantsMemory}
use Rattle.compact_limit.specs.declared.fault.LimitFault.{LimitFault}
use Rattle.compact_limit.specs.declared.fault.LimitFault.TheVariants as limit
use Rattle.compaction.specs.declared.fault.CompactFault.{CompactFault}
use Rattle.printing.specs.Printing.{Written, IsWritten, BreaksOff}
use Rattle.vrepl_main.specs.Command.{Ends}
use Rattle.vrepl_main.specs.InputList.{bytes_of}
use Rattle.vrepl_main.specs.Printing.{PrintsOrBreaks}
use Rattle.vrepl_main.specs.Reasons.{Reason, RefusesInputs}
use Rattle.vrepl_main.specs.RefusalLine.{line_of}
use Rattle.vrepl_compact.specs.Asked.{AskedFeed, compact_asked}
use Rattle.vrepl_compact.specs.Refusals.{uncompacted_line}
use Rattle.vrepl_compact.specs.Told.{told_line}
use Rattle.vrepl_compact.specs.declared.inputs.CompactInputs.{CompactInputs}
use Rattle.vrepl_compact.specs.declared.refusal.Uncompacted.{Uncompacted}
use Rattle.vrepl_compact.specs.declared.refusal.Uncompacted.TheVariants.{Given, Limit, Feed}

-- ---- how far

-- the text of the position that is named, if one is
abbrev pub position_named : CompactInputs → Option (List ℕ)
position_named inputs = option_map (λ text. text.now) inputs.at

-- the group up to which the feed is compacted, by what is named and by the checkpoints
abbrev pub IsLastReplaced : CompactInputs → AskedFeed → ℕ → Type 0
IsLastReplaced inputs asked number = IsLimit asked.plans asked.feed inputs.stream (position_named inputs) (bytes_of inputs.checkpoints.items) number

-- what stands in the way of saying so; memory is wanted where nothing is known to stand in the way before
abbrev pub IsUnlimited : CompactInputs → AskedFeed → LimitFault → Type 0
IsUnlimited inputs asked limit.Memory = WantsMemory asked.plans asked.feed inputs.stream (position_named inputs) (bytes_of inputs.checkpoints.items)
IsUnlimited inputs asked fault = IsRefusedLimit asked.plans asked.feed inputs.stream (position_named inputs) (bytes_of inputs.checkpoints.items) fault

-- ---- the new feed

-- a stream of a checkpoint goes on over the feed without so many groups
abbrev pub GoesOnBehind : List PlanValue → FeedValue → ℕ → ℕ → List ℕ → Type 0
GoesOnBehind plans feed stream fewer checkpoint = (one : SavedStream) × SaysOf plans stream checkpoint one × IsFromBaseOn feed fewer one.position

-- What is written is the feed that is asked for without its past, up to just the group that the inputs say: it opens under the
-- stream's plan as the compacted feed, and every checkpoint that is named goes on over it.
pub record IsCompactedOf (inputs : CompactInputs) (asked : AskedFeed) (groups rows : ℕ) (written : List ℕ) : Type 0 where
  pub last : IsLastReplaced inputs asked groups
  pub compaction : IsCompaction asked.feed asked.bytes inputs.unknown groups rows written
  pub go_on : AllByRecursion (GoesOnBehind asked.plans asked.feed inputs.stream (groups - 1)) (bytes_of inputs.checkpoints.items)

-- there is such a feed, and it is this
abbrev pub IsCompacted : CompactInputs → Result AskedFeed Reason → ℕ → ℕ → List ℕ → Type 0
IsCompacted inputs asked groups rows written = IsOkAnd asked (λ a. IsCompactedOf inputs a groups rows written)

-- a line tells what was compacted of it: the groups, up to the position of the last of them, the rows, and the bytes of both feeds
abbrev pub IsTold : Result AskedFeed Reason → ℕ → ℕ → ℕ → List ℕ → Type 0
IsTold asked groups rows size line = IsOkAnd asked (λ a. IfSome (group_at a.feed groups) (λ group. line ≡ told_line groups group.position rows (length a.bytes) size))

-- ---- refusals

-- what stands first in the feed up to the group that the inputs say
abbrev pub IsUncompacted : CompactInputs → AskedFeed → CompactFault → Type 0
IsUncompacted inputs asked fault = (number : ℕ) × IsLastReplaced inputs asked number × IsCause asked.feed asked.bytes inputs.unknown number fault

-- A refusal says just why there is no feed to be compacted; or there is one, and it says what stands in the way of saying how far;
-- or else what stands in the feed up to there; unless memory ran out.
abbrev pub RefusesCompact : CompactInputs → Uncompacted → Result AskedFeed Reason → Type 0
RefusesCompact inputs (Given refusal) asked = RefusesInputs refusal asked
RefusesCompact inputs (Limit plan stream fault) asked = IsOkAnd asked (λ a. (arc_value plan ≡ a.feed.plan) × (stream ≡ inputs.stream) × IsUnlimited inputs a fault)
RefusesCompact inputs (Feed plan fault) asked = IsOkAnd asked (λ a. (arc_value plan ≡ a.feed.plan) × IsUncompacted inputs a fault)

-- ---- what the command leaves

abbrev pub PrintsCompacted : CompactInputs → Written → Written → Type 0
PrintsCompacted inputs old new = (groups : ℕ) × (rows : ℕ) × (written : List ℕ) × IsCompacted inputs (compact_asked inputs) groups rows written × IsWritten old new written

-- a beginning of it, and then a write failed
abbrev pub BreaksOffCompacted : CompactInputs → Written → Written → Type 0
BreaksOffCompacted inputs old new = (groups : ℕ) × (rows : ℕ) × (written : List ℕ) × IsCompacted inputs (compact_asked inputs) groups rows written × BreaksOff old new written

-- bytes were printed whole, or a beginning of them and the line of a refusal for that
abbrev pub IsPrinted : List ℕ → ℕ → Written → Written → Written → Written → Type 0
IsPrinted bytes status old new err_old err_new =
    ((status ≡ 0) × IsWritten old new bytes) ⊎ ((status ≡ 1) × BreaksOff old new bytes × PrintsOrBreaks err_old err_new (line_of 132 (codes " file -")))

-- the line of the refusal was printed whole on standard error, unless a write of it failed, and nothing on standard output; or a
-- write on standard output failed, and the line says so
abbrev pub PrintsUncompacted : CompactInputs → Written → Written → Written → Written → Type 0
PrintsUncompacted inputs old new err_old err_new =
    ((uncompacted : Uncompacted) × RefusesCompact inputs uncompacted (compact_asked inputs) × (new ≡ old) × PrintsOrBreaks err_old err_new (uncompacted_line uncompacted))
    ⊎ (BreaksOffCompacted inputs old new × PrintsOrBreaks err_old err_new (line_of 132 (codes " file -")))

-- how `compact` ends
abbrev pub CompactEnds : CompactInputs → ℕ → Written → Written → Written → Written → Type 0
CompactEnds inputs status old new err_old err_new = Ends status (PrintsCompacted inputs old new) ⊥ (PrintsUncompacted inputs old new err_old err_new)
