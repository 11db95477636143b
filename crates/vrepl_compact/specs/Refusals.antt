-- The lines of refusals (this profile).
use Rattle.std.specs.Prelude.{ℕ, List, [], ◌∷◌, ◌++◌, codes}
use Rattle.std.specs.Arc.{arc_value}
use Rattle.filter_rule.specs.PlanTable.{TableValue}
use Rattle.source_feed.specs.declared.fault.FeedFault.TheVariants as group
use Rattle.checkpoint_laws.specs.declared.fault.ResumeFault.TheVariants as resume
use Rattle.compact_limit.specs.declared.fault.LimitFault.{LimitFault}
use Rattle.compact_limit.specs.declared.fault.LimitFault.TheVariants as limit
use Rattle.compaction.specs.declared.fault.CompactFault.{CompactFault}
use Rattle.compaction.specs.declared.fault.CompactFault.TheVariants as feed
use Rattle.vrepl_compact.specs.declared.refusal.Uncompacted.{Uncompacted}
use Rattle.vrepl_compact.specs.declared.refusal.Uncompacted.TheVariants as refusal
use Rattle.vrepl_main.specs.Refusals.{refusal_line}
use Rattle.vrepl_main.specs.ResumedText.{resume_line}
use Rattle.vrepl_main.specs.declared.refusal.CommandRefusal.TheVariants.{Memory, Feed}

-- what stands in the way of saying how far a stream's feed is compacted: 94, 118 or 116
abbrev pub limit_line : List TableValue → ℕ → LimitFault → List ℕ
limit_line tables stream (limit.BadPosition cause) = refusal_line (Feed (group.BadPosition cause))
limit_line tables stream limit.PositionUnknown = resume_line tables (resume.PositionUnknown stream)
limit_line tables stream limit.CheckpointBad = resume_line tables resume.CheckpointBad
limit_line tables stream limit.Memory = refusal_line Memory

-- why a feed isn't compacted up to a group: 91, 123, 90 or 95
abbrev pub feed_line : List TableValue → CompactFault → List ℕ
feed_line tables feed.NoCut = refusal_line (Feed (group.NoGroup 0))
feed_line tables feed.UnknownTable = codes "refused 123" ++ 10 ∷ []
feed_line tables (feed.Unsound fault) = resume_line tables (resume.Unsound fault)
feed_line tables feed.TooLong = refusal_line (Feed group.FeedTooLong)
feed_line tables feed.Memory = refusal_line Memory

abbrev pub uncompacted_line : Uncompacted → List ℕ
uncompacted_line (refusal.Given given) = refusal_line given
uncompacted_line (refusal.Limit plan stream fault) = limit_line (arc_value plan).tables stream fault
uncompacted_line (refusal.Feed plan fault) = feed_line (arc_value plan).tables fault
