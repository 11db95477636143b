-- Checkpoints that go on behind the group up to which a feed is compacted, and refusals by what stands in the way of it.
use Rattle.std.proofs.Common.{◌≡◌, ◌⊎◌, ℕ, ◌-◌, ◌<◌, ◌≤◌, List, Option, None, Some, option_map, Result, Ok, Err, refl, sym, ap, subst, ◌∙◌, inl, inr, arith}
use Rattle.std.proofs.lemmas.Option.{none-some, same_Some}
use Rattle.std.specs.Prelude.{IfErr, IfOk, IfSome}
use Rattle.std.specs.List.{AllByRecursion}
use Rattle.list_laws.proofs.Fronts.{each}
use Rattle.filter_rule.specs.PlanValue.{PlanValue}
use Rattle.source_feed.specs.GroupValue.{Position}
use Rattle.source_feed.specs.Planned.{FeedValue, PlannedGroupValue}
use Rattle.source_feed.specs.Positions.{IsNumberAt, HasGroupAt}
use Rattle.source_feed.specs.Touches.{group_at}
use Rattle.compaction.specs.Compacting.{IsCause}
use Rattle.compaction.specs.declared.fault.CompactFault.{CompactFault}
use Rattle.compaction_laws.specs.Laws.{IsFromBaseOn}
use Rattle.compact_limit.specs.Least.{StandsBehind}
use Rattle.compact_limit.specs.Limit.{StandsAt}
use Rattle.compact_limit.specs.Refused.{meant_of, IsRefusedLimit, WantsMemory}
use Rattle.compact_limit.specs.declared.fault.LimitFault.{LimitFault}
use Rattle.compact_limit.specs.declared.fault.LimitFault.TheVariants as limit
use Rattle.vrepl_main.specs.InputList.{bytes_of}
use Rattle.vrepl_compact.specs.Asked.{AskedFeed}
use Rattle.vrepl_compact.specs.Compacted.{GoesOnBehind, IsLastReplaced, IsUnlimited, RefusesCompact, position_named}
use Rattle.vrepl_compact.specs.Private.Faults.{IsGivenWhere, IsOfLimit, IsOfFeed}
use Rattle.vrepl_compact.specs.Told.{told_line}
use Rattle.vrepl_compact.specs.declared.inputs.CompactInputs.{CompactInputs}
use Rattle.vrepl_compact.specs.declared.refusal.Uncompacted.{Uncompacted}
use Rattle.vrepl_compact.specs.declared.refusal.Uncompacted.TheVariants.{Given, Limit, Feed}

-- ---- checkpoints

-- no group has the number 0
none_at_zero : {P : Type 0} (feed : FeedValue) (position : Position) (number : ℕ) → number ≡ 0 → HasGroupAt feed position number → P
none_at_zero feed position number zero has = absurd (none-some has.group (ap (group_at feed) (sym zero) ∙ has.there))

from_base_on : (feed : FeedValue) (groups other : ℕ) (position : Position) → 0 < groups → IsNumberAt feed position other → (other ≡ 0) ⊎ (groups ≤ other) → IsFromBaseOn feed (groups - 1) position
from_base_on feed groups other position some (inl empty) or = inl empty.0
from_base_on feed groups other position some (inr has) (inl zero) = none_at_zero feed position other zero has
from_base_on feed groups other position some (inr has) (inr behind) = inr (other, omega (arith, some, behind), inr has)

goes_on : (plans : List PlanValue) (feed : FeedValue) (stream groups : ℕ) → 0 < groups → (checkpoint : List ℕ) → StandsBehind (StandsAt plans feed stream) groups checkpoint → GoesOnBehind plans feed stream (groups - 1) checkpoint
goes_on plans feed stream groups some checkpoint (other, (one, said, stands), or) = (one, said, from_base_on feed groups other one.position some stands or)

-- what stands behind the group up to which a feed is compacted goes on
pub all_go_on : (inputs : CompactInputs) (asked : AskedFeed) (groups : ℕ) → 0 < groups → IsLastReplaced inputs asked groups
    → AllByRecursion (GoesOnBehind asked.plans asked.feed inputs.stream (groups - 1)) (bytes_of inputs.checkpoints.items)
all_go_on inputs asked groups some (named, is_named, least) =
    each (StandsBehind (StandsAt asked.plans asked.feed inputs.stream) groups) (GoesOnBehind asked.plans asked.feed inputs.stream (groups - 1)) (goes_on asked.plans asked.feed inputs.stream groups some)
    (bytes_of inputs.checkpoints.items) least.behind

-- ---- refusals

-- a fault in the way of saying how far, or where memory was wanted
unlimited_by : (inputs : CompactInputs) (asked : AskedFeed) (fault : LimitFault)
    → IfSome (meant_of fault) (IsRefusedLimit asked.plans asked.feed inputs.stream (position_named inputs) (bytes_of inputs.checkpoints.items))
    → (fault ≡ limit.Memory → WantsMemory asked.plans asked.feed inputs.stream (position_named inputs) (bytes_of inputs.checkpoints.items)) → IsUnlimited inputs asked fault
unlimited_by inputs asked (limit.BadPosition cause) refused wanted = refused
unlimited_by inputs asked limit.PositionUnknown refused wanted = refused
unlimited_by inputs asked limit.CheckpointBad refused wanted = refused
unlimited_by inputs asked limit.Memory refused wanted = wanted refl

pub all_unlimited : (inputs : CompactInputs) (plans : List PlanValue) (feed : FeedValue) (r : Result ℕ LimitFault)
    → IfErr r (λ fault. IfSome (meant_of fault) (IsRefusedLimit plans feed inputs.stream (position_named inputs) (bytes_of inputs.checkpoints.items)))
    → (r ≡ Err limit.Memory → WantsMemory plans feed inputs.stream (position_named inputs) (bytes_of inputs.checkpoints.items))
    → IfErr r (λ fault. (bytes : List ℕ) → IsUnlimited inputs (record { plans = plans; bytes = bytes; feed = feed }) fault)
all_unlimited inputs plans feed (Ok number) refused wanted = tt
all_unlimited inputs plans feed (Err fault) refused wanted = λ bytes. unlimited_by inputs (record { plans = plans; bytes = bytes; feed = feed }) fault refused (λ is. wanted (ap Err is))

pub of_limit : (inputs : CompactInputs) (asked : AskedFeed) (fault : LimitFault) (uncompacted : Uncompacted) → IsOfLimit asked.feed.plan inputs.stream fault uncompacted → IsUnlimited inputs asked fault
    → RefusesCompact inputs uncompacted (Ok asked)
of_limit inputs asked fault (Given refusal) is refused = absurd is
of_limit inputs asked fault (Limit plan stream told) is refused = (is.0, is.1, subst (IsUnlimited inputs asked) (sym is.2) refused)
of_limit inputs asked fault (Feed plan told) is refused = absurd is

pub of_feed : (inputs : CompactInputs) (asked : AskedFeed) (number : ℕ) (fault : CompactFault) (uncompacted : Uncompacted) → IsOfFeed asked.feed.plan fault uncompacted → IsLastReplaced inputs asked number
    → IsCause asked.feed asked.bytes inputs.unknown number fault → RefusesCompact inputs uncompacted (Ok asked)
of_feed inputs asked number fault (Given refusal) is last cause = absurd is
of_feed inputs asked number fault (Limit plan stream told) is last cause = absurd is
of_feed inputs asked number fault (Feed plan told) is last cause = (is.0, (number, last, subst (IsCause asked.feed asked.bytes inputs.unknown number) (sym is.1) cause))

-- neither is want of memory
pub limit_given : (Holds : Type 0) (plan : PlanValue) (stream : ℕ) (fault : LimitFault) (uncompacted : Uncompacted) → IsOfLimit plan stream fault uncompacted → IsGivenWhere Holds uncompacted
limit_given Holds plan stream fault (Given refusal) is = absurd is
limit_given Holds plan stream fault (Limit other at told) is = tt
limit_given Holds plan stream fault (Feed other told) is = tt

pub feed_given : (Holds : Type 0) (plan : PlanValue) (fault : CompactFault) (uncompacted : Uncompacted) → IsOfFeed plan fault uncompacted → IsGivenWhere Holds uncompacted
feed_given Holds plan fault (Given refusal) is = absurd is
feed_given Holds plan fault (Limit other stream told) is = tt
feed_given Holds plan fault (Feed other told) is = tt

-- ---- what is told

-- a line of the position that the feed has of a group is of this group
pub told_at : (group : Option PlannedGroupValue) (position : Position) (groups rows old new : ℕ) (line : List ℕ) → Some position ≡ option_map (λ (g : PlannedGroupValue). g.position) group
    → line ≡ told_line groups position rows old new → IfSome group (λ g. line ≡ told_line groups g.position rows old new)
told_at None position groups rows old new line at is = tt
told_at (Some group) position groups rows old new line at is = is ∙ ap (λ (p : Position). told_line groups p rows old new) (same_Some position group.position at)

pub told_ok : {L E : Type 0} (text : L → List ℕ) (group : Option PlannedGroupValue) (position : Position) (groups rows old new : ℕ) (r : Result L E) → Some position ≡ option_map (λ (g : PlannedGroupValue). g.position) group
    → IfOk r (λ line. text line ≡ told_line groups position rows old new) → IfOk r (λ line. IfSome group (λ g. text line ≡ told_line groups g.position rows old new))
told_ok text group position groups rows old new (Ok line) at is = told_at group position groups rows old new (text line) at is
told_ok text group position groups rows old new (Err fault) at is = tt
