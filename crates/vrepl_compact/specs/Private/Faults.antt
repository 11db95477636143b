-- A fault of a layer as a refusal of `compact`.
use Rattle.std.specs.Prelude.{◌≡◌, ℕ}
use Rattle.std.specs.Arc.{arc_value}
use Rattle.filter_rule.specs.PlanValue.{PlanValue}
use Rattle.compact_limit.specs.declared.fault.LimitFault.{LimitFault}
use Rattle.compaction.specs.declared.fault.CompactFault.{CompactFault}
use Rattle.vrepl_compact.specs.declared.refusal.Uncompacted.{Uncompacted}
use Rattle.vrepl_compact.specs.declared.refusal.Uncompacted.TheVariants.{Given, Limit, Feed}
use Rattle.vrepl_main.specs.declared.refusal.CommandRefusal.TheVariants.{Memory}

-- the refusal is by this fault in the way of saying how far
abbrev pub IsOfLimit : PlanValue → ℕ → LimitFault → Uncompacted → Type 0
IsOfLimit plan stream fault (Given refusal) = ⊥
IsOfLimit plan stream fault (Limit other at told) = (arc_value other ≡ plan) × (at ≡ stream) × (told ≡ fault)
IsOfLimit plan stream fault (Feed other told) = ⊥

-- it is by this fault of a feed
abbrev pub IsOfFeed : PlanValue → CompactFault → Uncompacted → Type 0
IsOfFeed plan fault (Given refusal) = ⊥
IsOfFeed plan fault (Limit other stream told) = ⊥
IsOfFeed plan fault (Feed other told) = (arc_value other ≡ plan) × (told ≡ fault)

-- it is by such a fault; or memory is wanted where this holds
abbrev pub IsGivenWhere : Type 0 → Uncompacted → Type 0
IsGivenWhere Holds (Given refusal) = (refusal ≡ Memory) × Holds
IsGivenWhere Holds (Limit plan stream told) = Unit {0}
IsGivenWhere Holds (Feed plan told) = Unit {0}
