-- What a block does to the groups before it, said by the last group alone.
use Rattle.std.specs.Prelude.{ℕ, ◌+◌, ◌-◌, List, [], ◌∷◌, ◌++◌, length, slice_get, Result, Ok, Err, if◌then◌else◌}
use Rattle.std.specs.Option.{option_map_or}
use Rattle.gtid_set.specs.Position.{within_of}
use Rattle.source_feed.specs.declared.fault.FeedFault.{FeedFault}
use Rattle.source_feed.specs.declared.fault.FeedFault.TheVariants.{Diverged}
use Rattle.source_feed.specs.GroupValue.{Position}
use Rattle.source_feed.specs.Private.KeptGroups.{KeptChangeValue, KeptGroupValue}

-- the position of the last group, or the one that is reached before them
abbrev pub last_position : Position → List KeptGroupValue → Position
last_position start groups = option_map_or (λ group. group.position) (slice_get groups (length groups - 1)) start

-- the groups with the block behind them, if it is kept, or why it can't end there; before them stand so many others, behind
-- which this position is reached
abbrev pub block_end : ℕ → Position → List KeptGroupValue → Position → List KeptChangeValue → Result (List KeptGroupValue) FeedFault
block_end before start groups position changes =
    if within_of position (last_position start groups) then Ok groups else
    if within_of (last_position start groups) position then Ok (groups ++ record { number = before + length groups + 1; position = position; changes = changes } ∷ []) else
    Err (Diverged (before + length groups + 1))
