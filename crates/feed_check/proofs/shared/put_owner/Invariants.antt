use Rattle.std.proofs.Common.{◌≡◌, map, take}
use Rattle.std.specs.Arc.{arc_value}
use Rattle.pk_copy.specs.KeyValue.{KeyValue}
use Rattle.feed_check.specs.Private.Owners.{owner_after}
use Rattle.feed_check.specs.Private.Replayed.{row_in}
use Rattle.feed_check.specs.Shared.{touches_key}
use Rattle.feed_check.proofs.shared.put_owner.Given as goal

-- each key that the groups so far touch has the stream
abbrev pub invariant-loop-group : goal.invariant-loop-group
invariant-loop-group l = (key : KeyValue) → row_in l.owners key ≡ owner_after l.i (touches_key (map arc_value (take l.group-index l.groups)) key) (row_in l.fn.owners key)
