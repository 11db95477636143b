use Rattle.std.proofs.Common.{◌≡◌, ◌||◌, drop, map}
use Rattle.std.specs.Arc.{arc_value}
use Rattle.pk_copy.specs.KeyValue.{KeyValue}
use Rattle.source_feed.specs.History.{touches_in}
use Rattle.live_core.specs.Private.Keys.{has_key, is_touched}
use Rattle.live_core.proofs.touched.put_keys_of_groups.Given as goal

-- the keys so far and those of the groups to come are the keys of all
abbrev pub invariant-loop-group : goal.invariant-loop-group
invariant-loop-group l =
    (key : KeyValue) → (has_key l.keys.keys key || is_touched (touches_in (map arc_value (drop l.group-index l.groups))) key) ≡ (has_key l.fn.keys.keys key || is_touched (touches_in (map arc_value l.groups)) key)
