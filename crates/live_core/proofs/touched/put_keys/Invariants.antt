use Rattle.std.proofs.Common.{◌≡◌, ◌||◌, drop}
use Rattle.pk_copy.specs.KeyValue.{KeyValue}
use Rattle.live_core.specs.Private.Keys.{has_key, is_touched}
use Rattle.live_core.proofs.touched.put_keys.Given as goal

-- the keys so far and those of the touches to come are the keys of all
abbrev pub invariant-loop-touch : goal.invariant-loop-touch
invariant-loop-touch l = (key : KeyValue) → (has_key l.keys.keys key || is_touched (drop l.touch-index l.touches) key) ≡ (has_key l.fn.keys.keys key || is_touched l.touches key)
