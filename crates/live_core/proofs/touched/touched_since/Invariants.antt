use Rattle.std.proofs.Common.{◌≡◌, ◌↔◌, true}
use Rattle.pk_copy.specs.KeyValue.{KeyValue}
use Rattle.live_core.specs.Private.Keys.{has_key, IsTouchedBelow}
use Rattle.live_core.proofs.touched.touched_since.Given as goal

-- the keys that the streams so far have touched
abbrev pub invariant-loop-s : goal.invariant-loop-s
invariant-loop-s l = (key : KeyValue) → (has_key l.keys.keys key ≡ true) ↔ IsTouchedBelow l.told l.board key l.s
