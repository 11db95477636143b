use Rattle.std.proofs.Common.{◌≡◌, map, take}
use Rattle.apply_core.specs.Private.Changes.{kept_change, lent_change}
use Rattle.apply_core.proofs.puts.owned_changes.Given as goal

-- the puts so far are the changes so far, with their kept columns
abbrev pub invariant-loop-key : goal.invariant-loop-key
invariant-loop-key l = l.puts.items ≡ map (kept_change l.plan) (map lent_change (take l.key-index l.key-items))
