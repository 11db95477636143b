use Rattle.std.proofs.Common.{◌≡◌, ◌++◌, drop}
use Rattle.vrepl_c.specs.PlanBytes.{each_place}
use Rattle.vrepl_c.proofs.plan.push_each.Given as goal

-- the bytes so far and those of the places that are left are the whole
abbrev pub invariant-loop-place : goal.invariant-loop-place
invariant-loop-place l = l.into.items ++ each_place (drop l.place-index l.places) ≡ l.fn.into.items ++ each_place l.places
