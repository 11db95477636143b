use Rattle.std.proofs.Common.{◌≡◌, ◌++◌, ◌+◌, drop, map}
use Rattle.check_said.specs.Items.{names_items}
use Rattle.check_said.proofs.items.push_names.Given as goal

-- what is told so far, and the names that are left, are the whole
abbrev pub invariant-loop-name : goal.invariant-loop-name
invariant-loop-name l = l.told.items ++ names_items l.i (map (λ name. name.now) (drop l.name-index l.names)) ≡ l.fn.told.items ++ names_items l.i (map (λ name. name.now) l.names)
