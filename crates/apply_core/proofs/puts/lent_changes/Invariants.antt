use Rattle.std.proofs.Common.{◌≡◌, map, take}
use Rattle.std.specs.List.{filter}
use Rattle.pk_copy.specs.Marks.{is_inside}
use Rattle.apply_core.specs.Private.Changes.{change_of, lent_change}
use Rattle.apply_core.proofs.puts.lent_changes.Given as goal

-- the changes so far are those of the touches so far
abbrev pub invariant-loop-touch : goal.invariant-loop-touch
invariant-loop-touch l = map lent_change l.changes.items ≡ map change_of (filter (λ touch. is_inside l.marks touch.0) (take l.touch-index l.touches))
