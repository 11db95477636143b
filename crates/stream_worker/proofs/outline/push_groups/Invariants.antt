use Rattle.std.proofs.Common.{◌≡◌, ◌++◌, length, map, take}
use Rattle.std.specs.Arc.{arc_value}
use Rattle.stream_worker.specs.Private.Turns.{groups_of}
use Rattle.stream_worker.proofs.outline.push_groups.Given as goal

-- the groups so far stand behind the list
abbrev pub invariant-loop-ready : goal.invariant-loop-ready
invariant-loop-ready l =
    (map arc_value l.list.items ≡ map arc_value l.fn.list.items ++ groups_of (take l.ready-index l.readies)) × (take (length l.fn.list.items) l.list.items ≡ l.fn.list.items)
