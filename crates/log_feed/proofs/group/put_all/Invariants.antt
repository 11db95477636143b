use Rattle.std.proofs.Common.{◌≡◌, map, drop}
use Rattle.log_groups.specs.Transaction.{done_value}
use Rattle.log_feed.specs.Table.{table_value}
use Rattle.log_feed.specs.Group.{told_of_all, with_told}
use Rattle.log_feed.proofs.group.put_all.Given as goal

-- with those that are still to come the events are what they are with all
abbrev pub invariant-loop-done : goal.invariant-loop-done
invariant-loop-done l =
    with_told (told_of_all l.schema (map table_value l.tables) (map done_value (drop l.done-index l.changes)) l.stages.items) (map (λ e. e.items) l.events.items)
    ≡ with_told (told_of_all l.schema (map table_value l.tables) (map done_value l.changes) l.fn.stages.items) (map (λ e. e.items) l.fn.events.items)
