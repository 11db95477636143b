use Rattle.std.proofs.Common.{◌≡◌, map, drop}
use Rattle.log_groups.specs.Body.{query_value}
use Rattle.log_feed.specs.Table.{table_value}
use Rattle.log_feed.specs.Group.{altered_from}
use Rattle.log_feed.proofs.group.alter_all.Given as goal

-- from this place on the statement makes of the stages what it makes of the first ones
abbrev pub invariant-loop-place : goal.invariant-loop-place
invariant-loop-place l =
    altered_from l.place l.schema (query_value l.query) (map table_value (drop l.place l.tables)) l.stages.items ≡ altered_from 0 l.schema (query_value l.query) (map table_value l.tables) l.fn.stages.items
