-- What a plan means, from the parts that it keeps.
use Rattle.std.specs.Prelude.{String, Vec, string_bytes}
use Rattle.std.specs.Arc.{arc_value}
use Rattle.std.specs.declared.sync.Arc.{Arc}
use Rattle.std.specs.declared.alloc.Global.{Global}
use Rattle.filter_rule.specs.PlanValue.{PlanValue}
use Rattle.filter_rule.specs.declared.decision.Decision.{Decision}
use Rattle.filter_rule.specs.declared.plan.Schema.{Schema}

abbrev pub plan_value : Arc Schema Global → String Global → Vec Decision Global → PlanValue
plan_value schema shard decisions = record { keyspace = string_bytes (arc_value schema).keyspace; shard = string_bytes shard; tables = (arc_value schema).tables.items; decisions = decisions.items }
