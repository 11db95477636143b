-- A plan to which tables were added: those of before stand in front, and mean what they meant.
use Rattle.std.specs.Prelude.{◌≡◌, ◌<◌, List, length, take}
use Rattle.filter_rule.specs.PlanValue.{PlanValue}

-- the list begins with these
abbrev pub BeginsWith : {A : Type 0} → List A → List A → Type 0
BeginsWith front whole = take (length front) whole ≡ front

-- the new plan is the old one with one or more tables behind its last, all else the same for the old
-- tables: their columns, types, keys, vindexes, kept columns, and the rows that pass
pub record IsExtended (old new : PlanValue) : Type 0 where
  pub keyspace : new.keyspace ≡ old.keyspace
  pub shard : new.shard ≡ old.shard
  pub more : length old.tables < length new.tables
  pub tables : BeginsWith old.tables new.tables
  pub decisions : BeginsWith old.decisions new.decisions
