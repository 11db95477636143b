-- Whose feed it is, and the names of its tables (this profile).
use Rattle.std.specs.Prelude.{ℕ, ◌&&◌, List, [], ◌∷◌, ◌++◌, length, drop, take, Option, None, Some, if◌then◌else◌}
use Rattle.std.specs.Str.{bytes_eq}
use Rattle.vevent.specs.EventValue.{ShardGtidValue}

-- the keyspace and the shard that a feed was recorded from
pub record SourceValue : Type 0 where
  pub keyspace : List ℕ
  pub shard : List ℕ

-- a name without the prefix, where it starts with it
abbrev pub without_prefix : List ℕ → List ℕ → List ℕ
without_prefix prefix name = if bytes_eq prefix (take (length prefix) name) then drop (length prefix) name else name

-- A table's name: where it starts with the feed's keyspace and a dot it loses both, once; an empty
-- keyspace drops nothing.
abbrev pub short_name : List ℕ → List ℕ → List ℕ
short_name [] name = name
short_name (b ∷ keyspace) name = without_prefix ((b ∷ keyspace) ++ 46 ∷ []) name

abbrev pub table_in_source : SourceValue → List ℕ → List ℕ
table_in_source source name = short_name source.keyspace name

-- the position text of a VGTID: it has exactly one entry, that of the feed's own keyspace and shard
abbrev pub own_gtid : SourceValue → List ShardGtidValue → Option (List ℕ)
own_gtid source [] = None
own_gtid source (entry ∷ []) = if bytes_eq entry.keyspace source.keyspace && bytes_eq entry.shard source.shard then Some entry.gtid else None
own_gtid source (entry ∷ other ∷ more) = None
