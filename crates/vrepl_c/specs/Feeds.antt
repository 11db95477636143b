-- What a feed says that C gives, or the number of its refusal (this profile).
use Rattle.std.specs.Prelude.{ℕ, List, Result, Ok, Err}
use Rattle.std.specs.Result.{result_map_both}
use Rattle.std.specs.Option.{ok_or}
use Rattle.list_laws.specs.Outcome.{◌>>=◌}
use Rattle.source_feed.specs.FaultNumber.{number_of}
use Rattle.source_feed.specs.GroupValue.{GroupValue}
use Rattle.source_feed.specs.Groups.{groups}
use Rattle.vrepl_c.specs.Readers.{text_of}

-- the groups of a feed that was recorded from a shard of a keyspace
abbrev pub groups_under : List ℕ → List ℕ → List ℕ → Result (List GroupValue) ℕ
groups_under feed keyspace shard = result_map_both (λ all. all) number_of (groups feed (record { keyspace = keyspace; shard = shard }))

-- the same, the names as C gives them
abbrev pub groups_of : List ℕ → List ℕ → List ℕ → Result (List GroupValue) ℕ
groups_of feed keyspace shard = ok_or (text_of keyspace) 24 >>= λ name. ok_or (text_of shard) 24 >>= λ range. groups_under feed name range
