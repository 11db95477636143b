-- How the position of a shard in the program is seen.
use Rattle.vevent.specs.declared.vgtid_event.ShardGtid.{ShardGtid}
use Rattle.vevent.specs.EventValue.{ShardGtidValue}

-- a position by the bytes of its three texts
abbrev pub shard_gtid_value : ShardGtid → ShardGtidValue
shard_gtid_value g = record { keyspace = g.keyspace.now; shard = g.shard.now; gtid = g.gtid.now }
