-- What a transaction adds to the position before it (MySQL manual, "GTID Sets"; of MariaDB, this profile).
use Rattle.std.specs.Prelude.{ℕ, ◌+◌, ◌^◌, ◌&&◌, nat_lt, nat_le, if◌then◌else◌, List, length, take, Option, Some, None, Result, Ok, Err}
use Rattle.std.specs.Int.{w128, from_be_bytes}
use Rattle.gtid_set.specs.declared.interval.Interval.{Interval}
use Rattle.gtid_set.specs.Position.{last_number}
use Rattle.log_groups.specs.Step.{GtidValue, Maria, Mysql}
use Rattle.log_places.specs.declared.fault.PlaceFault.{PlaceFault}
use Rattle.log_places.specs.declared.fault.PlaceFault.TheVariants.{NoNumber}

-- the uuid of 16 bytes, the highest first
abbrev pub uuid_of : List ℕ → Option ℕ
uuid_of bytes = if nat_lt (length bytes) 16 then None else Some (from_be_bytes w128 (take 16 bytes))

-- the uuid of a domain of MariaDB, which has none: 6d617269-6164-6200-8000- and the domain in twelve digits
abbrev pub domain_uuid : ℕ → ℕ
domain_uuid domain = 0x6d617269616462008000000000000000 + domain

-- the numbers of a uuid, which has 128 bits, from a first to a last one, where they are numbers of transactions
abbrev pub span : ℕ → ℕ → ℕ → Result Interval PlaceFault
span uuid first last = if nat_lt uuid (2 ^ 128) && nat_le 1 first && nat_le first last && nat_le last last_number then Ok (record { uuid = uuid; first = first; last = last }) else Err NoNumber

abbrev pub single : ℕ → Option ℕ → Result Interval PlaceFault
single n None = Err NoNumber
single n (Some uuid) = span uuid n n

-- One of MariaDB adds all numbers of its domain up to its own, since those never come again that the log doesn't have;
-- one of MySQL its own number, since these may come in any order.
abbrev pub added_by : GtidValue → Result Interval PlaceFault
added_by (Maria g) = span (domain_uuid g.domain) 1 g.sequence
added_by (Mysql g) = single g.transaction (uuid_of g.uuid)
