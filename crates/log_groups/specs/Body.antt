-- The bodies of events without rows (MySQL internals manual, "QUERY_EVENT" and "GTID_LOG_EVENT"; MariaDB's
-- knowledge base, "GTID_EVENT" and "XA_PREPARE_LOG_EVENT").
use Rattle.std.specs.Prelude.{ℕ, ◌/◌, ◌%◌, ◌==◌, if◌then◌else◌, Bool, List, Option, Some, None, Result, Ok}
use Rattle.std.specs.Option.{option_map}
use Rattle.list_laws.specs.Outcome.{◌>>=◌}
use Rattle.log_events.specs.Number.{number}
use Rattle.log_tables.specs.declared.fault.TableFault.{TableFault}
use Rattle.log_tables.specs.Part.{front_at}
use Rattle.log_groups.specs.declared.xid.Xid as xid_of
use Rattle.log_groups.specs.declared.xid.Prepared as prepared_of
use Rattle.log_groups.specs.declared.gtid.MariaGtid as maria_of
use Rattle.log_groups.specs.declared.gtid.MysqlGtid as mysql_of
use Rattle.log_groups.specs.declared.query.Query as query_of

-- ---- statements

-- a statement, and the schema in which it was made
pub record QueryValue : Type 0 where
  pub schema : List ℕ
  pub text : List ℕ

abbrev pub query_value : query_of.Query → QueryValue
query_value q = record { schema = q.schema.now; text = q.text.now }

-- thread 4, seconds 4, the schema's size 1, error 2, the variables' size 2; variables, schema, 00, and the text
unfoldable pub query_at : List ℕ → Result QueryValue TableFault
query_at body =
    front_at 13 body >>= λ head. front_at (number 11 2 head.0) head.1 >>= λ variables. front_at (number 8 1 head.0) variables.1 >>= λ schema.
    front_at 1 schema.1 >>= λ end. Ok (record { schema = schema.0; text = end.1 })

-- ---- XA transactions

-- the id of an XA transaction
pub record XidValue : Type 0 where
  pub format : ℕ
  pub global : List ℕ
  pub branch : List ℕ

abbrev pub xid_value : xid_of.Xid → XidValue
xid_value x = record { format = x.format; global = x.global.now; branch = x.branch.now }

-- the format in 4 bytes, the sizes of its two parts in so many each, and both
unfoldable pub xid_at : ℕ → List ℕ → Result (XidValue × List ℕ) TableFault
xid_at width bytes =
    front_at 4 bytes >>= λ format. front_at width format.1 >>= λ first. front_at width first.1 >>= λ second.
    front_at (number 0 width first.0) second.1 >>= λ global. front_at (number 0 width second.0) global.1 >>= λ branch.
    Ok (record { format = number 0 4 format.0; global = global.0; branch = branch.0 }, branch.1)

-- the end of its first half, and whether it is committed at once
pub record PreparedValue : Type 0 where
  pub one_phase : Bool
  pub xid : XidValue

abbrev pub prepared_value : prepared_of.Prepared → PreparedValue
prepared_value p = record { one_phase = p.one_phase; xid = xid_value p.xid }

unfoldable pub prepared_at : List ℕ → Result PreparedValue TableFault
prepared_at body = front_at 1 body >>= λ phase. xid_at 4 phase.1 >>= λ xid. Ok (record { one_phase = number 0 1 phase.0 == 1; xid = xid.0 })

-- ---- positions

-- one of MariaDB: whether a statement alone is the whole transaction, and the XA transaction that is prepared or ended
pub record MariaValue : Type 0 where
  pub sequence : ℕ
  pub domain : ℕ
  pub alone : Bool
  pub xid : Option XidValue

abbrev pub maria_value : maria_of.MariaGtid → MariaValue
maria_value g = record { sequence = g.sequence; domain = g.domain; alone = g.alone; xid = option_map xid_value g.xid }

-- flag 2: the number of a commit that several transactions have in common
abbrev pub behind_commit : ℕ → List ℕ → Result (List ℕ) TableFault
behind_commit flags bytes = if flags / 2 % 2 == 0 then Ok bytes else front_at 8 bytes >>= λ commit. Ok commit.1

-- flags 64 and 128: an XA transaction
abbrev pub maybe_xid : ℕ → List ℕ → Result (Option XidValue) TableFault
maybe_xid flags bytes = if flags / 64 == 0 then Ok None else xid_at 1 bytes >>= λ xid. Ok (Some xid.0)

-- sequence 8, domain 4, flags 1, and what these say
unfoldable pub maria_at : List ℕ → Result MariaValue TableFault
maria_at body =
    front_at 13 body >>= λ head. behind_commit (number 12 1 head.0) head.1 >>= λ rest. maybe_xid (number 12 1 head.0) rest >>= λ xid.
    Ok (record { sequence = number 0 8 head.0; domain = number 8 4 head.0; alone = number 12 1 head.0 % 2 == 1; xid = xid })

-- one of MySQL
pub record MysqlValue : Type 0 where
  pub uuid : List ℕ
  pub transaction : ℕ

abbrev pub mysql_value : mysql_of.MysqlGtid → MysqlValue
mysql_value g = record { uuid = g.uuid.now; transaction = g.transaction }

-- flags 1, uuid 16, number 8, and what isn't needed
unfoldable pub mysql_at : List ℕ → Result MysqlValue TableFault
mysql_at body = front_at 1 body >>= λ flags. front_at 16 flags.1 >>= λ uuid. front_at 8 uuid.1 >>= λ n. Ok (record { uuid = uuid.0; transaction = number 0 8 n.0 })
