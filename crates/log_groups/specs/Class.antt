-- What an event is to a reader of transactions, by its type (MySQL's `Log_event_type`, MariaDB's from 160 on).
use Rattle.std.specs.Prelude.{ℕ, ◌/◌, ◌%◌, ◌==◌, ◌&&◌, ◌||◌, nat_le, if◌then◌else◌, Bool, Option, Some, None}
use Rattle.log_rows.specs.declared.change.RowsKind.{RowsKind}
use Rattle.log_rows.specs.Head.{kind_of_event}
use Rattle.log_groups.specs.declared.class.EventClass.{EventClass}
use Rattle.log_groups.specs.declared.class.EventClass.TheVariants.{Query, Xid, Description, TableMap, Rows, MariaGtid, MariaList, MysqlGtid, MysqlList, XaPrepare, Skipped, Refused}

-- The number by which an event is refused that can't be told as rows: LOAD DATA as a statement, an incident, a
-- transaction without a position, rows of which parts are told, packed or encrypted events, positions with tags.
abbrev pub refusal_of : ℕ → Option ℕ
refusal_of t =
    if (t == 6) || (t == 9) || (t == 11) || (t == 17) || (t == 18) then Some 151
    else if t == 26 then Some 154
    else if t == 34 then Some 157
    else if t == 39 then Some 147
    else if (t == 40) || (t == 164) then Some 153
    else if nat_le 165 t && nat_le t 171 then Some 153
    else if t == 42 then Some 155 else None

-- STOP, ROTATE, values that a statement used, HEARTBEAT, the text of a statement, a checkpoint of logs
abbrev pub is_skipped : ℕ → Bool
is_skipped t = (t == 3) || (t == 4) || (t == 5) || (t == 13) || (t == 14) || (t == 27) || (t == 160) || (t == 161)

abbrev pub known_class : ℕ → Option EventClass
known_class t =
    if t == 2 then Some Query else if t == 16 then Some Xid else if t == 15 then Some Description else if t == 19 then Some TableMap
    else if t == 162 then Some MariaGtid else if t == 163 then Some MariaList else if t == 33 then Some MysqlGtid
    else if t == 35 then Some MysqlList else if t == 38 then Some XaPrepare else None

-- where it is neither known nor refused: an event may be skipped that its flag says is ignorable
abbrev pub other_class : Option EventClass → ℕ → ℕ → EventClass
other_class (Some class) t flags = class
other_class None t flags = if is_skipped t || (flags / 128 % 2 == 1) then Skipped else Refused 155

abbrev pub refused_class : Option ℕ → ℕ → ℕ → EventClass
refused_class (Some number) t flags = Refused number
refused_class None t flags = other_class (known_class t) t flags

-- rows, and else by its type
abbrev pub rows_or : Option (RowsKind × Bool) → ℕ → ℕ → EventClass
rows_or (Some k) t flags = Rows k.0 k.1
rows_or None t flags = refused_class (refusal_of t) t flags

-- what an event of a type with these flags is
unfoldable pub class_of : ℕ → ℕ → EventClass
class_of t flags = rows_or (kind_of_event t) t flags
