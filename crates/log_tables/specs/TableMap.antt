-- The body of a table map (MySQL internals manual, "TABLE_MAP_EVENT").
use Rattle.std.specs.Prelude.{ℕ, ◌+◌, ◌/◌, ◌==◌, if◌then◌else◌, List, length, Result, Ok, Err}
use Rattle.list_laws.specs.Outcome.{◌>>=◌}
use Rattle.log_events.specs.Number.{number}
use Rattle.log_tables.specs.declared.fault.TableFault.{TableFault}
use Rattle.log_tables.specs.declared.fault.TableFault.TheVariants.{CutBody}
use Rattle.log_tables.specs.declared.map.TableMap as table_map
use Rattle.log_tables.specs.Part.{front_at, counted_at}

-- the number of a table in the events behind the map, its names, and its columns: their types, what these need
-- beside them, and what a server may tell beyond it
pub record MapValue : Type 0 where
  pub table : ℕ
  pub schema : List ℕ
  pub name : List ℕ
  pub types : List ℕ
  pub metadata : List ℕ
  pub extra : List ℕ

-- how a table map of the program is seen
abbrev pub map_value : table_map.TableMap → MapValue
map_value m = record { table = m.table; schema = m.schema.now; name = m.name.now; types = m.types.now; metadata = m.metadata.now; extra = m.extra.now }

-- a name: its size in a byte, the name and 00; and what stands behind it
unfoldable pub name_at : List ℕ → Result (List ℕ × List ℕ) TableFault
name_at bytes =
    front_at 1 bytes >>= λ count. front_at (number 0 1 count.0) count.1 >>= λ name. front_at 1 name.1 >>= λ end.
    if number 0 1 end.0 == 0 then Ok (name.0, end.1) else Err CutBody

-- The table map of a body: the number in 6 bytes, flags in 2, both names, the types behind their count, what they
-- need beside them behind its size, a bit for each column that may be NULL, and the rest.
unfoldable pub map_at : List ℕ → Result MapValue TableFault
map_at body =
    front_at 8 body >>= λ head. name_at head.1 >>= λ schema. name_at schema.1 >>= λ name. counted_at name.1 >>= λ types. counted_at types.1 >>= λ metadata.
    front_at ((length types.0 + 7) / 8) metadata.1 >>= λ nulls.
    Ok (record { table = number 0 6 head.0; schema = schema.0; name = name.0; types = types.0; metadata = metadata.0; extra = nulls.1 })
