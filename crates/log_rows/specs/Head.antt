-- What stands before the rows of a row event (MySQL internals manual, "ROWS_EVENT").
use Rattle.std.specs.Prelude.{ℕ, zero, suc, ◌-◌, ◌==◌, ◌&&◌, if◌then◌else◌, nat_lt, Bool, true, false, List, Option, Some, None, Result, Ok, Err}
use Rattle.list_laws.specs.Outcome.{◌>>=◌}
use Rattle.log_events.specs.Number.{number}
use Rattle.log_tables.specs.Part.{front_at, packed_at}
use Rattle.log_rows.specs.declared.fault.RowFault.{RowFault}
use Rattle.log_rows.specs.declared.fault.RowFault.TheVariants.{CutHead}
use Rattle.log_rows.specs.declared.change.RowsKind.{RowsKind}
use Rattle.log_rows.specs.declared.change.RowsKind.TheVariants.{Write, Update, Delete}
use Rattle.log_rows.specs.declared.head.RowsHead as rows_head
use Rattle.log_rows.specs.Fault.{of_part}
use Rattle.log_rows.specs.Image.{bit_of, bits_size}

-- which rows an event of a type has, and whether it is of the second version, which may say more before them
abbrev pub kind_of_event : ℕ → Option (RowsKind × Bool)
kind_of_event t =
    if t == 23 then Some (Write, false) else if t == 24 then Some (Update, false) else if t == 25 then Some (Delete, false)
    else if t == 30 then Some (Write, true) else if t == 31 then Some (Update, true) else if t == 32 then Some (Delete, true) else None

-- the number of the table, how many columns it has, a bit for each of those that the rows have, of an update once more
-- for those after it, and the rows
pub record HeadValue : Type 0 where
  pub table : ℕ
  pub count : ℕ
  pub present : List ℕ
  pub present_after : List ℕ
  pub rows : List ℕ

abbrev pub head_value : rows_head.RowsHead → HeadValue
head_value h = record { table = h.table; count = h.count; present = h.present.now; present_after = h.present_after.now; rows = h.rows.now }

-- what the second version says more: its size in 2 bytes that it counts itself
abbrev pub more_at : Bool → List ℕ → Result (List ℕ) RowFault
more_at false bytes = Ok bytes
more_at true bytes =
    of_part (front_at 2 bytes) >>= λ size. if nat_lt (number 0 2 size.0) 2 then Err CutHead else of_part (front_at (number 0 2 size.0 - 2) size.1) >>= λ more. Ok more.1

-- the bits of the columns after a change, which only an update tells apart
abbrev pub after_at : RowsKind → ℕ → List ℕ → List ℕ → Result (List ℕ × List ℕ) RowFault
after_at Write size present bytes = Ok (present, bytes)
after_at Update size present bytes = of_part (front_at size bytes)
after_at Delete size present bytes = Ok (present, bytes)

-- the head of a body: the number in 6 bytes, flags in 2, what the second version says, and the columns
unfoldable pub head_at : RowsKind → Bool → List ℕ → Result HeadValue RowFault
head_at kind second body =
    of_part (front_at 8 body) >>= λ head. more_at second head.1 >>= λ columns. of_part (packed_at columns) >>= λ count.
    of_part (front_at (bits_size count.0) count.1) >>= λ present. after_at kind (bits_size count.0) present.0 present.1 >>= λ after.
    Ok (record { table = number 0 6 head.0; count = count.0; present = present.0; present_after = after.0; rows = after.1 })

-- the first bits are 1, so many of them
unfoldable pub are_all : ℕ → List ℕ → Bool
are_all zero bits = true
are_all (suc n) bits = bit_of bits n && are_all n bits

-- the rows have all columns of a table that has so many, one at least
abbrev pub has_all : ℕ → HeadValue → Bool
has_all columns head = (head.count == columns) && nat_lt 0 columns && are_all columns head.present && are_all columns head.present_after
