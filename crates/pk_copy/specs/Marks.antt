-- How far the tables of a stream are copied (this profile, after Vitess's `copy_state`).
use Rattle.std.specs.Prelude.{◌≡◌, ◌↔◌, ℕ, ◌+◌, ◌<◌, ◌≤◌, ◌==◌, ◌&&◌, nat_lt, Bool, true, false, IsTrue, Option, Some, None, IfSome, if◌then◌else◌}
use Rattle.std.specs.Option.{option_cmp}
use Rattle.std.specs.Ordering.{nat_cmp, on, then_cmp, is_le, is_gt}
use Rattle.std.specs.declared.cmp.Ordering.{Ordering}
use Rattle.std.specs.declared.cmp.Ordering.TheVariants.{Equal}
use Rattle.pk_copy.specs.KeyValue.{KeyValue}
use Rattle.pk_copy.specs.KeyOrder.{key_cmp}

-- the mark of a table: none of it is copied, its keys up to one are, or all of it is
pub data MarkValue : Type 0 where
  waiting : MarkValue
  up_to : KeyValue → MarkValue
  copied : MarkValue

-- how many tables there are, how many of the first ones are done, and up to which key the next is copied
pub record Marks : Type 0 where
  pub tables : ℕ
  pub done : ℕ
  pub upto : Option KeyValue

-- a key of the first table that isn't done, of which there is one
pub record IsOfCurrent (marks : Marks) (key : KeyValue) : Type 0 where
  pub copying : marks.done < marks.tables
  pub table : key.table ≡ marks.done

-- what every copy state keeps
pub record AreMarks (marks : Marks) : Type 0 where
  pub within : marks.done ≤ marks.tables
  pub current : IfSome marks.upto (IsOfCurrent marks)

-- the mark of the first table that isn't done
abbrev pub current_mark : Option KeyValue → MarkValue
current_mark None = waiting
current_mark (Some key) = up_to key

-- the mark of table t: the first ones are done, then comes the current one, and the others wait
abbrev pub mark_of : Marks → ℕ → MarkValue
mark_of marks t =
    if nat_lt t marks.done then copied else
    if t == marks.done then current_mark marks.upto else waiting

-- ---- keys

-- a mark covers a key of its table
abbrev pub covers : MarkValue → KeyValue → Bool
covers waiting key = false
covers (up_to last) key = is_le (key_cmp key last)
covers copied key = true

-- the key is copied: its table is done, or is copied up to a key that it is at most
abbrev pub is_inside : Marks → KeyValue → Bool
is_inside marks key = covers (mark_of marks key.table) key

-- the key is greater than the last one copied, if there is one
abbrev pub is_beyond : Option KeyValue → KeyValue → Bool
is_beyond None key = true
is_beyond (Some last) key = is_gt (key_cmp key last)

-- the key is still to be copied out of the current table
abbrev pub is_past : Marks → KeyValue → Bool
is_past marks key = nat_lt marks.done marks.tables && (key.table == marks.done && is_beyond marks.upto key)

-- ---- how far on

-- more tables done are above fewer; then a table that is copied up to a key is above one that waits, by that key
abbrev pub marks_cmp : Marks → Marks → Ordering
marks_cmp = then_cmp (on (λ marks. marks.done) nat_cmp) (on (λ marks. marks.upto) (option_cmp key_cmp))

-- marks of as many tables tie exactly where they are equal
abbrev pub MarksTieWhereEqual : Type 0
MarksTieWhereEqual = (x y : Marks) → x.tables ≡ y.tables → (marks_cmp x y ≡ Equal) ↔ (x ≡ y)

-- ---- moves

-- what was inside still is
abbrev pub KeepsInside : Marks → Marks → Type 0
KeepsInside old new = (key : KeyValue) → IsTrue (is_inside old key) → IsTrue (is_inside new key)

-- the current table is copied up to a key
abbrev pub moved_to : KeyValue → Marks → Marks
moved_to key marks = record marks { upto = Some key }

-- the current table is done
abbrev pub next_table : Marks → Marks
next_table marks = record { tables = marks.tables; done = marks.done + 1; upto = None }
