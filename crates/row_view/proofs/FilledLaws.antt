-- What is said of a message that was read, and what a view of it keeps.
use Rattle.std.proofs.Common.{◌≡◌, ℕ, ◌^◌, ◌<◌, ◌≤◌, List, [], length, take, Option, Err, sym, ap, ◌∙◌, arith}
use Rattle.std.specs.List.{filter_map}
use Rattle.std.proofs.lemmas.List.{take_all}
use Rattle.row_view.specs.declared.fault.RowFault.TheVariants.{TooManyColumns, LengthsPastValues}
use Rattle.row_view.specs.declared.count.Count.{Count}
use Rattle.row_view.specs.declared.marks.Mark.{Mark}
use Rattle.row_view.specs.declared.found.TheConstants.{VALUES}
use Rattle.proto_wire.specs.declared.fault.WireFault.{WireFault}
use Rattle.proto_wire.specs.Reading.{Reading}
use Rattle.proto_wire.specs.Field.{WireField}
use Rattle.proto_wire.specs.Parts.{part_in, last_of}
use Rattle.row_view.specs.RowFields.{lengths_of, fault_of, row_lengths, row_values}
use Rattle.row_view.specs.Row.{size_of_all, columns_over, columns_in, row_of_message}
use Rattle.row_view.specs.Private.Counted.{IsFound}
use Rattle.row_view.specs.Private.Kept.{IsKept}
use Rattle.row_view.proofs.ColumnLaws.{length-columns_over}
use Rattle.row_view.proofs.ReadLaws.{no_fields}
use Rattle.row_view.proofs.RowLaws.{row_of_message-too_many, row_of_message-past_values, row_of_message-row}

found_count : (bytes values : List ℕ) (count : Count) (marks : List Mark) → IsFound bytes values count marks → count.columns ≡ length (row_lengths bytes)
found_count bytes values count marks found = omega (arith, found.counted.all)

found_sum : (bytes values : List ℕ) (count : Count) (marks : List Mark) → IsFound bytes values count marks → size_of_all (take count.columns (row_lengths bytes)) ≡ size_of_all (row_lengths bytes)
found_sum bytes values count marks found = ap (λ (k : ℕ). size_of_all (take k (row_lengths bytes))) (found_count bytes values count marks found) ∙ ap size_of_all (take_all (length (row_lengths bytes)) (row_lengths bytes) (omega arith))

pub too_many : (bytes values : List ℕ) (count : Count) (marks : List Mark) → length bytes ≤ 2 ^ 24 → IsFound bytes values count marks → 256 < count.columns → row_of_message bytes ≡ Err TooManyColumns
too_many bytes values count marks size found many = row_of_message-too_many bytes size found.whole (omega (arith, many, found_count bytes values count marks found))

pub past_values : (bytes values : List ℕ) (count : Count) (marks : List Mark) → length bytes ≤ 2 ^ 24 → IsFound bytes values count marks → count.columns ≤ 256 → length values < count.bytes → row_of_message bytes ≡ Err LengthsPastValues
past_values bytes values count marks size found few past =
    let values_long : length values ≡ length (row_values bytes) = ap length found.values_are in
    row_of_message-past_values bytes size found.whole (omega (arith, few, found_count bytes values count marks found))
    (omega (arith, values_long, past, size, found.short, found.counted.bytes_are, found_sum bytes values count marks found))

pub filled : (bytes values : List ℕ) (count : Count) (marks : List Mark) → length bytes ≤ 2 ^ 24 → IsFound bytes values count marks → count.columns ≤ 256 → count.bytes ≤ length values → IsKept bytes values count.columns marks
filled bytes values count marks size found few within =
    let values_long : length values ≡ length (row_values bytes) = ap length found.values_are in
    record {
      good = row_of_message-row bytes size found.whole (omega (arith, few, found_count bytes values count marks found))
          (omega (arith, values_long, within, size, found.short, found.counted.bytes_are, found_sum bytes values count marks found));
      values_are = found.values_are;
      short = omega (arith, size, found.short);
      counted = found_count bytes values count marks found;
      marked = λ some. found.counted.marks_are;
    }

-- ---- a row without columns

no_lengths : row_lengths [] ≡ []
no_lengths = ap (λ (r : Reading WireField WireFault). lengths_of r.items) no_fields

no_values : row_values [] ≡ []
no_values = ap (λ (r : Reading WireField WireFault). last_of [] (filter_map (part_in VALUES) r.items)) no_fields

pub no_columns : columns_in [] ≡ []
no_columns = ap (columns_over (row_values [])) no_lengths

pub empty_kept : (marks : List Mark) → IsKept [] [] 0 marks
empty_kept marks =
    let count : length (row_lengths []) ≡ 0 = ap length no_lengths in
    let sum : size_of_all (row_lengths []) ≡ 0 = ap size_of_all no_lengths in
    record {
      good = row_of_message-row [] (omega arith) (ap fault_of no_fields) (omega (arith, count)) (omega (arith, sum));
      values_are = sym no_values;
      short = omega arith;
      counted = sym count;
      marked = λ some. absurd (omega (arith, some));
    }

-- a view without columns keeps none of its marks
pub still_kept : (message values : List ℕ) (columns : ℕ) (marks others : List Mark) (row : List (Option (List ℕ))) → IsKept message values columns marks → columns_in message ≡ row → row ≡ [] → IsKept message values columns others
still_kept message values columns marks others row kept is none =
    let count : 0 ≡ length (row_lengths message) = ap length (sym (is ∙ none)) ∙ length-columns_over (row_values message) (row_lengths message) in
    record {
      good = kept.good;
      values_are = kept.values_are;
      short = kept.short;
      counted = kept.counted;
      marked = λ some. absurd (omega (arith, some, count, kept.counted));
    }
