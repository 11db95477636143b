-- Marks one after another, and what is found from one.
use Rattle.std.proofs.Common.{◌≡◌, ◌≢◌, ℕ, zero, suc, ℤ, pos, negsuc, ◌+◌, ◌-◌, ◌*◌, ◌/◌, ◌%◌, ◌^◌, ◌<◌, ◌≤◌, inl, inr, List, [], ◌∷◌, length, take, drop, Some, refl, sym, ap, ◌∙◌, arith}
use Rattle.std.specs.Prelude.{slice_get, slice_set, min}
use Rattle.std.proofs.lemmas.Bool.{cases_lt}
use Rattle.std.proofs.lemmas.List.{length-set, length-drop, drop-drop}
use Rattle.std.proofs.lemmas.Option.{slice_get_within}
use Rattle.row_view.specs.declared.marks.Mark.{Mark}
use Rattle.row_view.specs.declared.count.Count.{Count}
use Rattle.row_view.specs.RowFields.{row_lengths, row_values}
use Rattle.row_view.specs.Row.{RowValue, size_of_all, columns_over, columns_in}
use Rattle.row_view.specs.Private.Marks.{IsPlace, IsMark, AreMarks, lengths_left, lengths_from}
use Rattle.row_view.specs.Private.Counted.{IsCounted}
use Rattle.row_view.specs.Private.Kept.{IsGood, IsKept}
use Rattle.row_view.proofs.ColumnLaws.{length-columns_over}
use Rattle.row_view.proofs.KeptLaws.{good_few, good_within}
use Rattle.row_view.proofs.PlaceLaws.{place_lengths, place_within}

-- ---- a mark more

get_set_same : (ms : List Mark) (i : ℕ) (m n : Mark) → slice_get (slice_set ms i m) i ≡ Some n → n ≡ m
get_set_same [] i m n e = absurd cc
get_set_same (x ∷ xs) zero m n e = cc
get_set_same (x ∷ xs) (suc i) m n e = get_set_same xs i m n e

get_set_other : (ms : List Mark) (i j : ℕ) (m : Mark) → j ≢ i → slice_get (slice_set ms i m) j ≡ slice_get ms j
get_set_other [] i j m ne = refl
get_set_other (x ∷ xs) zero zero m ne = absurd (ne refl)
get_set_other (x ∷ xs) zero (suc j) m ne = refl
get_set_other (x ∷ xs) (suc i) zero m ne = refl
get_set_other (x ∷ xs) (suc i) (suc j) m ne = get_set_other xs i j m (λ e. ne (ap suc e))

-- the mark that is put is the next column's
is_mark : (message packed fields : List ℕ) (left : List ℤ) (at end : ℕ) (count : Count) (marks : List Mark) (mark : Mark) → IsPlace message packed fields at end → lengths_left packed fields ≡ left
    → IsCounted message left count marks → at ≤ end → mark.at ≡ at → mark.end ≡ end → mark.offset ≡ min count.bytes (2 ^ 32 - 1) → IsMark message count.columns mark
is_mark message packed fields left at end count marks mark place is counted le at_is end_is offset =
    let from : lengths_from message at end ≡ drop count.columns (row_lengths message) = place_lengths message packed fields at end place ∙ is ∙ sym counted.left_are in
    record {
      begins = omega (arith, at_is, end_is, le);
      within = omega (arith, end_is, place_within message packed fields at end place);
      lengths_are = rw (at_is, end_is) from;
      offset_is = λ small. omega (arith, offset, counted.bytes_are, small);
    }

-- a mark is put where a sixteenth column comes next
pub marks_put : (message packed fields : List ℕ) (left : List ℤ) (at end : ℕ) (count : Count) (marks : List Mark) (mark : Mark) (i : ℕ) → IsPlace message packed fields at end → lengths_left packed fields ≡ left
    → IsCounted message left count marks → at ≤ end → mark.at ≡ at → mark.end ≡ end → mark.offset ≡ min count.bytes (2 ^ 32 - 1) → 16 * i ≡ count.columns
    → AreMarks message (count.columns + 1) (slice_set marks i mark)
marks_put message packed fields left at end count marks mark i place is counted le at_is end_is offset here =
    let here_is : IsMark message count.columns mark = is_mark message packed fields left at end count marks mark place is counted le at_is end_is offset in
    record {
      room = length-set marks i mark ∙ counted.marks_are.room;
      each = λ j m lt got. elim (cases_lt (16 * j) count.columns) [
        | inl less ↦ counted.marks_are.each j m less (sym (get_set_other marks i j mark (λ e. absurd (omega (arith, less, e, here)))) ∙ got)
        | inr past ↦
            let same : j ≡ i = omega (arith, lt, past, here) in
            let at_i : slice_get (slice_set marks i mark) i ≡ Some m = ap (slice_get (slice_set marks i mark)) (sym same) ∙ got in
            let is_it : m ≡ mark = get_set_same marks i mark m at_i in
            let column : 16 * j ≡ count.columns = omega (arith, same, here) in
            rw (column, is_it) here_is
      ];
    }

-- no mark is put where none belongs
pub marks_kept : (message : List ℕ) (columns : ℕ) (marks : List Mark) → AreMarks message columns marks → ((columns % 16 ≡ 0) → 16 ≤ columns / 16) → AreMarks message (columns + 1) marks
marks_kept message columns marks are none = record {
  room = are.room;
  each = λ j m lt got. elim (cases_lt (16 * j) columns) [
    | inl less ↦ are.each j m less got
    | inr past ↦
        let same : 16 * j ≡ columns = omega (arith, lt, past) in
        let within : j < length marks = slice_get_within marks j m got in
        let beyond : 16 ≤ columns / 16 = none (omega (arith, same)) in
        absurd (omega (arith, within, beyond, same, are.room))
  ];
}

-- ---- what is found from a mark

pub columns_over-drop : (values : List ℕ) (lengths : List ℤ) (c : ℕ) → columns_over (drop (size_of_all (take c lengths)) values) (drop c lengths) ≡ drop c (columns_over values lengths)
columns_over-drop values lengths zero = refl
columns_over-drop values [] (suc c) = refl
columns_over-drop values (pos n ∷ ns) (suc c) =
    let further : drop (n + size_of_all (take c ns)) values ≡ drop (size_of_all (take c ns)) (drop n values) = sym (drop-drop (size_of_all (take c ns)) n values) in
    rw further (columns_over-drop (drop n values) ns c)
columns_over-drop values (negsuc n ∷ ns) (suc c) =
    let none : 0 + size_of_all (take c ns) ≡ size_of_all (take c ns) = omega arith in
    rw none (columns_over-drop values ns c)

pub size_split : (lengths : List ℤ) (c : ℕ) → size_of_all lengths ≡ size_of_all (take c lengths) + size_of_all (drop c lengths)
size_split lengths zero = omega arith
size_split [] (suc c) = refl
size_split (n ∷ ns) (suc c) = omega (arith, size_split ns c)

-- what is known of the columns from a mark on
pub record IsFrom (message values : List ℕ) (row : RowValue) (column : ℕ) (mark : Mark) : Type 0 where
  pub begins : mark.at ≤ mark.end
  pub within : mark.end ≤ length message
  pub offset : mark.offset ≤ length values
  pub fits : size_of_all (lengths_from message mark.at mark.end) ≤ length (drop mark.offset values)
  pub columns : columns_over (drop mark.offset values) (lengths_from message mark.at mark.end) ≡ drop column row

is_from : (message values : List ℕ) (row : RowValue) (column : ℕ) (mark : Mark) → values ≡ row_values message → length values ≤ 2 ^ 24 → size_of_all (row_lengths message) ≤ length (row_values message) → columns_in message ≡ row
    → IsMark message column mark → IsFrom message values row column mark
is_from message values row column mark values_are short within row_is is =
    let lengths = row_lengths message in
    let split : size_of_all lengths ≡ size_of_all (take column lengths) + size_of_all (drop column lengths) = size_split lengths column in
    let long : length values ≡ length (row_values message) = ap length values_are in
    let offset : mark.offset ≡ size_of_all (take column lengths) = is.offset_is (omega (arith, split, long, short, within)) in
    let left : length (drop mark.offset values) ≡ length values - mark.offset = length-drop mark.offset values in
    record {
      begins = is.begins;
      within = is.within;
      offset = omega (arith, split, long, within, offset);
      fits = rw is.lengths_are (omega (arith, split, long, within, offset, left));
      columns = rw (is.lengths_are, offset, values_are) (columns_over-drop (row_values message) lengths column ∙ ap (drop column) row_is);
    }

pub from_mark : (message values : List ℕ) (columns : ℕ) (marks : List Mark) (row : RowValue) (place : ℕ) (mark : Mark) → IsKept message values columns marks → columns_in message ≡ row → 16 * place < length row
    → slice_get marks place ≡ Some mark → IsFrom message values row (16 * place) mark
from_mark message values columns marks row place mark kept row_is within got =
    let count : length row ≡ length (row_lengths message) = ap length (sym row_is) ∙ length-columns_over (row_values message) (row_lengths message) in
    is_from message values row (16 * place) mark kept.values_are kept.short (good_within message kept.good) row_is
    ((kept.marked (omega (arith, within, count, kept.counted))).each place mark (omega (arith, within, count, kept.counted)) got)

-- a row has no more than sixteen sixteenths
pub few_places : (message : List ℕ) (row : RowValue) (place : ℕ) → IsGood message → columns_in message ≡ row → 16 * place < length row → place < 16
few_places message row place good row_is within =
    let count : length row ≡ length (row_lengths message) = ap length (sym row_is) ∙ length-columns_over (row_values message) (row_lengths message) in
    omega (arith, within, count, good_few message good)

pub has_room : (message values : List ℕ) (columns : ℕ) (marks : List Mark) (row : RowValue) (place : ℕ) → IsKept message values columns marks → columns_in message ≡ row → 16 * place < length row → length marks ≡ 16
has_room message values columns marks row place kept row_is within =
    let count : length row ≡ length (row_lengths message) = ap length (sym row_is) ∙ length-columns_over (row_values message) (row_lengths message) in
    (kept.marked (omega (arith, within, count, kept.counted))).room
