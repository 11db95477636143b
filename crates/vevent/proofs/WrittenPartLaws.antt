-- An answer, and the parts of a checkpoint, that are written are read again.
use Rattle.std.proofs.Common.{◌≡◌, ℕ, ◌^◌, ◌<◌, Bool, true, false, cond, eqb, List, [], ◌∷◌, ◌++◌, map, length, Option, Some, None, refl, sym, ap, ◌∙◌, arith}
use Rattle.std.specs.Prelude.{◌&&◌, nat_lt, IfSome, option_map, option_and_then, unwrap_or}
use Rattle.std.specs.List.{filter_map, list_any, list_all, AllByRecursion}
use Rattle.std.specs.Result.{result_err}
use Rattle.std.specs.Str.{is_utf8}
use Rattle.std.proofs.lemmas.Bool.{eqb-true}
use Rattle.std.proofs.lemmas.List.{length-append, append-nil}
use Rattle.std.proofs.lemmas.List.Concat.{flat_map-append}
use Rattle.std.proofs.lemmas.List.Elements.{filter_map-append}
use Rattle.proto_wire.specs.declared.fault.WireFault.{WireFault}
use Rattle.proto_wire.specs.Reading.{Reading}
use Rattle.proto_wire.specs.Field.{WireField, Varint}
use Rattle.vevent.proofs.FirstFault.{none_first, none_second}
use Rattle.proto_wire.specs.Parts.{bytes_in, part_in, count_in, last_of, first_of, text, scalar, parts, embedded, is_repeated}
use Rattle.proto_wire.specs.Writing.{written_field, written_fields, text_field, message_field, FieldsAreReadAgain}
use Rattle.row_view.specs.Row.{row_of_message}
use Rattle.row_view.specs.WrittenRow.{written_row, IsWithinLimits, RowsAreReadAgain}
use Rattle.row_view.specs.FieldValue.{FieldValue}
use Rattle.vevent.specs.Fault.{first_in, wire_fault_by}
use Rattle.vevent.specs.Message.{image_of, column_field_of}
use Rattle.vevent.specs.Judging.{HasNoFault}
use Rattle.vevent.specs.Answer.{AnswerValue, answer_of, in_answer, are_names, are_answer_texts, in_rows, answer_row_fault, answer_conditions, answer_at}
use Rattle.vevent.specs.CheckpointPart.{TablePartValue, StreamPartValue, table_part_of, stream_part_of, in_table, table_wire_fault, repeats_in_table, are_table_texts, table_row_fault, in_stream, first_in_tables, table_conditions, stream_conditions, table_part_at, stream_part_at}
use Rattle.vevent.specs.WrittenEvent.{message_fields, row_field, written_column}
use Rattle.vevent.specs.WrittenPart.{written_answer, written_table_part, written_stream_part, IsSoundAnswer, IsSoundTable, AnswersAreReadAgain, TablePartsAreReadAgain, StreamPartsAreReadAgain}
use Rattle.vevent.proofs.JudgingLaws.{every_value}
use Rattle.vevent.proofs.WrittenParts.{ArePlain, Reads, reads_back, parts_are, text_is, scalar_is, wire_is, plain_text, plain_both, own_parts, other_parts, plain_messages, messages_short, or_none, named, named_fields, named_short}
use Rattle.vevent.proofs.WrittenEventLaws.{columns_back, cons_is, and_both, either, neither}

-- ---- fields in several parts

found_both : (number : ℕ) (xs ys : List WireField) (a b : List (List ℕ)) → filter_map (part_in number) xs ≡ a → filter_map (part_in number) ys ≡ b → filter_map (part_in number) (xs ++ ys) ≡ a ++ b
found_both number xs ys a b e f = filter_map-append (part_in number) xs ys ∙ ap (λ (p : List (List ℕ)). p ++ filter_map (part_in number) ys) e ∙ ap (λ (p : List (List ℕ)). a ++ p) f

none_both : {F : Type 0} (inside : ℕ → List ℕ → Option F) (xs ys : List WireField) → first_in inside xs None ≡ None → first_in inside ys None ≡ None → first_in inside (xs ++ ys) None ≡ None
none_both inside [] ys e f = f
none_both inside (x ∷ xs) ys e f =
    let here = none_first (option_and_then (inside x.number) (bytes_in x.value)) (first_in inside xs None) e in
    let rest = none_second (option_and_then (inside x.number) (bytes_in x.value)) (first_in inside xs None) e in
    or_none (option_and_then (inside x.number) (bytes_in x.value)) (first_in inside (xs ++ ys) None) here (none_both inside xs ys rest f)

-- a text under a number that nothing is told of
text_none : {F : Type 0} (inside : ℕ → List ℕ → Option F) (number : ℕ) (t : List ℕ) → inside number t ≡ None → first_in inside (text_field number t) None ≡ None
text_none inside number [] e = refl
text_none inside number (b ∷ bs) e = rw e refl

messages_none : {F : Type 0} (inside : ℕ → List ℕ → Option F) (number : ℕ) (ms : List (List ℕ)) → AllByRecursion (λ m. inside number m ≡ None) ms → first_in inside (message_fields number ms) None ≡ None
messages_none inside number [] h = refl
messages_none inside number (m ∷ ms) h = or_none (inside number m) (first_in inside (message_fields number ms) None) h.0 (messages_none inside number ms h.1)

-- ---- rows

abbrev Image : Type 0
Image = List (Option (List ℕ))

row_none : (law : RowsAreReadAgain) (row : Image) → IsWithinLimits row → result_err (row_of_message (written_row row)) ≡ None
row_none law row is = rw (law row is) refl

row_back : (law : RowsAreReadAgain) (row : Image) → IsWithinLimits row → image_of (written_row row) ≡ row
row_back law row is = rw (law row is) refl

rows_none : RowsAreReadAgain → (rows : List Image) → AllByRecursion IsWithinLimits rows → AllByRecursion (λ m. in_rows 4 m ≡ None) (map written_row rows)
rows_none law [] is = tt
rows_none law (r ∷ rs) is = (row_none law r is.0, rows_none law rs is.1)

rows_back : RowsAreReadAgain → (rows : List Image) → AllByRecursion IsWithinLimits rows → map image_of (map written_row rows) ≡ rows
rows_back law [] is = refl
rows_back law (r ∷ rs) is = cons_is (image_of (written_row r)) r (map image_of (map written_row rs)) rs (row_back law r is.0) (rows_back law rs is.1)

key_none : RowsAreReadAgain → (row : Option Image) → IfSome row IsWithinLimits → first_in in_rows (row_field 5 row) None ≡ None
key_none law None is = refl
key_none law (Some row) is = or_none (in_rows 5 (written_row row)) None (row_none law row is) refl

key_back : RowsAreReadAgain → (row : Option Image) → IfSome row IsWithinLimits → option_map image_of (first_of (filter_map (part_in 5) (row_field 5 row))) ≡ row
key_back law None is = refl
key_back law (Some row) is = ap (λ (r : Image). Some r) (row_back law row is)

key_once : (row : Option Image) → nat_lt 1 (length (filter_map (part_in 5) (row_field 5 row))) ≡ false
key_once None = refl
key_once (Some row) = refl

key_plain : (row : Option Image) → ArePlain (row_field 5 row)
key_plain None = tt
key_plain (Some row) = (record { number = (omega arith, omega arith); payload = tt }, tt)

key_other : (wanted : ℕ) (row : Option Image) → eqb 5 wanted ≡ false → filter_map (part_in wanted) (row_field 5 row) ≡ []
key_other wanted None e = refl
key_other wanted (Some row) e = rw e refl

text_other : (number wanted : ℕ) (t : List ℕ) → eqb number wanted ≡ false → filter_map (part_in wanted) (text_field number t) ≡ []
text_other number wanted [] e = refl
text_other number wanted (b ∷ bs) e = rw e refl

text_back : (t : List ℕ) → last_of [] (filter_map (part_in 3) (text_field 3 t)) ≡ t
text_back [] = refl
text_back (b ∷ bs) = refl

-- ---- an answer

abbrev answer_list : AnswerValue → List WireField
answer_list a =
    message_fields 1 (map written_column a.fields)
    ++ message_fields 2 (map written_column a.pkfields)
    ++ text_field 3 a.gtid
    ++ message_fields 4 (map written_row a.rows)
    ++ row_field 5 a.lastpk

-- what stands under a number, part by part
five : (number : ℕ) (a : AnswerValue) (p q r s t : List (List ℕ)) → filter_map (part_in number) (message_fields 1 (map written_column a.fields)) ≡ p → filter_map (part_in number) (message_fields 2 (map written_column a.pkfields)) ≡ q
    → filter_map (part_in number) (text_field 3 a.gtid) ≡ r → filter_map (part_in number) (message_fields 4 (map written_row a.rows)) ≡ s → filter_map (part_in number) (row_field 5 a.lastpk) ≡ t
    → filter_map (part_in number) (answer_list a) ≡ p ++ q ++ r ++ s ++ t
five number a p q r s t e f g h i =
    let one = message_fields 1 (map written_column a.fields) in
    let two = message_fields 2 (map written_column a.pkfields) in
    let three = text_field 3 a.gtid in
    let four = message_fields 4 (map written_row a.rows) in
    let key = row_field 5 a.lastpk in
    found_both number (one ++ two ++ three ++ four) key (p ++ q ++ r ++ s) t (found_both number (one ++ two ++ three) four (p ++ q ++ r) s (found_both number (one ++ two) three (p ++ q) r (found_both number one two p q e f) g) h) i

alone : (xs : List (List ℕ)) → xs ++ [] ≡ xs
alone xs = append-nil xs

under_one : (a : AnswerValue) → filter_map (part_in 1) (answer_list a) ≡ map written_column a.fields
under_one a =
    let ms = map written_column a.fields in
    five 1 a ms [] [] [] [] (own_parts 1 ms) (other_parts 2 1 (map written_column a.pkfields) refl) (text_other 3 1 a.gtid refl) (other_parts 4 1 (map written_row a.rows) refl) (key_other 1 a.lastpk refl)
    ∙ alone (ms ++ [] ++ [] ++ []) ∙ alone (ms ++ [] ++ []) ∙ alone (ms ++ []) ∙ alone ms

under_two : (a : AnswerValue) → filter_map (part_in 2) (answer_list a) ≡ map written_column a.pkfields
under_two a =
    let ms = map written_column a.pkfields in
    five 2 a [] ms [] [] [] (other_parts 1 2 (map written_column a.fields) refl) (own_parts 2 ms) (text_other 3 2 a.gtid refl) (other_parts 4 2 (map written_row a.rows) refl) (key_other 2 a.lastpk refl)
    ∙ alone (ms ++ [] ++ []) ∙ alone (ms ++ []) ∙ alone ms

under_three : (a : AnswerValue) → filter_map (part_in 3) (answer_list a) ≡ filter_map (part_in 3) (text_field 3 a.gtid)
under_three a =
    let ms = filter_map (part_in 3) (text_field 3 a.gtid) in
    five 3 a [] [] ms [] [] (other_parts 1 3 (map written_column a.fields) refl) (other_parts 2 3 (map written_column a.pkfields) refl) refl (other_parts 4 3 (map written_row a.rows) refl) (key_other 3 a.lastpk refl)
    ∙ alone (ms ++ []) ∙ alone ms

under_four : (a : AnswerValue) → filter_map (part_in 4) (answer_list a) ≡ map written_row a.rows
under_four a =
    let ms = map written_row a.rows in
    five 4 a [] [] [] ms [] (other_parts 1 4 (map written_column a.fields) refl) (other_parts 2 4 (map written_column a.pkfields) refl) (text_other 3 4 a.gtid refl) (own_parts 4 ms) (key_other 4 a.lastpk refl)
    ∙ alone ms

under_five : (a : AnswerValue) → filter_map (part_in 5) (answer_list a) ≡ filter_map (part_in 5) (row_field 5 a.lastpk)
under_five a =
    five 5 a [] [] [] [] (filter_map (part_in 5) (row_field 5 a.lastpk)) (other_parts 1 5 (map written_column a.fields) refl) (other_parts 2 5 (map written_column a.pkfields) refl) (text_other 3 5 a.gtid refl) (other_parts 4 5 (map written_row a.rows) refl) refl

answer_plain : (a : AnswerValue) → ArePlain (answer_list a)
answer_plain a =
    let one = message_fields 1 (map written_column a.fields) in
    let two = message_fields 2 (map written_column a.pkfields) in
    let three = text_field 3 a.gtid in
    let four = message_fields 4 (map written_row a.rows) in
    let first = plain_messages 1 (map written_column a.fields) (omega arith, omega arith) in
    let second = plain_both one two first (plain_messages 2 (map written_column a.pkfields) (omega arith, omega arith)) in
    let third = plain_both (one ++ two) three second (plain_text 3 a.gtid (omega arith, omega arith)) in
    let fourth = plain_both (one ++ two ++ three) four third (plain_messages 4 (map written_row a.rows) (omega arith, omega arith)) in
    plain_both (one ++ two ++ three ++ four) (row_field 5 a.lastpk) fourth (key_plain a.lastpk)

-- something is told of no field of an answer, where it is of none of its five parts
none_in_five : {F : Type 0} (inside : ℕ → List ℕ → Option F) (a : AnswerValue) → first_in inside (message_fields 1 (map written_column a.fields)) None ≡ None → first_in inside (message_fields 2 (map written_column a.pkfields)) None ≡ None
    → first_in inside (text_field 3 a.gtid) None ≡ None → first_in inside (message_fields 4 (map written_row a.rows)) None ≡ None → first_in inside (row_field 5 a.lastpk) None ≡ None
    → first_in inside (answer_list a) None ≡ None
none_in_five inside a e f g h i =
    let one = message_fields 1 (map written_column a.fields) in
    let two = message_fields 2 (map written_column a.pkfields) in
    let three = text_field 3 a.gtid in
    let four = message_fields 4 (map written_row a.rows) in
    none_both inside (one ++ two ++ three ++ four) (row_field 5 a.lastpk) (none_both inside (one ++ two ++ three) four (none_both inside (one ++ two) three (none_both inside one two e f) g) h) i

untold : {F : Type 0} (inside : ℕ → List ℕ → Option F) (number : ℕ) (ms : List (List ℕ)) → ((m : List ℕ) → inside number m ≡ None) → AllByRecursion (λ m. inside number m ≡ None) ms
untold inside number [] h = tt
untold inside number (m ∷ ms) h = (h m, untold inside number ms h)

key_untold : (row : Option Image) → first_in in_answer (row_field 5 row) None ≡ None
key_untold None = refl
key_untold (Some row) = refl

-- the columns of an answer are short where it is
split_short : (xs ys : List WireField) → length (written_fields (xs ++ ys)) < 2 ^ 64 → (length (written_fields xs) < 2 ^ 64) × (length (written_fields ys) < 2 ^ 64)
split_short xs ys short =
    let whole = flat_map-append written_field xs ys in
    (omega (arith, ap length whole, length-append (written_fields xs) (written_fields ys), short), omega (arith, ap length whole, length-append (written_fields xs) (written_fields ys), short))

-- what is true of an answer that was written
record IsAnswerOf (bytes : List ℕ) (a : AnswerValue) : Type 0 where
  pub wire : wire_fault_by in_answer bytes ≡ None
  pub once : is_repeated 5 bytes ≡ false
  pub texts : are_answer_texts bytes ≡ true
  pub rows : answer_row_fault bytes ≡ None
  pub value : answer_of bytes ≡ a

abbrev answer_with : List FieldValue → List FieldValue → List ℕ → List Image → Option Image → AnswerValue
answer_with fields pkfields gtid rows lastpk = record { fields = fields; pkfields = pkfields; gtid = gtid; rows = rows; lastpk = lastpk }

answer_is : (f p : List FieldValue) (g : List ℕ) (r : List Image) (l : Option Image) (a : AnswerValue) → f ≡ a.fields → p ≡ a.pkfields → g ≡ a.gtid → r ≡ a.rows → l ≡ a.lastpk → answer_with f p g r l ≡ a
answer_is f p g r l a e1 e2 e3 e4 e5 =
    ap (λ (x : List FieldValue). answer_with x p g r l) e1
    ∙ ap (λ (x : List FieldValue). answer_with a.fields x g r l) e2
    ∙ ap (λ (x : List ℕ). answer_with a.fields a.pkfields x r l) e3
    ∙ ap (λ (x : List Image). answer_with a.fields a.pkfields a.gtid x l) e4
    ∙ ap (λ (x : Option Image). answer_with a.fields a.pkfields a.gtid a.rows x) e5

answer_back : FieldsAreReadAgain → RowsAreReadAgain → (a : AnswerValue) → IsSoundAnswer a → length (written_answer a) < 2 ^ 64 → IsAnswerOf (written_answer a) a
answer_back law rows a is short =
    let list = answer_list a in
    let bytes = written_fields list in
    let one = message_fields 1 (map written_column a.fields) in
    let two = message_fields 2 (map written_column a.pkfields) in
    let three = text_field 3 a.gtid in
    let four = message_fields 4 (map written_row a.rows) in
    let read : Reads bytes list = reads_back law list (answer_plain a) short in
    let pair = split_short one two (split_short (one ++ two) three (split_short (one ++ two ++ three) four (split_short (one ++ two ++ three ++ four) (row_field 5 a.lastpk) short).0).0).0 in
    let fields = columns_back law a.fields is.fields (messages_short 1 (map written_column a.fields) pair.0) in
    let keys = columns_back law a.pkfields is.pkfields (messages_short 2 (map written_column a.pkfields) pair.1) in
    let under1 : parts 1 bytes ≡ map written_column a.fields = parts_are bytes list read 1 ∙ under_one a in
    let under2 : parts 2 bytes ≡ map written_column a.pkfields = parts_are bytes list read 2 ∙ under_two a in
    let under3 : text 3 bytes ≡ a.gtid = ap (λ (ps : List (List ℕ)). last_of [] ps) (parts_are bytes list read 3 ∙ under_three a) ∙ text_back a.gtid in
    let under4 : parts 4 bytes ≡ map written_row a.rows = parts_are bytes list read 4 ∙ under_four a in
    let under5 : parts 5 bytes ≡ filter_map (part_in 5) (row_field 5 a.lastpk) = parts_are bytes list read 5 ∙ under_five a in
    let names1 : are_names 1 bytes ≡ true = ap (λ (ms : List (List ℕ)). list_all (λ field. is_utf8 (text 1 field)) ms) under1 ∙ fields.names in
    let names2 : are_names 2 bytes ≡ true = ap (λ (ms : List (List ℕ)). list_all (λ field. is_utf8 (text 1 field)) ms) under2 ∙ keys.names in
    record {
      wire = wire_is bytes list read in_answer ∙ none_in_five in_answer a (messages_none in_answer 1 (map written_column a.fields) fields.lists) (messages_none in_answer 2 (map written_column a.pkfields) keys.lists) (text_none in_answer 3 a.gtid refl) (messages_none in_answer 4 (map written_row a.rows) (untold in_answer 4 (map written_row a.rows) (λ m. refl))) (key_untold a.lastpk);
      once = ap (λ (ps : List (List ℕ)). nat_lt 1 (length ps)) under5 ∙ key_once a.lastpk;
      texts = and_both (are_names 1 bytes && are_names 2 bytes) (is_utf8 (text 3 bytes)) (and_both (are_names 1 bytes) (are_names 2 bytes) names1 names2) (ap is_utf8 under3 ∙ is.gtid);
      rows = ap (λ (r : Reading WireField WireFault). first_in in_rows r.items None) read ∙ none_in_five in_rows a (messages_none in_rows 1 (map written_column a.fields) (untold in_rows 1 (map written_column a.fields) (λ m. refl))) (messages_none in_rows 2 (map written_column a.pkfields) (untold in_rows 2 (map written_column a.pkfields) (λ m. refl))) (text_none in_rows 3 a.gtid refl) (messages_none in_rows 4 (map written_row a.rows) (rows_none rows a.rows is.rows)) (key_none rows a.lastpk is.lastpk);
      value = answer_is _ _ _ _ _ a (ap (λ (ms : List (List ℕ)). map column_field_of ms) under1 ∙ fields.value) (ap (λ (ms : List (List ℕ)). map column_field_of ms) under2 ∙ keys.value) under3 (ap (λ (ms : List (List ℕ)). map image_of ms) under4 ∙ rows_back rows a.rows is.rows) (ap (λ (ps : List (List ℕ)). option_map image_of (first_of ps)) under5 ∙ key_back rows a.lastpk is.lastpk);
    }

pub answers_back : FieldsAreReadAgain → RowsAreReadAgain → AnswersAreReadAgain
unfolding answer_at
answers_back law rows a is short =
    let h = answer_back law rows a is short in
    every_value answer_conditions answer_of (written_answer a) a (record { wire = h.wire; once = h.once; texts = h.texts; rows = h.rows }, sym h.value)

-- ---- a table's part

-- what is true of a table's part that was written
record IsTableOf (bytes : List ℕ) (t : TablePartValue) : Type 0 where
  pub wire : table_wire_fault bytes ≡ None
  pub once : repeats_in_table bytes ≡ false
  pub texts : are_table_texts bytes ≡ true
  pub rows : table_row_fault bytes ≡ None
  pub value : table_part_of bytes ≡ t

abbrev marked : Bool → ℕ → List ℕ → List ℕ → List WireField
marked default mark inner name = cond default [] (record { number = 1; value = Varint mark } ∷ []) ++ message_field 2 inner ∷ text_field 3 name

marked_plain : (default : Bool) (mark : ℕ) (inner name : List ℕ) → mark < 2 ^ 64 → ArePlain (marked default mark inner name)
marked_plain true mark inner name lt = (record { number = (omega arith, omega arith); payload = tt }, plain_text 3 name (omega arith, omega arith))
marked_plain false mark inner name lt = (record { number = (omega arith, omega arith); payload = lt }, (record { number = (omega arith, omega arith); payload = tt }, plain_text 3 name (omega arith, omega arith)))

marked_mark : (default : Bool) (mark : ℕ) (inner name : List ℕ) → (default ≡ true → mark ≡ 0) → last_of 0 (filter_map (count_in 1) (marked default mark inner name)) ≡ mark
marked_mark true mark inner [] zero = sym (zero refl)
marked_mark true mark inner (b ∷ bs) zero = sym (zero refl)
marked_mark false mark inner [] zero = refl
marked_mark false mark inner (b ∷ bs) zero = refl

marked_inner : (default : Bool) (mark : ℕ) (inner name : List ℕ) → filter_map (part_in 2) (marked default mark inner name) ≡ inner ∷ []
marked_inner true mark inner [] = refl
marked_inner true mark inner (b ∷ bs) = refl
marked_inner false mark inner [] = refl
marked_inner false mark inner (b ∷ bs) = refl

marked_name : (default : Bool) (mark : ℕ) (inner name : List ℕ) → last_of [] (filter_map (part_in 3) (marked default mark inner name)) ≡ name
marked_name true mark inner [] = refl
marked_name true mark inner (b ∷ bs) = refl
marked_name false mark inner [] = refl
marked_name false mark inner (b ∷ bs) = refl

marked_wire : (default : Bool) (mark : ℕ) (inner name : List ℕ) → wire_fault_by in_answer inner ≡ None → first_in in_table (marked default mark inner name) None ≡ None
marked_wire true mark inner name e = or_none (wire_fault_by in_answer inner) (first_in in_table (text_field 3 name) None) e (text_none in_table 3 name refl)
marked_wire false mark inner name e = or_none (wire_fault_by in_answer inner) (first_in in_table (text_field 3 name) None) e (text_none in_table 3 name refl)

inner_short : (default : Bool) (mark : ℕ) (inner name : List ℕ) → length (written_fields (marked default mark inner name)) < 2 ^ 64 → length inner < 2 ^ 64
inner_short default mark inner name short =
    let both = split_short (cond default [] (record { number = 1; value = Varint mark } ∷ [])) (message_field 2 inner ∷ text_field 3 name) short in
    let front = split_short (message_field 2 inner ∷ []) (text_field 3 name) both.1 in
    (messages_short 2 (inner ∷ []) front.0).0

abbrev table_with : ℕ → AnswerValue → List ℕ → TablePartValue
table_with mark answer name = record { mark = mark; answer = answer; name = name }

table_is : (m : ℕ) (a : AnswerValue) (n : List ℕ) (t : TablePartValue) → m ≡ t.mark → a ≡ t.answer → n ≡ t.name → table_with m a n ≡ t
table_is m a n t e f g = ap (λ (x : ℕ). table_with x a n) e ∙ ap (λ (x : AnswerValue). table_with t.mark x n) f ∙ ap (λ (x : List ℕ). table_with t.mark t.answer x) g

table_back : FieldsAreReadAgain → RowsAreReadAgain → (t : TablePartValue) → IsSoundTable t → length (written_table_part t) < 2 ^ 64 → IsTableOf (written_table_part t) t
table_back law rows t is short =
    let default = eqb t.mark 0 in
    let inner = written_answer t.answer in
    let list = marked default t.mark inner t.name in
    let bytes = written_fields list in
    let read : Reads bytes list = reads_back law list (marked_plain default t.mark inner t.name is.mark) short in
    let h = answer_back law rows t.answer is.answer (inner_short default t.mark inner t.name short) in
    let under : parts 2 bytes ≡ inner ∷ [] = parts_are bytes list read 2 ∙ marked_inner default t.mark inner t.name in
    let held : embedded 2 bytes ≡ inner = ap (λ (ps : List (List ℕ)). unwrap_or (first_of ps) []) under in
    record {
      wire = wire_is bytes list read in_table ∙ marked_wire default t.mark inner t.name h.wire;
      once = either (is_repeated 2 bytes) (is_repeated 5 (embedded 2 bytes)) (ap (λ (ps : List (List ℕ)). nat_lt 1 (length ps)) under) (ap (λ (m : List ℕ). is_repeated 5 m) held ∙ h.once);
      texts = ap are_answer_texts held ∙ h.texts;
      rows = ap answer_row_fault held ∙ h.rows;
      value = table_is (scalar 1 bytes) (answer_of (embedded 2 bytes)) (text 3 bytes) t (scalar_is bytes list read 1 ∙ marked_mark default t.mark inner t.name (λ e. eqb-true t.mark 0 e)) (ap answer_of held ∙ h.value) (text_is bytes list read 3 ∙ marked_name default t.mark inner t.name);
    }

pub table_parts_back : FieldsAreReadAgain → RowsAreReadAgain → TablePartsAreReadAgain
unfolding table_part_at
table_parts_back law rows t is short =
    let h = table_back law rows t is short in
    every_value table_conditions table_part_of (written_table_part t) t (record { wire = h.wire; once = h.once; texts = h.texts; rows = h.rows }, sym h.value)

-- ---- a stream's part

-- what is true of the parts of tables that were written
record AreTablesOf (messages : List (List ℕ)) (tables : List TablePartValue) : Type 0 where
  pub wire : AllByRecursion (λ m. in_stream 2 m ≡ None) messages
  pub once : list_any repeats_in_table messages ≡ false
  pub texts : list_all are_table_texts messages ≡ true
  pub rows : first_in_tables messages ≡ None
  pub value : map table_part_of messages ≡ tables

tables_back : FieldsAreReadAgain → RowsAreReadAgain → (tables : List TablePartValue) → AllByRecursion IsSoundTable tables → AllByRecursion (λ m. length m < 2 ^ 64) (map written_table_part tables) → AreTablesOf (map written_table_part tables) tables
tables_back law rows [] is short = record { wire = tt; once = refl; texts = refl; rows = refl; value = refl }
tables_back law rows (t ∷ ts) is short =
    let one = table_back law rows t is.0 short.0 in
    let others = tables_back law rows ts is.1 short.1 in
    let bytes = written_table_part t in
    let messages = map written_table_part ts in
    record {
      wire = (one.wire, others.wire);
      once = either (repeats_in_table bytes) (list_any repeats_in_table messages) one.once others.once;
      texts = and_both (are_table_texts bytes) (list_all are_table_texts messages) one.texts others.texts;
      rows = neither (table_row_fault bytes) (first_in_tables messages) one.rows others.rows;
      value = cons_is (table_part_of bytes) t (map table_part_of messages) ts one.value others.value;
    }

abbrev stream_with : List ℕ → List TablePartValue → StreamPartValue
stream_with shard tables = record { shard = shard; tables = tables }

stream_is : (n : List ℕ) (ts : List TablePartValue) (s : StreamPartValue) → n ≡ s.shard → ts ≡ s.tables → stream_with n ts ≡ s
stream_is n ts s e f = ap (λ (x : List ℕ). stream_with x ts) e ∙ ap (λ (x : List TablePartValue). stream_with s.shard x) f

pub stream_parts_back : FieldsAreReadAgain → RowsAreReadAgain → StreamPartsAreReadAgain
unfolding stream_part_at
stream_parts_back law rows s is short =
    let messages = map written_table_part s.tables in
    let list = named_fields s.shard messages in
    let bytes = written_stream_part s in
    let h = named law s.shard messages short in
    let ts = tables_back law rows s.tables is.tables (named_short s.shard messages short) in
    let wire = none_both in_stream (text_field 1 s.shard) (message_fields 2 messages) (text_none in_stream 1 s.shard refl) (messages_none in_stream 2 messages ts.wire) in
    let texts = and_both (is_utf8 (text 1 bytes)) (list_all are_table_texts (parts 2 bytes)) (ap is_utf8 h.name_is ∙ is.shard) (ap (λ (ms : List (List ℕ)). list_all are_table_texts ms) h.parts_are ∙ ts.texts) in
    let whole : HasNoFault stream_conditions bytes = record {
      wire = wire_is bytes list h.read in_stream ∙ wire;
      once = ap (λ (ms : List (List ℕ)). list_any repeats_in_table ms) h.parts_are ∙ ts.once;
      texts = texts;
      rows = ap first_in_tables h.parts_are ∙ ts.rows;
    } in
    let value : stream_part_of bytes ≡ s = stream_is (text 1 bytes) (map table_part_of (parts 2 bytes)) s h.name_is (ap (λ (ms : List (List ℕ)). map table_part_of ms) h.parts_are ∙ ts.value) in
    every_value stream_conditions stream_part_of bytes s (whole, sym value)
