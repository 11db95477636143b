-- What the changes of a feed's groups touch is what the feed says.
use Rattle.std.proofs.Common.{◌≡◌, ℕ, suc, ℤ, pos, negsuc, List, [], ◌∷◌, ◌++◌, length, map, Bool, true, false, cond, eqb, Option, None, Some, Result, Ok, Err, refl, sym, ap, subst, ◌∙◌, append_assoc, arith}
use Rattle.std.specs.Prelude.{MatchOption, option_map, ok_or, is_none, ◌||◌, not, IfSome}
use Rattle.std.specs.List.{AllByRecursion, flat_map, filter_map, cons_option, list_any}
use Rattle.std.specs.Result.{ok_prefix}
use Rattle.std.specs.Int.{w64, to_be_bytes, reverse_bits}
use Rattle.list_laws.specs.Outcome.{◌>>=◌}
use Rattle.md5.specs.Md5.{md5}
use Rattle.des.specs.Des.{enciphered}
use Rattle.proto_wire.proofs.FieldLaws.{bind_ok}
use Rattle.vindex.specs.Bounds.{Bounds, in_range}
use Rattle.vindex.specs.KeyspaceId.{unsigned, id_of_number, id_of, id_in}
use Rattle.vindex.specs.NumberText.{number_of_text}
use Rattle.vindex.specs.FaultNumber as filter
use Rattle.vindex.specs.declared.faults.VindexFault.{VindexFault}
use Rattle.vindex.specs.declared.faults.VindexFault.TheVariants.{NotANumber}
use Rattle.vindex.specs.declared.vindexes.Vindex.{Vindex}
use Rattle.vindex.specs.declared.vindexes.Vindex.TheVariants.{Numeric, ReverseBits, Binary, BinaryMd5, Hash}
use Rattle.row_view.specs.Row.{RowValue}
use Rattle.row_view.specs.FieldValue.{FieldValue}
use Rattle.filter_rule.specs.TypeNumbers.{is_whole_number}
use Rattle.filter_rule.specs.WellFormed.{type_at}
use Rattle.filter_rule.specs.PlanValue.{PlanValue, table_of_name, decision_at, columns_of, key_columns_of, column_at, kept_under, passes_of}
use Rattle.filter_rule.specs.declared.decision.Decision.{Decision}
use Rattle.filter_rule.specs.declared.decision.Decision.TheVariants.{NoRule, EveryRow, InRange}
use Rattle.pk_copy.specs.KeyValue.{Part, number, bytes, KeyValue}
use Rattle.pk_copy.specs.KeyOf.{KeyCell, cell_at, key_part_of, is_null, has_no_part, key_in, key_cells, key_of, IsKeyOf}
use Rattle.pk_copy.specs.declared.fault.KeyFault.TheVariants.{NullKey, BadKey}
use Rattle.pk_copy.specs.FaultNumber as keys
use Rattle.source_feed.specs.declared.fault.FeedFault.{FeedFault}
use Rattle.source_feed.specs.declared.fault.FeedFault.TheVariants.{FieldsDiffer}
use Rattle.source_feed.specs.GroupValue.{TableChangeValue, GroupValue}
use Rattle.source_feed.specs.Planned.{PlannedChangeValue, PlannedGroupValue, planned_change, planned_group, planned_groups, groups_under, source_of, same_column, same_columns, differs_at, differs}
use Rattle.source_feed.specs.SourceValue.{table_in_source}
use Rattle.vevent.specs.EventValue.{EventValue, Gtid, Begin, Commit, Rollback, Row, Field, Vgtid, Ignored}
use Rattle.std.proofs.lemmas.Bool.{and_parts, eqb-true}
use Rattle.std.proofs.lemmas.Slice.Eq.{bytes_eq-Decides}
use Rattle.std.specs.Str.{bytes_eq}
use Rattle.std.specs.Cmp.Lexicographic.{pointwise}
use Rattle.source_feed.specs.Touches.{TouchValue, PreparedValue, in_group, key_in_group, passes_in, removal_of, put_of, touches_before, touches_after, touches_of_change, touches_of, prepared}
use Rattle.source_feed.specs.EventList.{events_of_feed}
use Rattle.source_feed.specs.Groups.{groups}
use Rattle.source_feed.specs.History.{touches_in}
use Rattle.run_says.specs.Wire.{EachIs, HaveTogether}
use Rattle.run_says.specs.Filter.{IsId, Answers}
use Rattle.run_says.specs.Says.{IsPart, HasKey, AreOfBefore, AreOfAfter, AreOfChange, Agrees}

-- ---- the filter

ok_inj : {A F : Type 0} (f : F → F) (x y : A) (r : Result A F) → r ≡ Ok x → r ≡ Ok y → x ≡ y
ok_inj f x y r h k = let both : Ok x ≡ Ok y = sym h ∙ k in cc

unsigned_is : (o : Option ℤ) (n : ℕ) → unsigned o ≡ Some n → o ≡ Some (pos n)
unsigned_is None n e = absurd cc
unsigned_is (Some (pos m)) n e = let same : m ≡ n = cc in ap (λ k. Some (pos k)) same
unsigned_is (Some (negsuc m)) n e = absurd cc

abbrev IsNumberId : (ℕ → List ℕ) → List ℕ → List ℕ → Type 0
IsNumberId bytes_of value id = (n : ℕ) × (number_of_text value ≡ Some (pos n)) × (id ≡ bytes_of n)

number_id_by : (bytes_of : ℕ → List ℕ) (value id : List ℕ) (o : Option ℕ) → unsigned (number_of_text value) ≡ o → ok_or (option_map bytes_of o) NotANumber ≡ Ok id → IsNumberId bytes_of value id
number_id_by bytes_of value id None is e = absurd cc
number_id_by bytes_of value id (Some n) is e = let same : bytes_of n ≡ id = cc in (n, unsigned_is (number_of_text value) n is, sym same)

number_id : (bytes_of : ℕ → List ℕ) (value id : List ℕ) → id_of_number bytes_of value ≡ Ok id → IsNumberId bytes_of value id
number_id bytes_of value id e = number_id_by bytes_of value id (unsigned (number_of_text value)) refl e

is_id : (vindex : Vindex) (value id : List ℕ) → id_of vindex (Some value) ≡ Ok id → IsId vindex value id
unfolding id_of
is_id Numeric value id e = number_id (λ n. to_be_bytes w64 n) value id e
is_id ReverseBits value id e = number_id (λ n. to_be_bytes w64 (reverse_bits w64 n)) value id e
is_id Binary value id e = let same : value ≡ id = cc in sym same
is_id BinaryMd5 value id e = let same : md5 value ≡ id = cc in sym same
is_id Hash value id e = number_id (λ n. to_be_bytes w64 (enciphered 0 n)) value id e

no_id : (vindex : Vindex) (id : List ℕ) → id_of vindex None ≡ Ok id → ⊥
unfolding id_of
no_id vindex id e = absurd cc

range_answer : (range : Bounds) (r : Result (List ℕ) VindexFault) (passes : Bool) → id_in range r ≡ Ok passes → (id : List ℕ) × (r ≡ Ok id) × (passes ≡ in_range range id)
range_answer range (Ok id) passes e = let same : in_range range id ≡ passes = cc in (id, refl, sym same)
range_answer range (Err fault) passes e = absurd cc

range_answers : (place : ℕ) (vindex : Vindex) (range : Bounds) (kept : List ℕ) (row : RowValue) (o : Option (List ℕ)) (passes : Bool) → column_at row place ≡ o → id_in range (id_of vindex o) ≡ Ok passes → Answers (InRange place vindex range kept) row passes
range_answers place vindex range kept row None passes at e = let one = range_answer range (id_of vindex None) passes e in absurd (no_id vindex one.0 one.1)
range_answers place vindex range kept row (Some value) passes at e =
    let one = range_answer range (id_of vindex (Some value)) passes e in
    (value, one.0, at, is_id vindex value one.0 one.1, one.2)

answers_by : (decision : Decision) (row : RowValue) (passes : Bool) → kept_under decision row ≡ Ok passes → Answers decision row passes
answers_by NoRule row passes e = let same : false ≡ passes = cc in sym same
answers_by (EveryRow kept) row passes e = let same : true ≡ passes = cc in sym same
answers_by (InRange place vindex range kept) row passes e = range_answers place vindex range kept row (column_at row place) passes refl e

pub passes_answers : (plan : PlanValue) (t : ℕ) (row : RowValue) (passes : Bool) → passes_of plan t row ≡ Ok passes → Answers (decision_at plan t) row passes
passes_answers plan t row passes e = answers_by (decision_at plan t) row passes e

-- ---- the key

answer_key : (null lacking : Bool) (key other : KeyValue) → cond null (Err NullKey) (cond lacking (Err BadKey) (Ok key)) ≡ Ok other → (lacking ≡ false) × (key ≡ other)
answer_key true lacking key other e = absurd cc
answer_key false true key other e = absurd cc
answer_key false false key other e = (refl, cc)

one_part : (o : Option Part) (lacking : Bool) (parts : List Part) (all : List (Option Part)) → (lacking ≡ false → map Some parts ≡ all) → (is_none o || lacking) ≡ false → map Some (cons_option o parts) ≡ o ∷ all
one_part None lacking parts all rest e = absurd cc
one_part (Some part) lacking parts all rest e = ap (λ (more : List (Option Part)). Some part ∷ more) (rest e)

all_parts : (cells : List KeyCell) → list_any has_no_part cells ≡ false → map Some (filter_map key_part_of cells) ≡ map key_part_of cells
all_parts [] e = refl
all_parts (cell ∷ cells) e = one_part (key_part_of cell) (list_any has_no_part cells) (filter_map key_part_of cells) (map key_part_of cells) (all_parts cells) e

key_is : (t : ℕ) (cells : List KeyCell) (key : KeyValue) → key_in t cells ≡ Ok key → IsKeyOf t cells key
key_is t cells key e =
    let tests = answer_key (list_any is_null cells) (list_any has_no_part cells) (record { table = t; parts = filter_map key_part_of cells }) key e in
    record {
      table = ap (λ (k : KeyValue). k.table) (sym tests.1);
      parts = ap (λ (k : KeyValue). map Some k.parts) (sym tests.1) ∙ all_parts cells tests.0;
    }

number_part : (type : ℕ) (value : Option (List ℕ)) (text : List ℕ) (o : Option ℤ) (part : Part) → value ≡ Some text → is_whole_number type ≡ true → number_of_text text ≡ o → option_map number o ≡ Some part → IsPart type value part
number_part type value text None part is whole at e = absurd cc
number_part type value text (Some n) part is whole at e = let same : number n ≡ part = cc in subst (IsPart type value) same (text, is, whole, at)

text_part : (type : ℕ) (value : Option (List ℕ)) (text : List ℕ) (b : Bool) (part : Part) → value ≡ Some text → is_whole_number type ≡ b → cond b (option_map number (number_of_text text)) (Some (bytes text)) ≡ Some part → IsPart type value part
text_part type value text true part is whole e = number_part type value text (number_of_text text) part is whole refl e
text_part type value text false part is whole e = let same : bytes text ≡ part = cc in subst (IsPart type value) same (is, whole)

part_is : (type : ℕ) (value : Option (List ℕ)) (part : Part) → key_part_of (record { type_number = type; value = value }) ≡ Some part → IsPart type value part
part_is type None part e = absurd cc
part_is type (Some text) part e = text_part type (Some text) text (is_whole_number type) part refl refl e

abbrev IsPartAt : List FieldValue → RowValue → ℕ → Part → Type 0
IsPartAt columns row place part = IsPart (type_at columns place) (column_at row place) part

parts_each : (columns : List FieldValue) (row : RowValue) (places : List ℕ) (parts : List Part) → map Some parts ≡ map key_part_of (map (cell_at columns row) places) → EachIs (IsPartAt columns row) places parts
parts_each columns row [] [] e = tt
parts_each columns row [] (part ∷ parts) e = absurd cc
parts_each columns row (place ∷ places) [] e = absurd cc
parts_each columns row (place ∷ places) (part ∷ parts) e =
    let here : key_part_of (cell_at columns row place) ≡ Some part = cc in
    let later : map Some parts ≡ map key_part_of (map (cell_at columns row) places) = cc in
    (part_is (type_at columns place) (column_at row place) part here, parts_each columns row places parts later)

-- ---- the touches of a change

in_group_ok : {A F : Type 0} (numbers : F → ℕ) (group t : ℕ) (r : Result A F) (x : A) → in_group numbers group t r ≡ Ok x → r ≡ Ok x
in_group_ok numbers group t (Ok y) x e = let same : y ≡ x = cc in ap (λ z. Ok z) same
in_group_ok numbers group t (Err fault) x e = absurd cc

abbrev feed_ok : {A : Type 0} → A → Result A FeedFault
feed_ok x = Ok x

ok_is : {A : Type 0} (x y : A) → feed_ok x ≡ Ok y → x ≡ y
ok_is x y e = cc

has_key : (plan : PlanValue) (group t : ℕ) (row : RowValue) (key : KeyValue) → key_in_group plan group t row ≡ Ok key → HasKey plan t row key
has_key plan group t row key e =
    let is = key_is t (key_cells plan t row) key (in_group_ok keys.number_of group t (key_of plan t row) key e) in
    (is.table, parts_each (columns_of plan t) row (key_columns_of plan t) key.parts is.parts)

before_is : (plan : PlanValue) (group t : ℕ) (row : Option RowValue) (touches : List TouchValue) → touches_before plan group t row ≡ Ok touches → AreOfBefore plan t row touches
before_is plan group t None touches e = sym (ok_is [] touches e)
before_is plan group t (Some row) touches e =
    let one = bind_ok (removal_of plan group t row) (λ touch. Ok (touch ∷ [])) touches e in
    let key = bind_ok (key_in_group plan group t row) (λ key. Ok (key, None)) one.0 one.1 in
    (key.0, has_key plan group t row key.0 key.1, sym (ok_is (one.0 ∷ []) touches one.2) ∙ ap (λ touch. touch ∷ []) (sym (ok_is (key.0, None) one.0 key.2)))

after_is : (plan : PlanValue) (group t : ℕ) (row : Option RowValue) (touches : List TouchValue) → touches_after plan group t row ≡ Ok touches → AreOfAfter plan t row touches
after_is plan group t None touches e = sym (ok_is [] touches e)
after_is plan group t (Some row) touches e =
    let one = bind_ok (put_of plan group t row) (λ touch. Ok (touch ∷ [])) touches e in
    let key = bind_ok (key_in_group plan group t row) (λ key. passes_in plan group t row >>= λ passes. Ok (key, Some (record { row = row; passes = passes }))) one.0 one.1 in
    let passes = bind_ok (passes_in plan group t row) (λ passes. Ok (key.0, Some (record { row = row; passes = passes }))) one.0 key.2 in (
      key.0,
      passes.0,
      has_key plan group t row key.0 key.1,
      passes_answers plan t row passes.0 (in_group_ok filter.number_of_fault group t (passes_of plan t row) passes.0 passes.1),
      sym (ok_is (one.0 ∷ []) touches one.2) ∙ ap (λ touch. touch ∷ []) (sym (ok_is (key.0, Some (record { row = row; passes = passes.0 })) one.0 passes.2)),
    )

-- the touches of a change of a planned table
abbrev IsMade : PlanValue → ℕ → PlannedChangeValue → List TouchValue → Type 0
IsMade plan group change touches = (removed put : List TouchValue) × AreOfBefore plan change.table change.before removed × AreOfAfter plan change.table change.after put × (touches ≡ removed ++ put)

change_is : (plan : PlanValue) (group : ℕ) (change : PlannedChangeValue) (touches : List TouchValue) → touches_of_change plan group change ≡ Ok touches → IsMade plan group change touches
change_is plan group change touches e =
    let removed = bind_ok (touches_before plan group change.table change.before) (λ removed. touches_after plan group change.table change.after >>= λ put. Ok (removed ++ put)) touches e in
    let put = bind_ok (touches_after plan group change.table change.after) (λ put. Ok (removed.0 ++ put)) touches removed.2 in
    (removed.0, put.0, before_is plan group change.table change.before removed.0 removed.1, after_is plan group change.table change.after put.0 put.1, sym (ok_is (removed.0 ++ put.0) touches put.2))

-- the table of a change by the number that the plan has of it
at_table : (plan : PlanValue) (change : TableChangeValue) (touches : List TouchValue) (o : Option ℕ) → table_of_name plan change.table ≡ o
    → MatchOption o (touches ≡ []) (λ t. (removed put : List TouchValue) × AreOfBefore plan t change.before removed × AreOfAfter plan t change.after put × (touches ≡ removed ++ put)) → AreOfChange plan change touches
at_table plan change touches o is h = subst (λ (p : Option ℕ). MatchOption p (touches ≡ []) (λ t. (removed put : List TouchValue) × AreOfBefore plan t change.before removed × AreOfAfter plan t change.after put × (touches ≡ removed ++ put))) (sym is) h

made_step : (plan : PlanValue) (group : ℕ) (change : TableChangeValue) (more : List TableChangeValue) (o : Option ℕ) (touches : List TouchValue) → table_of_name plan change.table ≡ o
    → ((ts : List TouchValue) → touches_of plan group (filter_map (planned_change plan) more) ≡ Ok ts → HaveTogether (AreOfChange plan) more ts)
    → touches_of plan group (cons_option (option_map (λ t. record { table = t; before = change.before; after = change.after }) o) (filter_map (planned_change plan) more)) ≡ Ok touches → HaveTogether (AreOfChange plan) (change ∷ more) touches
made_step plan group change more None touches is later e = ([], touches, at_table plan change [] None is refl, later touches e, refl)
made_step plan group change more (Some t) touches is later e =
    let planned : PlannedChangeValue = record { table = t; before = change.before; after = change.after } in
    let own = bind_ok (touches_of_change plan group planned) (λ own. touches_of plan group (filter_map (planned_change plan) more) >>= λ others. Ok (own ++ others)) touches e in
    let others = bind_ok (touches_of plan group (filter_map (planned_change plan) more)) (λ others. Ok (own.0 ++ others)) touches own.2 in
    (own.0, others.0, at_table plan change own.0 (Some t) is (change_is plan group planned own.0 own.1), later others.0 others.1, sym (ok_is (own.0 ++ others.0) touches others.2))

made : (plan : PlanValue) (group : ℕ) (changes : List TableChangeValue) (touches : List TouchValue) → touches_of plan group (filter_map (planned_change plan) changes) ≡ Ok touches → HaveTogether (AreOfChange plan) changes touches
made plan group [] touches e = sym (ok_is [] touches e)
made plan group (change ∷ more) touches e = made_step plan group change more (table_of_name plan change.table) touches refl (made plan group more) e

-- ---- all groups

together_more : {A B : Type 0} (Has : A → List B → Type 0) (xs ys : List A) (one other : List B) → HaveTogether Has xs one → HaveTogether Has ys other → HaveTogether Has (xs ++ ys) (one ++ other)
together_more {A} {B} Has [] ys one other h k = subst (λ (zs : List B). HaveTogether Has ys (zs ++ other)) (sym h) k
together_more {A} {B} Has (x ∷ xs) ys one other (own, others, here, later, is) k =
    (own, others ++ other, here, together_more Has xs ys others other later k, ap (λ (zs : List B). zs ++ other) is ∙ append_assoc own others other)

group_made : (plan : PlanValue) (group : GroupValue) (one : PreparedValue) → prepared plan (planned_group plan group) ≡ Ok one → HaveTogether (AreOfChange plan) group.changes one.touches
group_made plan group one e =
    let touches = bind_ok (touches_of plan group.number (filter_map (planned_change plan) group.changes)) (λ touches. Ok (record { plan = plan; number = group.number; position = group.position; touches = touches })) one e in
    let is : record { plan = plan; number = group.number; position = group.position; touches = touches.0 } ≡ one = ok_is (record { plan = plan; number = group.number; position = group.position; touches = touches.0 }) one touches.2 in
    subst (λ (p : PreparedValue). HaveTogether (AreOfChange plan) group.changes p.touches) is (made plan group.number group.changes touches.0 touches.1)

abbrev pub groups_prepared : PlanValue → List GroupValue → List (Result PreparedValue FeedFault)
groups_prepared plan all = map (prepared plan) (map (planned_group plan) all)

groups_step : (plan : PlanValue) (group : GroupValue) (all : List GroupValue) (r : Result PreparedValue FeedFault) → prepared plan (planned_group plan group) ≡ r → length (ok_prefix (r ∷ groups_prepared plan all)) ≡ suc (length all)
    → (length (ok_prefix (groups_prepared plan all)) ≡ length all → HaveTogether (AreOfChange plan) (flat_map (λ (g : GroupValue). g.changes) all) (touches_in (ok_prefix (groups_prepared plan all))))
    → HaveTogether (AreOfChange plan) (group.changes ++ flat_map (λ (g : GroupValue). g.changes) all) (touches_in (ok_prefix (r ∷ groups_prepared plan all)))
groups_step plan group all (Ok one) is sound later = together_more (AreOfChange plan) group.changes (flat_map (λ (g : GroupValue). g.changes) all) one.touches (touches_in (ok_prefix (groups_prepared plan all))) (group_made plan group one is) (later (omega (arith, sound)))
groups_step plan group all (Err fault) is sound later = absurd (omega (arith, sound))

pub groups_made : (plan : PlanValue) (all : List GroupValue) → length (ok_prefix (groups_prepared plan all)) ≡ length all → HaveTogether (AreOfChange plan) (flat_map (λ (g : GroupValue). g.changes) all) (touches_in (ok_prefix (groups_prepared plan all)))
groups_made plan [] sound = refl
groups_made plan (group ∷ all) sound = groups_step plan group all (prepared plan (planned_group plan group)) refl sound (groups_made plan all)

-- ---- the columns

same_fields : (columns fields : List FieldValue) → pointwise same_column columns fields ≡ true → fields ≡ columns
same_fields [] [] e = refl
same_fields [] (field ∷ fields) e = absurd cc
same_fields (column ∷ columns) [] e = absurd cc
same_fields (column ∷ columns) (field ∷ fields) e =
    let both = and_parts (same_column column field) (pointwise same_column columns fields) e in
    let one = and_parts (bytes_eq column.name field.name) (eqb column.type_number field.type_number) both.0 in
    let name : field.name ≡ column.name = sym ((bytes_eq-Decides column.name field.name).0 one.0) in
    let type : field.type_number ≡ column.type_number = sym (eqb-true column.type_number field.type_number one.1) in
    let same : field ≡ column = ap (λ (n : List ℕ). record { name = n; type_number = field.type_number }) name ∙ ap (λ (k : ℕ). record { name = column.name; type_number = k }) type in
    ap (λ (f : FieldValue). f ∷ fields) same ∙ ap (λ (fs : List FieldValue). column ∷ fs) (same_fields columns fields both.1)

not_other : (b : Bool) → not b ≡ false → b ≡ true
not_other true e = refl
not_other false e = absurd cc

agrees_at : (plan : PlanValue) (o : Option ℕ) (fields : List FieldValue) → differs_at plan o fields ≡ false → IfSome o (λ t. fields ≡ columns_of plan t)
agrees_at plan None fields e = tt
agrees_at plan (Some t) fields e = same_fields (columns_of plan t) fields (not_other (same_columns (columns_of plan t) fields) e)

agrees : (plan : PlanValue) (event : EventValue) → differs plan event ≡ false → Agrees plan event
agrees plan (Field name fields) e = agrees_at plan (table_of_name plan (table_in_source (source_of plan) name)) fields e
agrees plan (Gtid text) e = tt
agrees plan (Vgtid entries) e = tt
agrees plan (Row name changes) e = tt
agrees plan Begin e = tt
agrees plan Commit e = tt
agrees plan Rollback e = tt
agrees plan (Ignored which) e = tt

first_false : (a b : Bool) → (a || b) ≡ false → (a ≡ false) × (b ≡ false)
first_false true b e = absurd cc
first_false false b e = (refl, e)

pub agree_all : (plan : PlanValue) (events : List EventValue) → list_any (differs plan) events ≡ false → AllByRecursion (Agrees plan) events
agree_all plan [] e = tt
agree_all plan (event ∷ events) e = let both = first_false (differs plan event) (list_any (differs plan) events) e in (agrees plan event both.0, agree_all plan events both.1)

-- ---- under a plan

-- what is given under a plan
pub record IsUnder (plan : PlanValue) (feed : List ℕ) (planned : List PlannedGroupValue) : Type 0 where
  pub all : List GroupValue
  pub given : groups feed (source_of plan) ≡ Ok all
  pub columns : list_any (differs plan) (events_of_feed feed).items ≡ false
  pub are : map (planned_group plan) all ≡ planned

under_if : (plan : PlanValue) (feed : List ℕ) (planned : List PlannedGroupValue) (all : List GroupValue) (other : Bool) → groups feed (source_of plan) ≡ Ok all → list_any (differs plan) (events_of_feed feed).items ≡ other
    → cond other (Err FieldsDiffer) (Ok (map (planned_group plan) all)) ≡ Ok planned → IsUnder plan feed planned
under_if plan feed planned all true given is e = absurd cc
under_if plan feed planned all false given is e = record { all = all; given = given; columns = is; are = ok_is (map (planned_group plan) all) planned e }

under_by : (plan : PlanValue) (feed : List ℕ) (planned : List PlannedGroupValue) (r : Result (List GroupValue) FeedFault) → groups feed (source_of plan) ≡ r → planned_groups plan (events_of_feed feed).items r ≡ Ok planned → IsUnder plan feed planned
under_by plan feed planned (Ok all) is e = under_if plan feed planned all (list_any (differs plan) (events_of_feed feed).items) is refl e
under_by plan feed planned (Err fault) is e = absurd cc

pub is_under : (plan : PlanValue) (feed : List ℕ) (planned : List PlannedGroupValue) → groups_under feed plan ≡ Ok planned → IsUnder plan feed planned
is_under plan feed planned e = under_by plan feed planned (groups feed (source_of plan)) refl e
