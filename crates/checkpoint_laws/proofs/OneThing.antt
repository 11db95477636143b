-- Bytes say one thing at most.
use Rattle.std.proofs.Common.{◌≡◌, ◌==◌, ℕ, zero, suc, ◌<◌, ◌≤◌, inl, inr, true, cond, le_refl, List, [], ◌∷◌, ◌++◌, length, map, Option, Some, None, Result, Ok, slice_get, refl, sym, ap, subst, ◌∙◌, arith}
use Rattle.std.proofs.lemmas.Bool.{eqb-true, ne_eqb, cases_lt, lt-ltb, le-ltb}
use borrow.Author.Tests.{eq-eqb}
use Rattle.std.proofs.lemmas.List.{append_cancel_left}
use Rattle.std.proofs.lemmas.Option.{same_Some, none-some}
use Rattle.std.specs.List.{AllByRecursion}
use Rattle.std.specs.Result.{result_ok}
use Rattle.list_laws.proofs.Places.{place_of}
use Rattle.filter_rule.specs.PlanValue.{PlanValue}
use Rattle.filter_rule.specs.WellFormed.{IsPlan}
use Rattle.pk_copy.specs.KeyOfKept.{key_of_kept}
use Rattle.pk_copy.specs.KeyValue.{KeyValue}
use Rattle.pk_copy.specs.Lastpk.{key_of_lastpk}
use Rattle.pk_copy.specs.Marks.{copied, waiting, Marks, current_mark, mark_of}
use Rattle.proto_wire.specs.declared.fault.FrameFault.{FrameFault}
use Rattle.proto_wire.specs.Frame.{frames_of}
use Rattle.proto_wire.specs.Reading.{Reading}
use Rattle.source_feed.specs.History.{RowValue}
use Rattle.source_feed.specs.Image.{ImageRows, row_in}
use Rattle.vevent.specs.declared.fault.EventFault.{EventFault}
use Rattle.vevent.specs.CheckpointPart.{TablePartValue, StreamPartValue, stream_part_at}
use Rattle.board_laws.proofs.Lookups.{Ties, all-filter, filter-passes, lookup-filter, same_rows}
use Rattle.checkpoint_laws.specs.declared.version.Version.{Version}
use Rattle.checkpoint_laws.specs.declared.version.Version.TheVariants.{One, Two}
use Rattle.checkpoint_laws.specs.Saved.{SavedStream}
use Rattle.checkpoint_laws.specs.Written.{number_of_mark, saved_rows_of_table, opening}
use Rattle.checkpoint_laws.specs.Said.{AreStreamParts, SaysLast, SaysTable, IsKeyed, AreSoMany, SaysStream}
use Rattle.checkpoint_laws.specs.Laws.{CheckpointsSayOneThing}
use Rattle.checkpoint_laws.proofs.ResumedLaws.{at_same_place}
use Rattle.checkpoint_laws.proofs.RestartedLaws.{same_at_places}

-- ---- one list of parts

abbrev Read : Type 0
Read = Result StreamPartValue EventFault

abbrev read : StreamPartValue → Read
read part = Ok part

abbrev rest_of : List Read → List Read
rest_of [] = []
rest_of (r ∷ rs) = rs

same_oks : (xs ys : List StreamPartValue) → map read xs ≡ map read ys → xs ≡ ys
same_oks [] [] e = refl
same_oks [] (y ∷ ys) e = absurd (none-some (read y) (ap (λ (rs : List Read). slice_get rs 0) e))
same_oks (x ∷ xs) [] e = absurd (none-some (read x) (ap (λ (rs : List Read). slice_get rs 0) (sym e)))
same_oks (x ∷ xs) (y ∷ ys) e =
    let first : read x ≡ read y = same_Some (read x) (read y) (ap (λ (rs : List Read). slice_get rs 0) e) in
    let value : x ≡ y = same_Some x y (ap result_ok first) in
    let later : xs ≡ ys = same_oks xs ys (ap rest_of e) in
    λ i. value i ∷ later i

as_read : (xs : List StreamPartValue) → ◌≡◌ {A = List Read} (map Ok xs) (map read xs)
as_read [] = refl
as_read (x ∷ xs) = λ i. read x ∷ as_read xs i

-- bytes are of one version
pub one_version : (bytes : List ℕ) (v w : Version) (r s : List ℕ) → bytes ≡ opening v ++ r → bytes ≡ opening w ++ s → v ≡ w
one_version bytes One One r s p q = refl
one_version bytes Two Two r s p q = refl
one_version bytes One Two r s p q =
    let clash : Some 49 ≡ Some 50 = ap (λ (bs : List ℕ). slice_get bs 7) (sym p ∙ q) in
    let same : 49 ≡ 50 = same_Some 49 50 clash in
    absurd (omega (arith, same))
one_version bytes Two One r s p q =
    let clash : Some 50 ≡ Some 49 = ap (λ (bs : List ℕ). slice_get bs 7) (sym p ∙ q) in
    let same : 50 ≡ 49 = same_Some 50 49 clash in
    absurd (omega (arith, same))

-- the parts of bytes are one list
pub same_parts : (version : Version) (bytes : List ℕ) (xs ys : List StreamPartValue) → AreStreamParts version bytes xs → AreStreamParts version bytes ys → xs ≡ ys
same_parts version bytes xs ys p q =
    let rest : p.rest ≡ q.rest = append_cancel_left (opening version) p.rest q.rest (sym p.opened ∙ q.opened) in
    let messages : p.messages ≡ q.messages = ap (λ (r : Reading (List ℕ) FrameFault). r.items) (sym p.framed ∙ ap frames_of rest ∙ q.framed) in
    same_oks xs ys (sym (as_read xs) ∙ sym p.read ∙ ap (map stream_part_at) messages ∙ q.read ∙ as_read ys)

-- ---- marks

pub done_at : (m : Marks) (t : ℕ) → t < m.done → mark_of m t ≡ copied
done_at m t less = ap (λ b. cond b copied (cond (t == m.done) (current_mark m.upto) waiting)) (lt-ltb t m.done less)

current_at : (m : Marks) → mark_of m m.done ≡ current_mark m.upto
current_at m =
    ap (λ b. cond b copied (cond (m.done == m.done) (current_mark m.upto) waiting)) (le-ltb m.done m.done (le_refl m.done))
    ∙ ap (λ b. cond b (current_mark m.upto) waiting) (eq-eqb m.done m.done refl)

not_copied : {P : Type 0} (o : Option KeyValue) → number_of_mark (current_mark o) ≡ 2 → P
not_copied None e = absurd (omega (arith, e))
not_copied (Some key) e = absurd (omega (arith, e))

-- marks of as many tables whose numbers are the same have as many tables done
no_less : {P : Type 0} (x y : Marks) (n : ℕ) → ((t : ℕ) → t < n → number_of_mark (mark_of x t) ≡ number_of_mark (mark_of y t)) → y.done ≤ n → x.done < y.done → P
no_less x y n same within less =
    not_copied x.upto (ap number_of_mark (sym (current_at x)) ∙ same x.done (omega (arith, within, less)) ∙ ap number_of_mark (done_at y x.done less))

same_done : (x y : Marks) (n : ℕ) → ((t : ℕ) → t < n → number_of_mark (mark_of x t) ≡ number_of_mark (mark_of y t)) → x.done ≤ n → y.done ≤ n → x.done ≡ y.done
same_done x y n same p q = elim (cases_lt x.done y.done) [
  | inl less ↦ no_less x y n same q less
  | inr most ↦ elim (cases_lt y.done x.done) [
    | inl less ↦ no_less y x n (λ t h. sym (same t h)) p less
    | inr least ↦ omega (arith, most, least)
  ]
]

same_key : (plan : PlanValue) (t : ℕ) (o p : Option KeyValue) (last : Option RowValue) → number_of_mark (current_mark o) ≡ number_of_mark (current_mark p)
    → SaysLast plan t (current_mark o) last → SaysLast plan t (current_mark p) last → o ≡ p
same_key plan t None None last e a b = refl
same_key plan t None (Some q) last e a b = absurd (omega (arith, e))
same_key plan t (Some k) None last e a b = absurd (omega (arith, e))
same_key plan t (Some k) (Some q) last e (one, is_one, long, k_of) (other, is_other, as_long, q_of) =
    let row : one ≡ other = same_Some one other (sym is_one ∙ is_other) in
    ap Some (same_Some k q (ap result_ok (sym k_of ∙ ap (key_of_lastpk plan t) row ∙ q_of)))

-- no key is marked where the table that isn't done waits
unmarked : (o : Option KeyValue) → current_mark o ≡ waiting → o ≡ None
unmarked None e = refl
unmarked (Some key) e = let clash : 1 ≡ 0 = ap number_of_mark e in absurd (omega (arith, clash))

-- ---- rows

abbrev Row : Type 0
Row = KeyValue × RowValue

abbrev Keyed : PlanValue → ImageRows → Type 0
Keyed plan rows = AllByRecursion (IsKeyed plan) rows

abbrev Of : ℕ → ImageRows → Type 0
Of t rows = AllByRecursion (λ (row : Row). (row.0.table == t) ≡ true) rows

abbrev values : ImageRows → List RowValue
values rows = map (λ (row : Row). row.1) rows

abbrev others : List RowValue → List RowValue
others [] = []
others (row ∷ rows) = rows

same_keyed : (plan : PlanValue) (t : ℕ) (xs ys : ImageRows) → Keyed plan xs → Keyed plan ys → Of t xs → Of t ys → values xs ≡ values ys → xs ≡ ys
same_keyed plan t [] [] a b c d e = refl
same_keyed plan t [] (y ∷ ys) a b c d e = absurd (none-some y.1 (ap (λ (rows : List RowValue). slice_get rows 0) e))
same_keyed plan t (x ∷ xs) [] a b c d e = absurd (none-some x.1 (ap (λ (rows : List RowValue). slice_get rows 0) (sym e)))
same_keyed plan t (x ∷ xs) (y ∷ ys) a b c d e =
    let row : x.1 ≡ y.1 = same_Some x.1 y.1 (ap (λ (rows : List RowValue). slice_get rows 0) e) in
    let table : x.0.table ≡ y.0.table = eqb-true x.0.table t c.0 ∙ sym (eqb-true y.0.table t d.0) in
    let key : x.0 ≡ y.0 = same_Some x.0 y.0 (ap result_ok (sym a.0.key ∙ ap (λ (n : ℕ). key_of_kept plan n x.1) table ∙ ap (key_of_kept plan y.0.table) row ∙ b.0.key)) in
    let later : xs ≡ ys = same_keyed plan t xs ys a.1 b.1 c.1 d.1 (ap others e) in
    λ i. (key i, row i) ∷ later i

none_of : (n t : ℕ) (rows : ImageRows) → n ≤ t → AllByRecursion (λ (row : Row). row.0.table < n) rows → saved_rows_of_table t rows ≡ []
none_of n t [] most h = refl
none_of n t (row ∷ rows) most h =
    let inside : row.0.table < n = h.0 in
    ap (λ b. cond b (row ∷ saved_rows_of_table t rows) (saved_rows_of_table t rows)) (ne_eqb row.0.table t (λ e. absurd (omega (arith, e, inside, most)))) ∙ none_of n t rows most h.1

in_table : (ties : Ties) (rows : ImageRows) (q : KeyValue) → row_in (saved_rows_of_table q.table rows) q ≡ row_in rows q
in_table ties rows q =
    lookup-filter ties (λ k. k.table == q.table) rows q ∙ ap (λ b. cond b (row_in rows q) None) (eq-eqb q.table q.table refl)

-- ---- one stream

-- there is a part of a table at least
some_part : (version : Version) (plan : PlanValue) (n : ℕ) → 1 ≤ length plan.tables → AreSoMany version plan n → 1 ≤ n
some_part One plan n some many = omega (arith, some, many)
some_part Two plan n some many = many.0

module _ (ties : Ties) (version : Version) (plan : PlanValue) (some : 1 ≤ length plan.tables) (x y : SavedStream) (part : StreamPartValue) (p : SaysStream version plan x part) (q : SaysStream version plan y part) where
  record Table (t : ℕ) : Type 0 where
    value : TablePartValue
    one : SaysTable version plan x t value
    other : SaysTable version plan y t value

  table_at : (t : ℕ) → t < length part.tables → Table t
  table_at t less =
      let there : (table : TablePartValue) × (slice_get part.tables t ≡ Some table) = place_of part.tables t less in
      record { value = there.0; one = p.each_table t there.0 there.1; other = q.each_table t there.0 there.1 }

  same_number : (t : ℕ) → number_of_mark (mark_of x.marks t) ≡ number_of_mark (mark_of y.marks t)
  same_number t = elim (cases_lt t (length part.tables)) [
    | inl less ↦ (let table : Table t = table_at t less in sym table.one.mark ∙ table.other.mark)
    | inr most ↦ ap number_of_mark (p.further t most ∙ sym (q.further t most))
  ]

  same_position : x.position ≡ y.position
  same_position = let table : Table 0 = table_at 0 (some_part version plan (length part.tables) some p.count) in same_Some x.position y.position (ap result_ok (sym table.one.answer.position ∙ table.other.answer.position))

  done : x.marks.done ≡ y.marks.done
  done =
      let a : x.marks.done ≤ x.marks.tables = p.sound.marks.within in
      let b : y.marks.done ≤ y.marks.tables = q.sound.marks.within in
      same_done x.marks y.marks (length plan.tables) (λ t _. same_number t) (omega (arith, a, p.sound.tables)) (omega (arith, b, q.sound.tables))

  upto : x.marks.upto ≡ y.marks.upto
  upto = elim (cases_lt x.marks.done (length part.tables)) [
    | inl less ↦ (
        let table : Table x.marks.done = table_at x.marks.done less in
        let y_at : mark_of y.marks x.marks.done ≡ current_mark y.marks.upto = ap (mark_of y.marks) done ∙ current_at y.marks in
        same_key plan x.marks.done x.marks.upto y.marks.upto table.value.answer.lastpk
        (ap number_of_mark (sym (current_at x.marks)) ∙ same_number x.marks.done ∙ ap number_of_mark y_at)
        (subst (λ m. SaysLast plan x.marks.done m table.value.answer.lastpk) (current_at x.marks) table.one.answer.last)
        (subst (λ m. SaysLast plan x.marks.done m table.value.answer.lastpk) y_at table.other.answer.last))
    | inr most ↦ (
        let y_at : mark_of y.marks x.marks.done ≡ current_mark y.marks.upto = ap (mark_of y.marks) done ∙ current_at y.marks in
        unmarked x.marks.upto (sym (current_at x.marks) ∙ p.further x.marks.done most) ∙ sym (unmarked y.marks.upto (sym y_at ∙ q.further x.marks.done most)))
  ]

  same_tables : (t : ℕ) → saved_rows_of_table t x.rows ≡ saved_rows_of_table t y.rows
  same_tables t = elim (cases_lt t (length part.tables)) [
    | inl less ↦ (
        let table : Table t = table_at t less in
        same_keyed plan t (saved_rows_of_table t x.rows) (saved_rows_of_table t y.rows) (all-filter (IsKeyed plan) (λ row. row.0.table == t) x.rows p.sound.keyed) (all-filter (IsKeyed plan) (λ row. row.0.table == t) y.rows q.sound.keyed)
        (filter-passes (λ (row : Row). row.0.table == t) x.rows) (filter-passes (λ (row : Row). row.0.table == t) y.rows) (sym table.one.answer.rows ∙ table.other.answer.rows))
    | inr most ↦ none_of (length part.tables) t x.rows most p.bare ∙ sym (none_of (length part.tables) t y.rows most q.bare)
  ]

  rows : x.rows ≡ y.rows
  rows =
      same_rows ties x.rows y.rows p.sound.rising q.sound.rising
      (λ k. sym (in_table ties x.rows k) ∙ ap (λ (rows : ImageRows). row_in rows k) (same_tables k.table) ∙ in_table ties y.rows k)

  pub one_stream : x ≡ y
  one_stream =
      let tables : x.marks.tables ≡ y.marks.tables = p.sound.tables ∙ sym q.sound.tables in
      λ i. record { position = same_position i; marks = record { tables = tables i; done = done i; upto = upto i }; rows = rows i }

-- ---- the checkpoint

plan_at : (plans : List PlanValue) (s : ℕ) (plan : PlanValue) → AllByRecursion IsPlan plans → slice_get plans s ≡ Some plan → IsPlan plan
plan_at [] s plan h e = absurd (none-some plan e)
plan_at (p ∷ plans) zero plan h e = subst IsPlan (same_Some p plan e) h.0
plan_at (p ∷ plans) (suc s) plan h e = plan_at plans s plan h.1 e

pub one_thing : Ties → CheckpointsSayOneThing
one_thing ties plans bytes one other well p q = same_at_places one other (p.same_count ∙ sym q.same_count) (λ s x y here there.
    let plan : (plan : PlanValue) × (slice_get plans s ≡ Some plan) = at_same_place one plans s x p.same_count here in
    let part : (part : StreamPartValue) × (slice_get p.parts s ≡ Some part) = at_same_place plans p.parts s plan.0 (sym p.count) plan.1 in
    let version : q.version ≡ p.version = one_version bytes q.version p.version q.are.rest p.are.rest q.are.opened p.are.opened in
    let are : AreStreamParts p.version bytes q.parts = subst (λ (v : Version). AreStreamParts v bytes q.parts) version q.are in
    let also : slice_get q.parts s ≡ Some part.0 = ap (λ (parts : List StreamPartValue). slice_get parts s) (same_parts p.version bytes q.parts p.parts are p.are) ∙ part.1 in
    one_stream ties p.version plan.0 (plan_at plans s plan.0 well plan.1).tables.count.0 x y part.0 (p.each_stream s plan.0 x part.0 plan.1 here part.1)
    (subst (λ (v : Version). SaysStream v plan.0 y part.0) version (q.each_stream s plan.0 y part.0 plan.1 there also)))
