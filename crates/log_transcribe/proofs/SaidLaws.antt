-- What a feed says of tables, one event further; and that it has the columns of those that had rows.
use Rattle.std.proofs.Common.{◌≡◌, ℕ, Bool, true, false, List, [], ◌∷◌, ◌++◌, map, reverse, set, Option, None, Some, Ok, Err, refl, sym, ap, subst, ◌∙◌, inl, inr, arith}
use Rattle.std.proofs.lemmas.Bool.{cases_Bool, cases_eq, cond-true, cond-false, false≢true}
use Rattle.std.proofs.lemmas.Bool.Decides.{nat_tests}
use Rattle.std.proofs.lemmas.Slice.Eq.{bytes_eq-Decides}
use Rattle.std.specs.Prelude.{◌&&◌, ◌==◌, if◌then◌else◌}
use Rattle.std.specs.Str.{bytes_eq}
use Rattle.std.specs.Cmp.Lexicographic.{same_text}
use Rattle.row_view.specs.FieldValue.{FieldValue}
use Rattle.vevent.specs.EventValue.{EventValue, Field}
use Rattle.source_feed.specs.declared.fault.FeedFault.TheVariants.{FieldsDiffer}
use Rattle.source_feed.specs.Planned.{same_column, same_columns}
use Rattle.source_feed.specs.PastEvents.{PastEvents, last_field}
use Rattle.source_feed.specs.SourceValue.{SourceValue, table_in_source}
use Rattle.log_feed.specs.declared.table.Stage.{Stage}
use Rattle.log_feed.specs.declared.table.Stage.TheVariants.{Filled}
use Rattle.log_feed.specs.Table.{TableValue, field_of, table_of, stage_at}
use Rattle.log_laws.specs.Source.{SourceTables, source_of}
use Rattle.log_laws.specs.Far.{SaysColumns}
use Rattle.log_laws.proofs.Steps.{given, same_value, reverse-onto}
use Rattle.log_laws.proofs.StageLaws.{own_name, same_table, rows_filled}
use Rattle.log_transcribe.specs.Said.{said_there, event_said, events_said}

same_number : (a b : ℕ) → (a == b) ≡ true → a ≡ b
same_number a b e = grind (arith, nat_tests)

same_field : (column field : FieldValue) → same_column column field ≡ true → column ≡ field
same_field column field e = by (bytes_eq column.name field.name) (column.type_number == field.type_number) refl refl e
  where
    by : (x y : Bool) → bytes_eq column.name field.name ≡ x → (column.type_number == field.type_number) ≡ y → (x && y) ≡ true → column ≡ field
    by true true n t h = let name : column.name ≡ field.name = same_text column.name field.name (sym n) in let number : column.type_number ≡ field.type_number = same_number column.type_number field.type_number t in
        ap (λ (n : List ℕ). record { name = n; type_number = column.type_number }) name ∙ ap (λ (k : ℕ). record { name = field.name; type_number = k }) number
    by true false n t h = cc
    by false y n t h = cc

same_fields : (columns fields : List FieldValue) → same_columns columns fields ≡ true → columns ≡ fields
same_fields [] [] e = refl
same_fields [] (f ∷ fields) e = cc
same_fields (c ∷ columns) [] e = cc
same_fields (c ∷ columns) (f ∷ fields) e = by (same_column c f) (same_columns columns fields) refl refl (λ others. same_fields columns fields others) e
  where
    by : (x y : Bool) → same_column c f ≡ x → same_columns columns fields ≡ y → (same_columns columns fields ≡ true → columns ≡ fields) → (x && y) ≡ true → c ∷ columns ≡ f ∷ fields
    by true true one rest behind h = ap (λ (x : FieldValue). x ∷ columns) (same_field c f one) ∙ ap (λ (xs : List FieldValue). f ∷ xs) (behind rest)
    by true false one rest behind h = cc
    by false y one rest behind h = cc

module _ (s : SourceTables) where
  abbrev source : SourceValue
  source = source_of s

  none_some : {A : Type 0} {P : Type 0} (x : A) → ◌≡◌ {A = Option A} None (Some x) → P
  none_some x e = cc

  same_pair : {A : Type 0} (x y : A) → ◌≡◌ {A = Option A} (Some x) (Some y) → x ≡ y
  same_pair x y e = cc

  there_further : (past : PastEvents) (stages new : List Stage) (name : List ℕ) (columns : List FieldValue) (found : Option (ℕ × TableValue)) → table_of (table_in_source source name) s.tables ≡ found
      → said_there columns stages found ≡ Ok new → SaysColumns s past stages → SaysColumns s (Field name columns ∷ past) new
  there_further past stages new name columns None is e said = λ own place table here filled. elim (cases_Bool (bytes_eq (table_in_source source name) table.name)) [
    | inl same ↦
        let named : table_in_source source name ≡ own = same_text (table_in_source source name) table.name (sym same) ∙ own_name place own s.tables table here in
        none_some (place, table) (sym is ∙ ap (λ (n : List ℕ). table_of n s.tables) named ∙ here)
    | inr other ↦
        cond-false (bytes_eq (table_in_source source name) table.name) (Some columns) (last_field source past table.name) other
        ∙ said own place table here (ap (λ (ss : List Stage). stage_at ss place) (same_value stages new e) ∙ filled)
  ]
  there_further past stages new name columns (Some x) is e said = by (same_columns (map field_of x.1.columns) columns) refl e
    where
      by : (b : Bool) → same_columns (map field_of x.1.columns) columns ≡ b → (if b then Ok (set stages x.0 Filled) else Err FieldsDiffer) ≡ Ok new → SaysColumns s (Field name columns ∷ past) new
      by false same h = cc
      by true same h = λ own place table here filled. elim (cases_Bool (bytes_eq (table_in_source source name) table.name)) [
        | inl equal ↦
            let named : table_in_source source name ≡ own = same_text (table_in_source source name) table.name (sym equal) ∙ own_name place own s.tables table here in
            let pair : ◌≡◌ {A = ℕ × TableValue} x (place, table) = same_pair x (place, table) (sym is ∙ ap (λ (n : List ℕ). table_of n s.tables) named ∙ here) in
            cond-true (bytes_eq (table_in_source source name) table.name) (Some columns) (last_field source past table.name) equal
            ∙ ap (λ (cs : List FieldValue). Some cs) (sym (same_fields (map field_of x.1.columns) columns same) ∙ ap (λ (p : ℕ × TableValue). map field_of p.1.columns) pair)
        | inr other ↦
            let at_new : stage_at (set stages x.0 Filled) place ≡ Filled = ap (λ (ss : List Stage). stage_at ss place) (same_value (set stages x.0 Filled) new h) ∙ filled in
            elim (cases_eq place x.0) [
              | inl equal ↦
                  let mine : table_of (table_in_source source name) s.tables ≡ Some (place, x.1) = is ∙ ap (λ (p : ℕ). Some (p, x.1)) (sym equal) in
                  let one : x.1 ≡ table = same_table place (table_in_source source name) own s.tables x.1 table mine here in
                  let named : table.name ≡ table_in_source source name = ap (λ (t : TableValue). t.name) (sym one) ∙ own_name place (table_in_source source name) s.tables x.1 mine in
                  absurd (false≢true (sym other ∙ (bytes_eq-Decides (table_in_source source name) table.name).1 (sym named)))
              | inr apart ↦
                  cond-false (bytes_eq (table_in_source source name) table.name) (Some columns) (last_field source past table.name) other
                  ∙ said own place table here (rows_filled stages x.0 place apart at_new)
            ]
      ]

  one_further : (past : PastEvents) (event : EventValue) (stages new : List Stage) → event_said s event stages ≡ Ok new → SaysColumns s past stages → SaysColumns s (event ∷ past) new
  one_further past (Field name columns) stages new e said = there_further past stages new name columns (table_of (table_in_source source name) s.tables) refl e said
  one_further past event stages new e said = λ own place table here filled. said own place table here (ap (λ (ss : List Stage). stage_at ss place) (same_value stages new e) ∙ filled)

  pub says_columns : (events : List EventValue) (past : PastEvents) (stages new : List Stage) → events_said s events stages ≡ Ok new → SaysColumns s past stages → SaysColumns s (reverse events ++ past) new
  unfolding events_said
  says_columns [] past stages new e said = λ own place table here filled. said own place table here (ap (λ (ss : List Stage). stage_at ss place) (same_value stages new e) ∙ filled)
  says_columns (event ∷ events) past stages new e said =
      let one = given (event_said s event stages) (λ mid. events_said s events mid) new e in
      let rest : SaysColumns s (reverse events ++ (event ∷ past)) new = says_columns events (event ∷ past) one.0 new one.2 (one_further past event stages one.0 one.1 said) in
      subst (λ (p : PastEvents). SaysColumns s p new) (reverse-onto event events past) rest
