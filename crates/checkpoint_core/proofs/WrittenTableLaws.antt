-- A table's part as it is written, one item after another.
use Rattle.std.proofs.Common.{◌≡◌, ◌==◌, ℕ, suc, ◌+◌, Bool, true, false, cond, List, [], ◌∷◌, ◌++◌, map, drop, sym, ap, ◌∙◌, arith}
use Rattle.std.proofs.lemmas.Bool.{ne_eqb}
use Rattle.std.proofs.lemmas.List.{map-append}
use Rattle.list_laws.proofs.Walks.{turn}
use borrow.Author.Tests.{eq-eqb}
use Rattle.filter_rule.specs.PlanValue.{PlanValue}
use Rattle.pk_copy.specs.KeyValue.{KeyValue}
use Rattle.pk_copy.specs.Marks.{Marks, mark_of}
use Rattle.vevent.specs.CheckpointPart.{TablePartValue}
use Rattle.source_feed.specs.History.{RowValue}
use Rattle.source_feed.specs.Image.{ImageRows, lent_row}
use Rattle.checkpoint_laws.specs.Written.{saved_rows_of_table, numbers_below}
use Rattle.checkpoint_core.specs.Private.WrittenTables.{part_of_table, parts_of_tables}
use denote.Ref.{Bor}

-- ---- the rows of a table

abbrev pub Lent : Type 0
Lent = Bor KeyValue × Bor RowValue

abbrev pub rows_at : ℕ → List Lent → List RowValue
rows_at t own = map (λ (row : KeyValue × RowValue). row.1) (saved_rows_of_table t (map lent_row own))

module _ (t : ℕ) (own : List Lent) (i : ℕ) (row : Lent) (at : drop i own ≡ row ∷ drop (i + 1) own) where
  others : ImageRows
  others = saved_rows_of_table t (map lent_row (drop (i + 1) own))

  first : (b : Bool) → (row.0.now.table == t) ≡ b → rows_at t (drop i own) ≡ map (λ (row : KeyValue × RowValue). row.1) (cond b (lent_row row ∷ saved_rows_of_table t (map lent_row (drop (i + 1) own))) (saved_rows_of_table t (map lent_row (drop (i + 1) own))))
  first b e =
      ap (rows_at t) at
      ∙ ap (λ b. map (λ (row : KeyValue × RowValue). row.1) (cond b (lent_row row ∷ saved_rows_of_table t (map lent_row (drop (i + 1) own))) (saved_rows_of_table t (map lent_row (drop (i + 1) own))))) e

  pub rows_turn : (made new whole : List RowValue) → row.0.now.table ≡ t → new ≡ made ++ row.1.now ∷ [] → made ++ rows_at t (drop i own) ≡ whole → new ++ rows_at t (drop (i + 1) own) ≡ whole
  rows_turn made new whole mine is so_far =
      ap (λ (xs : List RowValue). xs ++ rows_at t (drop (i + 1) own)) is
      ∙ turn made (rows_at t (drop (i + 1) own)) whole (row.1.now ∷ []) (rows_at t (drop i own)) so_far (first true (eq-eqb row.0.now.table t mine))

  pub rows_pass : (made whole : List RowValue) → (row.0.now.table ≡ t → ⊥) → made ++ rows_at t (drop i own) ≡ whole → made ++ rows_at t (drop (i + 1) own) ≡ whole
  rows_pass made whole other so_far = ap (λ (xs : List RowValue). made ++ xs) (sym (first false (ne_eqb row.0.now.table t other))) ∙ so_far

-- ---- the parts of tables

pub parts_more : (plan : PlanValue) (marks : Marks) (rows : ImageRows) (position : List ℕ) (t : ℕ) (made new : List TablePartValue) (part : TablePartValue) → new ≡ made ++ part ∷ []
    → made ≡ parts_of_tables plan marks rows position t → part ≡ part_of_table plan t (mark_of marks t) rows position → new ≡ parts_of_tables plan marks rows position (t + 1)
parts_more plan marks rows position t made new part is so_far one =
    let next : t + 1 ≡ suc t = omega arith in
    is
    ∙ ap (λ (xs : List TablePartValue). xs ++ part ∷ []) so_far
    ∙ ap (λ (x : TablePartValue). parts_of_tables plan marks rows position t ++ x ∷ []) one
    ∙ sym (map-append (λ t. part_of_table plan t (mark_of marks t) rows position) (numbers_below t) (t ∷ []))
    ∙ ap (parts_of_tables plan marks rows position) (sym next)
