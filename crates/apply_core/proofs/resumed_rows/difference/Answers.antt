use Rattle.std.proofs.Common.{◌≡◌, ◌∙◌, map, sym, ap, subst}
use Rattle.std.specs.List.{AllByRecursion, filter}
use Rattle.filter_rule.specs.PlanValue.{PlanValue}
use Rattle.pk_copy.specs.KeyValue.{KeyValue}
use Rattle.pk_copy.specs.Marks.{Marks, is_inside}
use Rattle.stream_core.specs.Standing.{Standing}
use Rattle.source_feed.specs.History.{RowValue}
use Rattle.source_feed.specs.Image.{lent_row}
use Rattle.board_laws.specs.Meaning.{State}
use Rattle.apply_core.specs.Private.Changes.{IsOfTable, found_row}
use Rattle.checkpoint_laws.specs.Said.{IsKeyed}
use Rattle.apply_core.proofs.KeyedLaws.{found_keyed}
use Rattle.apply_core.proofs.ResumeLaws.{found_pass, found_of_tables, found_are_cut, cut_rises, least_found}
use Rattle.apply_core.proofs.resumed_rows.difference.Goals as goal

pub first_difference-requires-clause-found : goal.first_difference-requires-clause-found
first_difference-requires-clause-found c =
    let planned : c.deref.result.now ≡ c.args.stream.now.plan = c.deref.ensures ∙ ap (λ (s : State). s.plan) c.stream.view_is in
    let marks = ap (λ (s : State). s.marks) c.stream.view_is in
    let there = c.in_ok-bring.ensures.there ∙ c.applied.ensures ∙ ap (λ (x : Standing). x.applied) c.cursor.ensures in
    let inside = c.in_ok-rows.ensures ∙ ap (λ (m : Marks). filter (λ (row : KeyValue × RowValue). is_inside m row.0) c.bring.new.image) marks in
    let pass = found_pass c.kept_rows_are_one_list.ensures.list c.args.stream.now c.bring.new.image (map lent_row c.in_ok-rows.rows.items) c.bring.new.imaged there (rw c.list.ensures at c.in_ok-bring.ensures.kept) inside in
    let cut = found_are_cut c.args.stream.now c.in_ok-rows.rows.items pass in
    let found = ap (map (found_row c.deref.result.now)) c.deref-2.ensures.value ∙ ap (λ (plan : PlanValue). map (found_row plan) c.in_ok-rows.rows.items) planned ∙ cut in
    cut_rises (λ a b. (c.keys_tie_where_they_are_equal.ensures a b).0) c.args.stream.now (map (found_row c.deref.result.now) c.deref-2.result.now) found

pub first_difference-requires-clause-of_tables : goal.first_difference-requires-clause-of_tables
first_difference-requires-clause-of_tables c =
    let planned : c.deref.result.now ≡ c.args.stream.now.plan = c.deref.ensures ∙ ap (λ (s : State). s.plan) c.stream.view_is in
    let marks = ap (λ (s : State). s.marks) c.stream.view_is in
    let there = c.in_ok-bring.ensures.there ∙ c.applied.ensures ∙ ap (λ (x : Standing). x.applied) c.cursor.ensures in
    let inside = c.in_ok-rows.ensures ∙ ap (λ (m : Marks). filter (λ (row : KeyValue × RowValue). is_inside m row.0) c.bring.new.image) marks in
    let pass = found_pass c.kept_rows_are_one_list.ensures.list c.args.stream.now c.bring.new.image (map lent_row c.in_ok-rows.rows.items) c.bring.new.imaged there (rw c.list.ensures at c.in_ok-bring.ensures.kept) inside in
    subst (λ (plan : PlanValue). AllByRecursion (λ row. IsOfTable plan row.0 row.1) (map lent_row c.deref-2.result.now)) (sym planned)
    (found_of_tables (λ a b. (c.keys_tie_where_they_are_equal.ensures a b).0) c.args.stream.now c.is_sound.ensures (map lent_row c.deref-2.result.now) (ap (map lent_row) c.deref-2.ensures.value ∙ pass))

pub first_difference-requires-clause-saved_keyed : goal.first_difference-requires-clause-saved_keyed
first_difference-requires-clause-saved_keyed c =
    let planned : c.deref.result.now ≡ c.args.stream.now.plan = c.deref.ensures ∙ ap (λ (s : State). s.plan) c.stream.view_is in
    subst (λ (plan : PlanValue). AllByRecursion (IsKeyed plan) c.rows.result.now) (sym planned) (subst (AllByRecursion (IsKeyed c.args.stream.now.plan)) (sym c.rows.ensures) c.requires.keyed)

pub first_difference-requires-clause-found_keyed : goal.first_difference-requires-clause-found_keyed
first_difference-requires-clause-found_keyed c =
    let planned : c.deref.result.now ≡ c.args.stream.now.plan = c.deref.ensures ∙ ap (λ (s : State). s.plan) c.stream.view_is in
    let marks = ap (λ (s : State). s.marks) c.stream.view_is in
    let there = c.in_ok-bring.ensures.there ∙ c.applied.ensures ∙ ap (λ (x : Standing). x.applied) c.cursor.ensures in
    let inside = c.in_ok-rows.ensures ∙ ap (λ (m : Marks). filter (λ (row : KeyValue × RowValue). is_inside m row.0) c.bring.new.image) marks in
    let pass = found_pass c.kept_rows_are_one_list.ensures.list c.args.stream.now c.bring.new.image (map lent_row c.in_ok-rows.rows.items) c.bring.new.imaged there (rw c.list.ensures at c.in_ok-bring.ensures.kept) inside in
    let cut = found_are_cut c.args.stream.now c.in_ok-rows.rows.items pass in
    let found = ap (map (found_row c.deref.result.now)) c.deref-2.ensures.value ∙ ap (λ (plan : PlanValue). map (found_row plan) c.in_ok-rows.rows.items) planned ∙ cut in
    subst (λ (plan : PlanValue). AllByRecursion (IsKeyed plan) (map (found_row c.deref.result.now) c.deref-2.result.now)) (sym planned)
    (found_keyed c.keys_are_those_of_kept_columns.ensures (λ a b. (c.keys_tie_where_they_are_equal.ensures a b).0) c.args.stream.now c.is_sound.ensures (map (found_row c.deref.result.now) c.deref-2.result.now) found)

pub returns : goal.returns
returns c =
    let planned : c.deref.result.now ≡ c.args.stream.now.plan = c.deref.ensures ∙ ap (λ (s : State). s.plan) c.stream.view_is in
    let marks = ap (λ (s : State). s.marks) c.stream.view_is in
    let there = c.in_ok-bring.ensures.there ∙ c.applied.ensures ∙ ap (λ (x : Standing). x.applied) c.cursor.ensures in
    let inside = c.in_ok-rows.ensures ∙ ap (λ (m : Marks). filter (λ (row : KeyValue × RowValue). is_inside m row.0) c.bring.new.image) marks in
    let pass = found_pass c.kept_rows_are_one_list.ensures.list c.args.stream.now c.bring.new.image (map lent_row c.in_ok-rows.rows.items) c.bring.new.imaged there (rw c.list.ensures at c.in_ok-bring.ensures.kept) inside in
    let cut = found_are_cut c.args.stream.now c.in_ok-rows.rows.items pass in
    let found = ap (map (found_row c.deref.result.now)) c.deref-2.ensures.value ∙ ap (λ (plan : PlanValue). map (found_row plan) c.in_ok-rows.rows.items) planned ∙ cut in
    least_found (λ a b. (c.keys_tie_where_they_are_equal.ensures a b).0) c.args.saved.now c.args.stream.now c.rows.result.now (map (found_row c.deref.result.now) c.deref-2.result.now) c.rows.ensures found
    c.first_difference.result c.first_difference.ensures
