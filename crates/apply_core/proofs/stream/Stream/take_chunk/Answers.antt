use Rattle.std.proofs.Common.{◌≡◌, ◌∙◌, sym, ap, subst, map, arith}
use Rattle.std.specs.List.{AllByRecursion}
use Rattle.filter_rule.specs.PlanValue.{PlanValue}
use Rattle.pk_copy.specs.KeyOrder.{key_cmp}
use Rattle.target_tables.specs.Rising.{IsRising}
use Rattle.source_feed.specs.Image.{ImageRows, lent_row}
use Rattle.board_laws.specs.KeptRows.{kept_row}
use Rattle.board_laws.specs.Meaning.{State}
use Rattle.board_laws.specs.Touching.{put_by}
use Rattle.apply_core.specs.Private.Changes.{IsOfTable}
use Rattle.apply_core.proofs.CopyLaws.{LentRows, taken-lent, taken-rising, taken_of_tables, is-taken}
use Rattle.apply_core.proofs.stream.Stream.take_chunk.Goals as goal

pub puts_of_rows-requires-clause-rising : goal.puts_of_rows-requires-clause-rising
puts_of_rows-requires-clause-rising c =
    subst (λ (rows : ImageRows). IsRising key_cmp rows)
    (sym (ap (λ (rows : LentRows). map lent_row rows) (c.deref-2.ensures.value ∙ c.truncate.ensures.items) ∙ taken-lent c.args.self.now c.args.c c.in_ok-rows.rows.items c.in_ok-rows.ensures))
    (taken-rising (λ a b tie. (c.keys_tie_where_they_are_equal.ensures a b).0 tie) c.args.self.now c.args.c)

pub puts_of_rows-requires-clause-of_tables : goal.puts_of_rows-requires-clause-of_tables
puts_of_rows-requires-clause-of_tables c =
    let planned : c.args.self.now.plan ≡ c.deref.result.now = sym (c.deref.ensures ∙ ap (λ (s : State). s.plan) c.self.view_is) in
    subst (λ (plan : PlanValue). AllByRecursion (λ row. IsOfTable plan row.0 row.1) (map lent_row c.deref-2.result.now)) planned
    (subst (λ (rows : ImageRows). AllByRecursion (λ row. IsOfTable c.args.self.now.plan row.0 row.1) rows)
    (sym (ap (λ (rows : LentRows). map lent_row rows) (c.deref-2.ensures.value ∙ c.truncate.ensures.items) ∙ taken-lent c.args.self.now c.args.c c.in_ok-rows.rows.items c.in_ok-rows.ensures))
    (taken_of_tables (λ a b tie. (c.keys_tie_where_they_are_equal.ensures a b).0 tie) c.args.self.now c.is_sound.ensures c.args.c))

pub returns : goal.returns
returns c =
    let planned : c.deref.result.now ≡ c.args.self.now.plan = c.deref.ensures ∙ ap (λ (s : State). s.plan) c.self.view_is in
    is-taken (λ a b tie. (c.keys_tie_where_they_are_equal.ensures a b).0 tie) c.chunks_are_of_the_rows_left.ensures.one_more c.args.self.now c.args.c c.in_ok-rows.rows.items c.in_ok-rows.ensures _ _ _ c.truncate.ensures.items c.deref-2.ensures.value c.deref-3.ensures.value
    _ (λ key. c.in_ok-puts.ensures.put key ∙ ap (λ (plan : PlanValue). put_by (map (kept_row plan) (map lent_row c.deref-2.result.now)) key) planned) c.len.result (omega (arith, c.len.ensures, c.in_ok-rows.rows.ok.0)) c.len-2.result (omega (arith, c.len-2.ensures, c.truncate.new.self.ok.0)) _ c.in_ok-last.ensures
