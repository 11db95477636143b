use Rattle.std.proofs.Common.{◌≡◌, ◌∙◌, ◌<◌, ◌≤◌, length, map, slice_get, Some, refl, sym, ap, subst, arith}
use Rattle.std.proofs.lemmas.Bool.{true≢false}
use Rattle.std.proofs.lemmas.List.{length-map}
use Rattle.std.proofs.lemmas.Option.{slice_get_read}
use Rattle.source_feed.specs.Image.{lent_row}
use Rattle.board_laws.proofs.Lookups.{all-at}
use Rattle.apply_core.specs.Private.Changes.{IsOfTable, found_row}
use Rattle.vdiff.specs.Report.{IsFirstDifference}
use Rattle.apply_core.proofs.KeyedLaws.{differs_there, goes_on_keyed}
use Rattle.apply_core.proofs.ResumeLaws.{LentRow, source_longer, target_longer}
use Rattle.apply_core.proofs.StreamLaws.{item_at}
use Rattle.apply_core.proofs.resumed_rows.first_difference.Goals as goal

pub returns-then-i-found : goal.returns-then-i-found
returns-then-i-found c =
    let here = slice_get_read c.args.saved.now (length c.args.saved.now) c.loop-i.i c.index-saved-i.result refl c.loop-i-test.true c.index-saved-i.is in
    let most : length (map (found_row c.args.plan.now) c.args.found.now) ≤ c.loop-i.i = omega (arith, length-map c.args.found.now (found_row c.args.plan.now), c.if-i-found.true) in
    subst (IsFirstDifference c.args.saved.now (map (found_row c.args.plan.now) c.args.found.now)) (sym c.in_ok-try_clone.ensures) (source_longer c.args.saved.now (map (found_row c.args.plan.now) c.args.found.now) c.loop-i.i c.loop-i.invariant c.index-saved-i.result here most)

pub is_found-requires : goal.is_found-requires
is_found-requires c =
    let inside : c.loop-i.i < length c.args.found.now = omega (arith, c.if-i-found.false) in
    let there = item_at lent_row c.args.found.now c.loop-i.i c.index-found-i.result (lent_row c.index-found-i.result) inside c.index-found-i.is refl in
    all-at (λ row. IsOfTable c.args.plan.now row.0 row.1) (map lent_row c.args.found.now) c.loop-i.i (lent_row c.index-found-i.result) c.requires.of_tables there

pub returns-then-not-is_found : goal.returns-then-not-is_found
returns-then-not-is_found c =
    let inside : c.loop-i.i < length c.args.found.now = omega (arith, c.if-i-found.false) in
    let here = slice_get_read c.args.saved.now (length c.args.saved.now) c.loop-i.i c.index-saved-i.result refl c.loop-i-test.true c.index-saved-i.is in
    let there = item_at (found_row c.args.plan.now) c.args.found.now c.loop-i.i c.index-found-i.result (found_row c.args.plan.now c.index-found-i.result) inside c.index-found-i.is refl in
    differs_there c.args.saved.now (map (found_row c.args.plan.now) c.args.found.now) c.loop-i.i c.loop-i.invariant c.index-saved-i.result (found_row c.args.plan.now c.index-found-i.result) here there
    (λ a b. (c.keys_tie_where_they_are_equal.ensures a b).0) (λ same. true≢false (sym (c.is_found.ensures.1 same) ∙ c.if-not-is_found.true)) _ c.in_ok-lesser_key.ensures.less c.in_ok-lesser_key.ensures.equal c.in_ok-lesser_key.ensures.greater

pub loop-i-preserved : goal.loop-i-preserved
loop-i-preserved c =
    let inside : c.loop-i.i < length c.args.found.now = omega (arith, c.if-i-found.false) in
    let here = slice_get_read c.args.saved.now (length c.args.saved.now) c.loop-i.i c.index-saved-i.result refl c.loop-i-test.true c.index-saved-i.is in
    let there = item_at (found_row c.args.plan.now) c.args.found.now c.loop-i.i c.index-found-i.result (found_row c.args.plan.now c.index-found-i.result) inside c.index-found-i.is refl in
    goes_on_keyed c.args.saved.now (map (found_row c.args.plan.now) c.args.found.now) c.loop-i.i c.loop-i.invariant c.index-saved-i.result (found_row c.args.plan.now c.index-found-i.result) here there
    c.args.plan.now c.requires.saved_keyed c.requires.found_keyed (c.is_found.ensures.0 c.if-not-is_found.false)

pub returns-then-saved-found : goal.returns-then-saved-found
returns-then-saved-found c =
    let target = map (found_row c.args.plan.now) c.args.found.now in
    let y = c.index-found-saved.result in
    let end : c.loop-i.i ≡ length c.args.saved.now = omega (arith, c.loop-i-test.false, c.loop-i.auto.i-end) in
    let there = item_at (found_row c.args.plan.now) c.args.found.now (length c.args.saved.now) y (found_row c.args.plan.now y) c.if-saved-found.true c.index-found-saved.is refl in
    subst (IsFirstDifference c.args.saved.now target) (ap (λ (row : LentRow). row.0.now) c.index-found-saved.is ∙ sym c.in_ok-from_lent.ensures)
    (target_longer c.args.saved.now target c.loop-i.i c.loop-i.invariant (found_row c.args.plan.now y) (subst (λ n. slice_get target n ≡ Some (found_row c.args.plan.now y)) (sym end) there) c.loop-i-test.false)
