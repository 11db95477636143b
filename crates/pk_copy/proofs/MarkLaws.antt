-- What is inside the marks stays there as they move on.
use Rattle.std.specs.Prelude.{◌≡◌, ◌==◌, nat_lt, Bool, true, false, Option, Some, None, if◌then◌else◌}
use Rattle.std.proofs.Common.{refl, sym, ap, ◌∙◌}
use Rattle.std.proofs.lemmas.Bool.{true≢false, and_parts}
use Rattle.std.proofs.lemmas.Cmp.{upto}
use Rattle.std.specs.Ordering.{ordering_reverse, is_le, is_gt}
use Rattle.std.specs.declared.cmp.Ordering.{Ordering}
use Rattle.std.specs.declared.cmp.Ordering.TheVariants.{Less, Equal, Greater}
use Rattle.pk_copy.specs.KeyValue.{KeyValue}
use Rattle.pk_copy.specs.KeyOrder.{key_cmp}
use Rattle.pk_copy.specs.KeyOrderLaws.{key_cmp_total}
use Rattle.pk_copy.specs.Marks.{Marks, KeepsInside, waiting, copied, current_mark, covers, is_beyond, is_past, moved_to}

not-greater : (o : Ordering) → is_le o ≡ true → is_gt o ≡ false
not-greater Less h = refl
not-greater Equal h = refl
not-greater Greater h = absurd (true≢false (sym h))

not-less : (o : Ordering) → is_gt o ≡ false → is_le o ≡ true
not-less Less h = refl
not-less Equal h = refl
not-less Greater h = absurd (true≢false h)

turned-greater : (o : Ordering) → is_gt o ≡ true → is_gt (ordering_reverse o) ≡ false
turned-greater Less h = absurd (true≢false (sym h))
turned-greater Equal h = absurd (true≢false (sym h))
turned-greater Greater h = refl

-- at most the last key, and so at most a greater one
at-most-greater : (key last greater : KeyValue) → is_le (key_cmp key last) ≡ true → is_gt (key_cmp greater last) ≡ true → is_le (key_cmp key greater) ≡ true
at-most-greater key last greater below above =
    not-less _ (upto key_cmp_total key last greater (not-greater _ below) (ap is_gt (key_cmp_total.antisymm last greater) ∙ turned-greater _ above))

-- the mark's two tests, whether the table is done and whether it is the current one
keeps-by : (is_done is_current : Bool) (last : Option KeyValue) (key inside : KeyValue) → is_beyond last key ≡ true
    → covers (if is_done then copied else if is_current then current_mark last else waiting) inside ≡ true
    → covers (if is_done then copied else if is_current then current_mark (Some key) else waiting) inside ≡ true
keeps-by true is_current last key inside past h = h
keeps-by false false last key inside past h = h
keeps-by false true None key inside past h = absurd (true≢false (sym h))
keeps-by false true (Some last) key inside past h = at-most-greater inside last key h past

pub moved_to-keeps : (marks : Marks) (key : KeyValue) → is_past marks key ≡ true → KeepsInside marks (moved_to key marks)
moved_to-keeps marks key past inside h =
    let beyond : is_beyond marks.upto key ≡ true = (and_parts (key.table == marks.done) _ (and_parts (nat_lt marks.done marks.tables) _ past).1).1 in
    keeps-by (nat_lt inside.table marks.done) (inside.table == marks.done) marks.upto key inside beyond h
