-- What a key's row is after one touch more and after one group more.
use Rattle.std.proofs.Common.{◌≡◌, ℕ, ◌+◌, ◌<◌, Bool, true, false, cond, List, [], ◌∷◌, ◌++◌, length, take, Option, Some, None, slice_get, refl, ap, ◌∙◌}
use Rattle.std.specs.Option.{option_or, option_and_then}
use Rattle.std.specs.Ordering.{eq_by_cmp}
use Rattle.std.proofs.lemmas.List.{take_more}
use Rattle.std.proofs.lemmas.Option.{slice_get_within, get_or_from_slice_get}
use Rattle.pk_copy.specs.KeyOrder.{key_cmp}
use Rattle.pk_copy.specs.KeyValue.{KeyValue}
use Rattle.target_tables.specs.Touches.{last_at}
use Rattle.source_feed.specs.History.{RowValue, passing, passed_at}
use Rattle.source_feed.specs.Image.{kept_after}
use Rattle.source_feed.specs.Touches.{PutValue, TouchValue, PreparedValue}
use Rattle.source_feed.proofs.ImageLaws.{last_at-append, passed_at-more, take-next}

-- one touch more: it leaves its row where it has the key, and else what stood there
one_more : (same : Bool) (put : Option PutValue) (earlier : Option (Option PutValue)) (before : Option RowValue)
    → kept_after (option_or (cond same (Some put) None) earlier) before ≡ cond same (option_and_then passing put) (kept_after earlier before)
one_more true put earlier before = refl
one_more false put earlier before = refl

pub touch_more : (touches : List TouchValue) (i : ℕ) (touch : TouchValue) (key : KeyValue) (before : Option RowValue) → slice_get touches i ≡ Some touch
    → kept_after (last_at key_cmp (take (i + 1) touches) key) before
    ≡ cond (eq_by_cmp key_cmp key touch.0) (option_and_then passing touch.1) (kept_after (last_at key_cmp (take i touches) key) before)
touch_more touches i touch key before at =
    let within : i < length touches = slice_get_within touches i touch at in
    let more : take (i + 1) touches ≡ take i touches ++ touch ∷ [] = take_more touches i touch within ∙ ap (λ (t : TouchValue). take i touches ++ t ∷ []) (get_or_from_slice_get touches i touch touch at) in
    ap (λ (ts : List TouchValue). kept_after (last_at key_cmp ts key) before) more
    ∙ ap (λ (t : Option (Option PutValue)). kept_after t before) (last_at-append (take i touches) (touch ∷ []) key)
    ∙ one_more (eq_by_cmp key_cmp key touch.0) touch.1 (last_at key_cmp (take i touches) key) before

pub group_more : (history : List PreparedValue) (n : ℕ) (group : PreparedValue) (key : KeyValue) → slice_get history n ≡ Some group
    → passed_at history (n + 1) key ≡ kept_after (last_at key_cmp group.touches key) (passed_at history n key)
group_more history n group key at = passed_at-more history history n (n + 1) group key (take-next history n group at)
