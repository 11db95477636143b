-- What the touches of a group leave in an image, and the rows that groups leave, one group on.
use Rattle.std.proofs.Common.{◌≡◌, ◌==◌, ℕ, suc, ◌+◌, ◌<◌, add-one, Bool, cond, List, [], ◌∷◌, ◌++◌, length, map, take, Option, Some, None, slice_get, refl, sym, ap, ◌∙◌}
use Rattle.std.specs.Prelude.{IfSome}
use Rattle.std.specs.declared.cmp.Ordering.TheVariants.{Less}
use Rattle.std.specs.List.{AllByRecursion}
use Rattle.std.specs.Option.{option_or, option_map, option_and_then}
use Rattle.std.specs.Ordering.{eq_by_cmp}
use Rattle.std.proofs.lemmas.Grind.{flat_map-append}
use Rattle.std.proofs.lemmas.List.{take_more}
use Rattle.std.proofs.lemmas.Option.{slice_get_within, get_or_from_slice_get}
use Rattle.std.proofs.lemmas.Map.Made.{lookup-map_values}
use Rattle.list_laws.proofs.Choices.{or_none, or_assoc, map-or, map-cond}
use Rattle.pk_copy.specs.KeyOrder.{key_cmp}
use Rattle.pk_copy.specs.KeyValue.{KeyValue}
use Rattle.target_tables.specs.Contents.{value_at}
use Rattle.target_tables.specs.Rising.{IsRising}
use Rattle.target_tables.specs.Touches.{last_at, touched, IsTouched}
use Rattle.source_feed.specs.Touches.{PutValue, TouchValue, PreparedValue}
use Rattle.source_feed.specs.History.{RowValue, touches_in, passing, passed_at, IsPassed}
use Rattle.source_feed.specs.Image.{ImageRows, row_in, kept_after}
use Rattle.source_feed.specs.Private.ImageEntries.{Entries, rows_of, AreOwn, change_of}

-- ---- lists of touches

pub last_at-append : (a b : List TouchValue) (k : KeyValue) → last_at key_cmp (a ++ b) k ≡ option_or (last_at key_cmp b k) (last_at key_cmp a k)
last_at-append [] b k = sym (or_none (last_at key_cmp b k))
last_at-append (t ∷ a) b k =
    let one : Option (Option PutValue) = cond (eq_by_cmp key_cmp k t.0) (Some t.1) None in
    ap (λ (v : Option (Option PutValue)). option_or v one) (last_at-append a b k)
    ∙ or_assoc (last_at key_cmp b k) (last_at key_cmp a k) one

pub last_at-changes : (touches : List TouchValue) (k : KeyValue) → last_at key_cmp (map change_of touches) k ≡ option_map (option_and_then passing) (last_at key_cmp touches k)
last_at-changes [] k = refl
last_at-changes (t ∷ touches) k =
    let f : Option PutValue → Option RowValue = option_and_then passing in
    let test : Bool = eq_by_cmp key_cmp k t.0 in
    ap (λ (v : Option (Option RowValue)). option_or v (cond test (Some (f t.1)) None)) (last_at-changes touches k)
    ∙ ap (λ (v : Option (Option RowValue)). option_or (option_map f (last_at key_cmp touches k)) v) (sym (map-cond f test t.1))
    ∙ sym (map-or f (last_at key_cmp touches k) (cond test (Some t.1) None))

-- ---- one key of an image

row_in-rows_of : (entries : Entries) (k : KeyValue) → row_in (rows_of entries) k ≡ option_map (λ there. there.1) (value_at key_cmp entries k)
row_in-rows_of entries k = lookup-map_values (λ there. there.1) (eq_by_cmp key_cmp k) entries

touched-own : (t : Option (Option PutValue)) (there : Option (ℕ × RowValue)) → IfSome there (λ x. x.0 ≡ 0)
    → option_map (λ x. x.1) (touched 0 (option_map (option_and_then passing) t) there) ≡ kept_after t (option_map (λ x. x.1) there)
touched-own None there own = refl
touched-own (Some put) there own = by (option_and_then passing put) there own
  where
    by : (row : Option RowValue) (there : Option (ℕ × RowValue)) → IfSome there (λ x. x.0 ≡ 0) → option_map (λ x. x.1) (touched 0 (Some row) there) ≡ row
    by (Some row) there own = refl
    by None None own = refl
    by None (Some there) own = ap (λ n. option_map (λ (x : ℕ × RowValue). x.1) (cond (n == 0) None (Some there))) own

-- what a group's changes leave at each key
pub row_after : (old new : Entries) (touches : List TouchValue) → AreOwn old → IsTouched key_cmp old 0 (last_at key_cmp (map change_of touches)) new
    → (k : KeyValue) → row_in (rows_of new) k ≡ kept_after (last_at key_cmp touches k) (row_in (rows_of old) k)
row_after old new touches own h k =
    let f : Option PutValue → Option RowValue = option_and_then passing in
    row_in-rows_of new k
    ∙ ap (λ (v : Option (ℕ × RowValue)). option_map (λ x. x.1) v) (h k ∙ ap (λ (v : Option (Option RowValue)). touched 0 v (value_at key_cmp old k)) (last_at-changes touches k))
    ∙ touched-own (last_at key_cmp touches k) (value_at key_cmp old k) (own k)
    ∙ ap (λ (v : Option RowValue). kept_after (last_at key_cmp touches k) v) (sym (row_in-rows_of old k))

-- ---- rows without their stream rise as their entries do

all-rows_of : (P : KeyValue → Type 0) (entries : Entries) → AllByRecursion (λ e. P e.0) entries → AllByRecursion (λ r. P r.0) (rows_of entries)
all-rows_of P [] h = h
all-rows_of P (e ∷ es) h = (h.0, all-rows_of P es h.1)

pub rising-rows_of : (entries : Entries) → IsRising key_cmp entries → IsRising key_cmp (rows_of entries)
rising-rows_of [] h = h
rising-rows_of (e ∷ es) h = (all-rows_of (λ k. key_cmp e.0 k ≡ Less) es h.0, rising-rows_of es h.1)

-- ---- a history with one group more

touches_in-more : (groups : List PreparedValue) (group : PreparedValue) → touches_in (groups ++ group ∷ []) ≡ touches_in groups ++ group.touches
touches_in-more groups group = flat_map-append (λ (g : PreparedValue). g.touches) groups (group ∷ []) ∙ ap (λ (ts : List TouchValue). touches_in groups ++ ts) (none group.touches)
  where
    none : (ts : List TouchValue) → ts ++ [] ≡ ts
    none [] = refl
    none (t ∷ ts) = ap (λ (r : List TouchValue). t ∷ r) (none ts)

-- the row that a touch leaves, and else the earlier one
pub kept-or : (t earlier : Option (Option PutValue))
    → option_and_then passing (option_and_then (λ put. put) (option_or t earlier)) ≡ kept_after t (option_and_then passing (option_and_then (λ put. put) earlier))
kept-or None earlier = refl
kept-or (Some put) earlier = refl

-- groups of which the first m' are the first m of others and one more
pub passed_at-more : (groups more : List PreparedValue) (m n : ℕ) (group : PreparedValue) (k : KeyValue) → take n more ≡ take m groups ++ group ∷ []
    → passed_at more n k ≡ kept_after (last_at key_cmp group.touches k) (passed_at groups m k)
passed_at-more groups more m n group k e =
    ap (λ (t : Option (Option PutValue)). option_and_then passing (option_and_then (λ put. put) t))
    (ap (λ (gs : List PreparedValue). last_at key_cmp (touches_in gs) k) e
    ∙ ap (λ (ts : List TouchValue). last_at key_cmp ts k) (touches_in-more (take m groups) group)
    ∙ last_at-append (touches_in (take m groups)) group.touches k)
    ∙ kept-or (last_at key_cmp group.touches k) (last_at key_cmp (touches_in (take m groups)) k)

pub kept-more : (groups more : List PreparedValue) (m n : ℕ) (group : PreparedValue) (old new : ImageRows) → take n more ≡ take m groups ++ group ∷ [] → IsRising key_cmp new
    → ((k : KeyValue) → row_in new k ≡ kept_after (last_at key_cmp group.touches k) (row_in old k)) → IsPassed groups m old → IsPassed more n new
kept-more groups more m n group old new e rising h kept = record {
  rising = rising;
  each_key = λ k.
      h k ∙ ap (λ (v : Option RowValue). kept_after (last_at key_cmp group.touches k) v) (kept.each_key k) ∙ sym (passed_at-more groups more m n group k e);
}

-- one group more of a history
pub take-next : (history : List PreparedValue) (n : ℕ) (group : PreparedValue) → slice_get history n ≡ Some group → take (n + 1) history ≡ take n history ++ group ∷ []
take-next history n group e =
    let within : n < length history = slice_get_within history n group e in
    take_more history n group within ∙ ap (λ (g : PreparedValue). take n history ++ g ∷ []) (get_or_from_slice_get history n group group e)

pub take-pushed : (history : List PreparedValue) (group : PreparedValue) → take (length history + 1) (history ++ group ∷ []) ≡ take (length history) history ++ group ∷ []
take-pushed history group = rw add-one (whole history)
  where
    whole : (groups : List PreparedValue) → take (suc (length groups)) (groups ++ group ∷ []) ≡ take (length groups) groups ++ group ∷ []
    whole [] = refl
    whole (g ∷ groups) = ap (λ (gs : List PreparedValue). g ∷ gs) (whole groups)

-- ---- what an advance leaves

-- the same at each key, said of the image before and of the group's own touches
pub image_after : (old new : Entries) (changes : List (KeyValue × Option RowValue)) (touches given : List TouchValue) (before : ImageRows) → rows_of old ≡ before
    → changes ≡ map change_of given → given ≡ touches → AreOwn old → IsTouched key_cmp old 0 (last_at key_cmp changes) new
    → (k : KeyValue) → row_in (rows_of new) k ≡ kept_after (last_at key_cmp touches k) (row_in before k)
image_after old new changes touches given before seen made same own h k =
    row_after old new touches own
    (λ q. h q ∙ ap (λ (cs : List (KeyValue × Option RowValue)). touched 0 (last_at key_cmp cs q) (value_at key_cmp old q)) (made ∙ ap (λ (ts : List TouchValue). map change_of ts) same)) k
    ∙ ap (λ (rows : ImageRows). kept_after (last_at key_cmp touches k) (row_in rows k)) seen
