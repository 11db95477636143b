-- What a group's touches leave, one group on.
use Rattle.std.proofs.Common.{◌≡◌, ◌==◌, ℕ, ◌+◌, ◌<◌, ◌≤◌, Bool, cond, List, [], ◌∷◌, ◌++◌, length, map, take, Option, Some, None, Ok, slice_get, refl, sym, ap, ◌∙◌, arith}
use Rattle.std.specs.Prelude.{IfSome, IsOk, Result, Err}
use Rattle.std.proofs.lemmas.Bool.{false≢true}
use Rattle.std.specs.declared.cmp.Ordering.TheVariants.{Less}
use Rattle.std.specs.List.{AllByRecursion}
use Rattle.std.specs.Option.{option_or, option_map, option_and_then}
use Rattle.std.specs.Ordering.{eq_by_cmp}
use Rattle.std.proofs.lemmas.List.{append-nil, append_cancel_left}
use Rattle.std.proofs.lemmas.List.Concat.{flat_map-append}
use Rattle.std.proofs.lemmas.Map.Made.{lookup-map_values}
use Rattle.list_laws.proofs.Choices.{map-or, map-cond}
use Rattle.list_laws.proofs.Places.{place_of}
use Rattle.pk_copy.specs.KeyOrder.{key_cmp}
use Rattle.pk_copy.specs.KeyValue.{KeyValue}
use Rattle.target_tables.specs.Contents.{value_at}
use Rattle.target_tables.specs.Rising.{IsRising}
use Rattle.target_tables.specs.Touches.{last_at, touched, IsTouched}
use Rattle.source_feed.specs.History.{RowValue, touches_in}
use Rattle.source_feed.specs.Image.{ImageRows, row_in}
use Rattle.source_feed.specs.Planned.{FeedValue}
use Rattle.source_feed.specs.SoundGroups.{sound_groups, AreFirst}
use Rattle.source_feed.specs.declared.fault.FeedFault.{FeedFault}
use Rattle.source_feed.specs.Touches.{PutValue, TouchValue, PreparedValue, prepared_at}
use Rattle.source_feed.proofs.ImageLaws.{last_at-append, take-next}
use Rattle.source_feed.proofs.SoundGroupLaws.{first_more}
use Rattle.compaction_laws.specs.Base.{left_at, IsLeft}
use Rattle.compaction.specs.Private.LeftEntries.{Entries, rows_of, AreOwn, row_put, change_of}

-- ---- one key

-- what stands at a key after a group, by the group's last touch of it
abbrev pub left_after : Option (Option PutValue) → Option RowValue → Option RowValue
left_after None before = before
left_after (Some put) before = row_put put

last_at-changes : (touches : List TouchValue) (k : KeyValue) → last_at key_cmp (map change_of touches) k ≡ option_map row_put (last_at key_cmp touches k)
last_at-changes [] k = refl
last_at-changes (t ∷ touches) k =
    let test : Bool = eq_by_cmp key_cmp k t.0 in
    ap (λ (v : Option (Option RowValue)). option_or v (cond test (Some (row_put t.1)) None)) (last_at-changes touches k)
    ∙ ap (λ (v : Option (Option RowValue)). option_or (option_map row_put (last_at key_cmp touches k)) v) (sym (map-cond row_put test t.1))
    ∙ sym (map-or row_put (last_at key_cmp touches k) (cond test (Some t.1) None))

row_in-rows_of : (entries : Entries) (k : KeyValue) → row_in (rows_of entries) k ≡ option_map (λ there. there.1) (value_at key_cmp entries k)
row_in-rows_of entries k = lookup-map_values (λ there. there.1) (eq_by_cmp key_cmp k) entries

touched-own : (t : Option (Option PutValue)) (there : Option (ℕ × RowValue)) → IfSome there (λ x. x.0 ≡ 0)
    → option_map (λ x. x.1) (touched 0 (option_map row_put t) there) ≡ left_after t (option_map (λ x. x.1) there)
touched-own None there own = refl
touched-own (Some put) there own = by (row_put put) there own
  where
    by : (row : Option RowValue) (there : Option (ℕ × RowValue)) → IfSome there (λ x. x.0 ≡ 0) → option_map (λ x. x.1) (touched 0 (Some row) there) ≡ row
    by (Some row) there own = refl
    by None None own = refl
    by None (Some there) own = ap (λ n. option_map (λ (x : ℕ × RowValue). x.1) (cond (n == 0) None (Some there))) own

row_after : (old new : Entries) (touches : List TouchValue) → AreOwn old → IsTouched key_cmp old 0 (last_at key_cmp (map change_of touches)) new
    → (k : KeyValue) → row_in (rows_of new) k ≡ left_after (last_at key_cmp touches k) (row_in (rows_of old) k)
row_after old new touches own h k =
    row_in-rows_of new k
    ∙ ap (λ (v : Option (ℕ × RowValue)). option_map (λ x. x.1) v) (h k ∙ ap (λ (v : Option (Option RowValue)). touched 0 v (value_at key_cmp old k)) (last_at-changes touches k))
    ∙ touched-own (last_at key_cmp touches k) (value_at key_cmp old k) (own k)
    ∙ ap (λ (v : Option RowValue). left_after (last_at key_cmp touches k) v) (sym (row_in-rows_of old k))

-- ---- one group more

touches-more : (groups : List PreparedValue) (group : PreparedValue) → touches_in (groups ++ group ∷ []) ≡ touches_in groups ++ group.touches
touches-more groups group = flat_map-append (λ (g : PreparedValue). g.touches) groups (group ∷ []) ∙ ap (λ (ts : List TouchValue). touches_in groups ++ ts) (append-nil group.touches)

left-or : (t earlier : Option (Option PutValue)) → row_put (option_and_then (λ put. put) (option_or t earlier)) ≡ left_after t (row_put (option_and_then (λ put. put) earlier))
left-or None earlier = refl
left-or (Some put) earlier = refl

left-more : (history : List PreparedValue) (n : ℕ) (group : PreparedValue) (k : KeyValue) → slice_get history n ≡ Some group → left_at history (n + 1) k ≡ left_after (last_at key_cmp group.touches k) (left_at history n k)
left-more history n group k e =
    ap (λ (t : Option (Option PutValue)). row_put (option_and_then (λ put. put) t))
    (ap (λ (gs : List PreparedValue). last_at key_cmp (touches_in gs) k) (take-next history n group e)
    ∙ ap (λ (ts : List TouchValue). last_at key_cmp ts k) (touches-more (take n history) group)
    ∙ last_at-append (touches_in (take n history)) group.touches k)
    ∙ left-or (last_at key_cmp group.touches k) (last_at key_cmp (touches_in (take n history)) k)

all-rows_of : (P : KeyValue → Type 0) (entries : Entries) → AllByRecursion (λ e. P e.0) entries → AllByRecursion (λ r. P r.0) (rows_of entries)
all-rows_of P [] h = h
all-rows_of P (e ∷ es) h = (h.0, all-rows_of P es h.1)

rising-rows_of : (entries : Entries) → IsRising key_cmp entries → IsRising key_cmp (rows_of entries)
rising-rows_of [] h = h
rising-rows_of (e ∷ es) h = (all-rows_of (λ k. key_cmp e.0 k ≡ Less) es h.0, rising-rows_of es h.1)

-- what is left behind the next group
pub left_next : (history : List PreparedValue) (n : ℕ) (group : PreparedValue) (old new : Entries) (changes : List (KeyValue × Option RowValue)) (given : List TouchValue) (before : ImageRows) → rows_of old ≡ before
    → changes ≡ map change_of given → given ≡ group.touches → AreOwn old → IsTouched key_cmp old 0 (last_at key_cmp changes) new → IsRising key_cmp new
    → slice_get history n ≡ Some group → IsLeft history n before → IsLeft history (n + 1) (rows_of new)
left_next history n group old new changes given before seen made same own h rising at left = record {
  rising = rising-rows_of new rising;
  each_key = λ k.
      row_after old new group.touches own
      (λ q. h q ∙ ap (λ (cs : List (KeyValue × Option RowValue)). touched 0 (last_at key_cmp cs q) (value_at key_cmp old q)) (made ∙ ap (λ (ts : List TouchValue). map change_of ts) same)) k
      ∙ ap (λ (rows : ImageRows). left_after (last_at key_cmp group.touches k) (row_in rows k)) seen
      ∙ ap (left_after (last_at key_cmp group.touches k)) (left.each_key k)
      ∙ sym (left-more history n group k at);
}

-- ---- the groups of a feed

-- so many groups are sound, and these rows are left by them
pub record AreLeft (feed : FeedValue) (number : ℕ) (rows : ImageRows) : Type 0 where
  pub sound : number ≤ length (sound_groups feed)
  pub left : IsLeft (sound_groups feed) number rows

-- these groups are the first ones of the feed
pub first_of_left : (feed : FeedValue) (number : ℕ) (rows : ImageRows) → AreLeft feed number rows → AreFirst feed number (take number (sound_groups feed))
first_of_left feed number rows are = record { sound = are.sound; are = refl }

next_group : (feed : FeedValue) (i : ℕ) (group : PreparedValue) → i < length feed.groups → i ≤ length (sound_groups feed) → prepared_at feed (i + 1) ≡ Ok group
    → (i + 1 ≤ length (sound_groups feed)) × (slice_get (sound_groups feed) i ≡ Some group)
next_group feed i group inside le e =
    let groups : List PreparedValue = sound_groups feed in
    let more : AreFirst feed (i + 1) (take i groups ++ group ∷ []) = first_more feed i (take i groups) (take i groups ++ group ∷ []) group inside e refl (record { sound = le; are = refl }) in
    let there : (x : PreparedValue) × (slice_get groups i ≡ Some x) = place_of groups i (let s = more.sound in omega (arith, s)) in
    let ends : group ∷ [] ≡ there.0 ∷ [] = append_cancel_left (take i groups) (group ∷ []) (there.0 ∷ []) (more.are ∙ take-next groups i there.0 there.1) in
    let same : Some group ≡ Some there.0 = ap (λ (xs : List PreparedValue). slice_get xs 0) ends in
    (more.sound, there.1 ∙ sym same)

-- a result ends in one error alone
pub one_error : {A E : Type 0} (r : Result A E) (x y : E) → r ≡ Err x → r ≡ Err y → x ≡ y
one_error r x y e f = cc

-- where one is prepared behind sound groups, some are sound
pub some_sound : (feed : FeedValue) (i : ℕ) (group : PreparedValue) → i < length feed.groups → i ≤ length (sound_groups feed) → prepared_at feed (i + 1) ≡ Ok group → 0 < length (sound_groups feed)
some_sound feed i group inside le e = let more = (next_group feed i group inside le e).0 in omega (arith, more)

pub some_sound-ok : (feed : FeedValue) (i : ℕ) → i < length feed.groups → i ≤ length (sound_groups feed) → IsOk (prepared_at feed (i + 1)) → 0 < length (sound_groups feed)
some_sound-ok feed i inside le ok = by (prepared_at feed (i + 1)) refl ok
  where
    by : (r : Result PreparedValue FeedFault) → prepared_at feed (i + 1) ≡ r → IsOk r → 0 < length (sound_groups feed)
    by (Ok group) e is = some_sound feed i group inside le e
    by (Err fault) e is = absurd (false≢true is)

pub one_more : (feed : FeedValue) (i : ℕ) (group seen : PreparedValue) (old new : ImageRows) → i < length feed.groups → prepared_at feed (i + 1) ≡ Ok group → seen ≡ group
    → ((history : List PreparedValue) (n : ℕ) → slice_get history n ≡ Some seen → IsLeft history n old → IsLeft history (n + 1) new) → AreLeft feed i old → AreLeft feed (i + 1) new
one_more feed i group seen old new inside e same next are =
    let at = next_group feed i group inside are.sound e in
    record { sound = at.0; left = next (sound_groups feed) i (at.1 ∙ ap Some (sym same)) are.left }
