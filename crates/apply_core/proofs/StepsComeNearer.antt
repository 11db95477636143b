-- Each step on a stream's course makes less what is left of it.
use Rattle.std.proofs.Common.{◌≡◌, ◌==◌, ◌&&◌, ◌||◌, ℕ, zero, suc, ◌+◌, ◌-◌, ◌*◌, ◌<◌, ◌≤◌, Bool, true, false, cond, not, List, [], ◌∷◌, ◌++◌, length, map, take, drop, Option, Some, None, Result, Ok, Err, Ordering, slice_get, refl, sym, ap, subst, ◌∙◌, arith}
use Rattle.std.proofs.Math.Nat.{mul-le-mul_left}
use Rattle.std.proofs.lemmas.Bool.{true≢false, le-ltb, lt-ltb, ne_eqb}
use Rattle.std.proofs.lemmas.Cmp.{tied_itself}
use Rattle.std.proofs.lemmas.Grind.{flat_map-append}
use Rattle.std.proofs.lemmas.List.{take-append-drop, length-take-le, length-map}
use Rattle.std.proofs.lemmas.Option.{none-some}
use borrow.Author.Tests.{eqb-true, eq-eqb, leb-false}
use Rattle.std.specs.Prelude.{nat_lt}
use Rattle.std.specs.declared.cmp.Ordering.TheVariants.{Less, Equal, Greater}
use Rattle.std.specs.List.{filter, list_any}
use Rattle.std.specs.Option.{option_or, option_and_then, option_map_or}
use Rattle.std.specs.Ordering.{is_le, is_gt}
use Rattle.std.specs.Result.{ok_prefix}
use Rattle.list_laws.proofs.Fronts.{front_of}
use Rattle.list_laws.proofs.Choices.{or_none}
use Rattle.pk_copy.specs.KeyOrder.{key_cmp}
use Rattle.pk_copy.specs.KeyOrderLaws.{key_cmp_total}
use Rattle.pk_copy.specs.KeyValue.{KeyValue}
use Rattle.pk_copy.specs.Marks.{Marks, current_mark, covers, is_inside, is_beyond, is_past, moved_to, next_table, waiting, copied}
use Rattle.stream_core.specs.Standing.{Standing}
use Rattle.target_tables.specs.Touches.{last_at}
use Rattle.source_feed.specs.History.{RowValue, touches_in, passing, passed_at}
use Rattle.source_feed.specs.Image.{ImageRows, row_in}
use Rattle.source_feed.specs.Planned.{FeedValue}
use Rattle.source_feed.specs.SoundGroups.{sound_groups}
use Rattle.source_feed.specs.Touches.{PutValue, TouchValue, PreparedValue, prepared}
use Rattle.board_laws.specs.Meaning.{State}
use Rattle.board_laws.specs.Chunk.{rows_left, rows_taken, takes_all, marks_behind, copied_state}
use Rattle.board_laws.specs.Lawful.{standing_of}
use Rattle.board_laws.specs.Reading.{ReadsFeed}
use Rattle.board_laws.proofs.Lists.{parts_of_last, empty_without_last}
use Rattle.board_laws.proofs.Lookups.{Ties, is_key, is_itself, same_key, lookup-append}
use Rattle.board_laws.proofs.Chunks.{and-left, and-right, inside-next, inside-moved, last-past, taken-at}
use Rattle.apply_core.specs.Courses.{uncopied, undone, turns, until_done, left_of}

-- ---- elements that pass a test

module _ {X : Type 0} (p q : X → Bool) (h : (x : X) → q x ≡ true → p x ≡ true) where
  fewer : (xs : List X) → length (filter q xs) ≤ length (filter p xs)
  fewer [] = omega arith
  fewer (x ∷ xs) = by (p x) (q x) (h x) (fewer xs)
    where
      by : (c b : Bool) → (b ≡ true → c ≡ true) → length (filter q xs) ≤ length (filter p xs) → length (cond b (x ∷ filter q xs) (filter q xs)) ≤ length (cond c (x ∷ filter p xs) (filter p xs))
      by true true f rest = omega (arith, rest)
      by true false f rest = omega (arith, rest)
      by false true f rest = absurd (true≢false (sym (f refl)))
      by false false f rest = rest

  -- one of them doesn't any more
  fewer_one : (xs : List X) → list_any (λ x. p x && not (q x)) xs ≡ true → length (filter q xs) < length (filter p xs)
  fewer_one [] some = absurd (true≢false (sym some))
  fewer_one (x ∷ xs) some = by (p x) (q x) (h x) some (fewer xs) (λ e. fewer_one xs e)
    where
      by : (c b : Bool) → (b ≡ true → c ≡ true) → ((c && not b) || list_any (λ y. p y && not (q y)) xs) ≡ true → length (filter q xs) ≤ length (filter p xs)
          → (list_any (λ y. p y && not (q y)) xs ≡ true → length (filter q xs) < length (filter p xs))
          → length (cond b (x ∷ filter q xs) (filter q xs)) < length (cond c (x ∷ filter p xs) (filter p xs))
      by true true f e rest later = let less : length (filter q xs) < length (filter p xs) = later e in omega (arith, less)
      by true false f e rest later = omega (arith, rest)
      by false true f e rest later = absurd (true≢false (sym (f refl)))
      by false false f e rest later = later e

any-more : {X : Type 0} (f g : X → Bool) → ((x : X) → f x ≡ true → g x ≡ true) → (xs : List X) → list_any f xs ≡ true → list_any g xs ≡ true
any-more f g h [] e = e
any-more f g h (x ∷ xs) e = by (f x) (g x) (h x) e (λ rest. any-more f g h xs rest)
  where
    by : (a b : Bool) → (a ≡ true → b ≡ true) → (a || list_any f xs) ≡ true → (list_any f xs ≡ true → list_any g xs ≡ true) → (b || list_any g xs) ≡ true
    by true true k e rest = refl
    by true false k e rest = absurd (true≢false (sym (k refl)))
    by false true k e rest = refl
    by false false k e rest = rest e

any-front : {X : Type 0} (f : X → Bool) (xs ys : List X) → list_any f xs ≡ true → list_any f (xs ++ ys) ≡ true
any-front f [] ys e = absurd (true≢false (sym e))
any-front f (x ∷ xs) ys e = by (f x) e (λ rest. any-front f xs ys rest)
  where
    by : (a : Bool) → (a || list_any f xs) ≡ true → (list_any f xs ≡ true → list_any f (xs ++ ys) ≡ true) → (a || list_any f (xs ++ ys)) ≡ true
    by true e rest = refl
    by false e rest = rest e

-- ---- touched keys

has_touch : (touches : List TouchValue) (key : KeyValue) (x : Option PutValue) → last_at key_cmp touches key ≡ Some x → list_any (λ touch. is_key key touch.0) touches ≡ true
has_touch [] key x e = absurd (none-some x e)
has_touch (touch ∷ later) key x e = by (is_key key touch.0) e (λ rest. has_touch later key x rest)
  where
    by : (b : Bool) → option_or (last_at key_cmp later key) (cond b (Some touch.1) None) ≡ Some x → (last_at key_cmp later key ≡ Some x → list_any (λ t. is_key key t.0) later ≡ true)
        → (b || list_any (λ t. is_key key t.0) later) ≡ true
    by true e rest = refl
    by false e rest = rest (sym (or_none (last_at key_cmp later key)) ∙ e)

-- a key at which a stream's applied groups keep a row is one that its feed touches
kept-touched : (feed : FeedValue) (state : State) → ReadsFeed feed state → (key : KeyValue) (row : RowValue) → passed_at state.list state.applied key ≡ Some row
    → list_any (λ touch. is_key key touch.0) (touches_in (sound_groups feed)) ≡ true
kept-touched feed state reads key row e =
    let front : (k : ℕ) × (take state.applied (take reads.length_read (sound_groups feed)) ≡ take k (sound_groups feed)) = front_of state.applied reads.length_read (sound_groups feed) in
    let groups : take state.applied state.list ≡ take front.0 (sound_groups feed) = ap (λ (xs : List PreparedValue). take state.applied xs) reads.list ∙ front.1 in
    let whole : touches_in (take state.applied state.list) ++ touches_in (drop front.0 (sound_groups feed)) ≡ touches_in (sound_groups feed)
    = ap (λ (gs : List PreparedValue). touches_in gs ++ touches_in (drop front.0 (sound_groups feed))) groups
    ∙ sym (flat_map-append (λ (g : PreparedValue). g.touches) (take front.0 (sound_groups feed)) (drop front.0 (sound_groups feed)))
    ∙ ap touches_in (take-append-drop front.0 (sound_groups feed)) in
    subst (λ (ts : List TouchValue). list_any (λ touch. is_key key touch.0) ts ≡ true) whole
    (any-front (λ (touch : TouchValue). is_key key touch.0) (touches_in (take state.applied state.list)) (touches_in (drop front.0 (sound_groups feed))) (by (last_at key_cmp (touches_in (take state.applied state.list)) key) refl e))
  where
    by : (o : Option (Option PutValue)) → last_at key_cmp (touches_in (take state.applied state.list)) key ≡ o → option_and_then passing (option_and_then (λ put. put) o) ≡ Some row
        → list_any (λ touch. is_key key touch.0) (touches_in (take state.applied state.list)) ≡ true
    by None q e = absurd (none-some row e)
    by (Some x) q e = has_touch (touches_in (take state.applied state.list)) key x q

-- ---- marks

not_more : (a b n : Bool) → n ≡ (a || b) → not n ≡ true → not a ≡ true
not_more true b n e h = sym (ap not e) ∙ h
not_more false b n e h = refl

-- a key past the mark isn't copied
past-outside : (marks : Marks) (key : KeyValue) → is_past marks key ≡ true → is_inside marks key ≡ false
past-outside marks key past =
    let inner : (key.table == marks.done && is_beyond marks.upto key) ≡ true = and-right (nat_lt marks.done marks.tables) (key.table == marks.done && is_beyond marks.upto key) past in
    let table : (key.table == marks.done) ≡ true = and-left (key.table == marks.done) (is_beyond marks.upto key) inner in
    let same : key.table ≡ marks.done = eqb-true key.table marks.done table in
    by marks.upto (nat_lt key.table marks.done) (key.table == marks.done) (le-ltb key.table marks.done (omega (arith, same))) table (and-right (key.table == marks.done) (is_beyond marks.upto key) inner)
  where
    above : (r : Ordering) → is_gt r ≡ true → is_le r ≡ false
    above Less e = absurd (true≢false (sym e))
    above Equal e = absurd (true≢false (sym e))
    above Greater e = refl

    by : (o : Option KeyValue) (b c : Bool) → b ≡ false → c ≡ true → is_beyond o key ≡ true → covers (cond b copied (cond c (current_mark o) waiting)) key ≡ false
    by o true c less same beyond = absurd (true≢false less)
    by o false false less same beyond = absurd (true≢false (sym same))
    by None false true less same beyond = refl
    by (Some u) false true less same beyond = above (key_cmp key u) beyond

or-right : (a b : Bool) → b ≡ true → (a || b) ≡ true
or-right true b e = refl
or-right false b e = e

both : (a b : Bool) → a ≡ true → b ≡ true → (a && b) ≡ true
both true b e f = f
both false b e f = absurd (true≢false (sym e))

-- ---- rows copied

module _ (ties : Ties) (feed : FeedValue) (state : State) (reads : ReadsFeed feed state) (copying : state.marks.done < state.marks.tables) where
  copies : nat_lt state.marks.done state.marks.tables ≡ true
  copies = lt-ltb state.marks.done state.marks.tables copying

  next-fewer : uncopied (next_table state.marks) feed ≤ uncopied state.marks feed
  next-fewer =
      fewer (λ (touch : TouchValue). not (is_inside state.marks touch.0)) (λ (touch : TouchValue). not (is_inside (next_table state.marks) touch.0))
      (λ touch outside. not_more (is_inside state.marks touch.0) (is_past state.marks touch.0) (is_inside (next_table state.marks) touch.0) (inside-next state.marks copies touch.0) outside)
      (touches_in (sound_groups feed))

  -- a chunk ends with a row at a key that wasn't copied
  module _ (c : ℕ) (last : KeyValue × RowValue) (ends : slice_get (rows_taken state c) (length (rows_taken state c) - 1) ≡ Some last) where
    past : is_past state.marks last.0 ≡ true
    past = last-past ties state c last ends

    itself : is_le (key_cmp last.0 last.0) ≡ true
    itself = ap is_le (tied_itself key_cmp_total last.0)

    inside : (key : KeyValue) → is_inside (moved_to last.0 state.marks) key ≡ (is_inside state.marks key || (is_past state.marks key && is_le (key_cmp key last.0)))
    inside key = inside-moved state.marks copies key last.0 past

    -- it is a row that is kept
    last-kept : (row : RowValue) × (passed_at state.list state.applied last.0 ≡ Some row)
    last-kept =
        let parts : (front : ImageRows) × (rows_taken state c ≡ front ++ last ∷ []) = parts_of_last (rows_taken state c) last ends in
        let there : row_in (rows_taken state c) last.0 ≡ option_or (row_in parts.0 last.0) (Some last.1)
        = ap (λ (rows : ImageRows). row_in rows last.0) parts.1
        ∙ lookup-append (is_key last.0) parts.0 (last ∷ [])
        ∙ ap (λ b. option_or (row_in parts.0 last.0) (cond b (Some last.1) None)) (is_itself last.0) in
        let kept : row_in (rows_taken state c) last.0 ≡ passed_at state.list state.applied last.0
        = taken-at ties state c last ends last.0 ∙ ap (λ b. cond b (passed_at state.list state.applied last.0) None) (both (is_past state.marks last.0) (is_le (key_cmp last.0 last.0)) past itself) in
        by (row_in parts.0 last.0) (sym kept ∙ there)
      where
        by : (o : Option RowValue) → passed_at state.list state.applied last.0 ≡ option_or o (Some last.1) → (row : RowValue) × (passed_at state.list state.applied last.0 ≡ Some row)
        by None e = (last.1, e)
        by (Some row) e = (row, e)

    moved-fewer : uncopied (moved_to last.0 state.marks) feed < uncopied state.marks feed
    moved-fewer =
        fewer_one (λ (touch : TouchValue). not (is_inside state.marks touch.0)) (λ (touch : TouchValue). not (is_inside (moved_to last.0 state.marks) touch.0))
        (λ touch outside. not_more (is_inside state.marks touch.0) (is_past state.marks touch.0 && is_le (key_cmp touch.0 last.0)) (is_inside (moved_to last.0 state.marks) touch.0) (inside touch.0) outside)
        (touches_in (sound_groups feed))
        (any-more (λ (touch : TouchValue). is_key last.0 touch.0) (λ (touch : TouchValue). not (is_inside state.marks touch.0) && not (not (is_inside (moved_to last.0 state.marks) touch.0)))
        (λ touch e. subst (λ k. (not (is_inside state.marks k) && not (not (is_inside (moved_to last.0 state.marks) k))) ≡ true) (same_key ties last.0 touch.0 e) at_last)
        (touches_in (sound_groups feed)) (kept-touched feed state reads last.0 last-kept.0 last-kept.1))
      where
        at_last : (not (is_inside state.marks last.0) && not (not (is_inside (moved_to last.0 state.marks) last.0))) ≡ true
        at_last =
            both (not (is_inside state.marks last.0)) (not (not (is_inside (moved_to last.0 state.marks) last.0)))
            (ap not (past-outside state.marks last.0 past))
            (ap (λ b. not (not b)) (inside last.0 ∙ or-right (is_inside state.marks last.0) (is_past state.marks last.0 && is_le (key_cmp last.0 last.0)) (both (is_past state.marks last.0) (is_le (key_cmp last.0 last.0)) past itself)))

  pub copy-less : (c : ℕ) → 1 ≤ c → undone feed (copied_state state c) < undone feed state
  copy-less c some = by (takes_all state c) refl
    where
      more : takes_all state c ≡ false → (rows : ImageRows) → rows_taken state c ≡ rows → rows ≡ [] → ⊥
      more e rows is none =
          let left : c < length (rows_left state) = leb-false (length (rows_left state)) c e in
          let many : length (rows_taken state c) ≡ c = length-take-le c (rows_left state) (omega (arith, left)) in
          let few : length (rows_taken state c) ≡ 0 = ap (λ (xs : ImageRows). length xs) (is ∙ none) in
          omega (arith, many, few, some)

      moved : takes_all state c ≡ false → (o : Option (KeyValue × RowValue)) → slice_get (rows_taken state c) (length (rows_taken state c) - 1) ≡ o
          → undone feed (record { plan = state.plan; list = state.list; applied = state.applied; marks = option_map_or (λ row. moved_to row.0 state.marks) o state.marks; snapshot = state.snapshot }) < undone feed state
      moved e None at = absurd (more e (rows_taken state c) refl (empty_without_last (rows_taken state c) at))
      moved e (Some last) at = let less : uncopied (moved_to last.0 state.marks) feed < uncopied state.marks feed = moved-fewer c last at in omega (arith, less)

      by : (b : Bool) → takes_all state c ≡ b
          → undone feed (cond b (record { plan = state.plan; list = state.list; applied = state.applied; marks = next_table state.marks; snapshot = None })
          (record { plan = state.plan; list = state.list; applied = state.applied; marks = marks_behind (rows_taken state c) state.marks; snapshot = state.snapshot })) < undone feed state
      by true e = let fewer_keys : uncopied (next_table state.marks) feed ≤ uncopied state.marks feed = next-fewer in omega (arith, fewer_keys, copying)
      by false e = moved e (slice_get (rows_taken state c) (length (rows_taken state c) - 1)) refl

-- ---- what is left

pub ok_prefix-most : {A E : Type 0} (xs : List (Result A E)) → length (ok_prefix xs) ≤ length xs
ok_prefix-most [] = omega arith
ok_prefix-most (Ok x ∷ xs) = let rest : length (ok_prefix xs) ≤ length xs = ok_prefix-most xs in omega (arith, rest)
ok_prefix-most (Err e ∷ xs) = omega arith

length-take_list : {A : Type 0} (n : ℕ) (xs : List A) → length (take n xs) ≤ length xs
length-take_list zero xs = omega arith
length-take_list (suc n) [] = omega arith
length-take_list (suc n) (x ∷ xs) = let rest : length (take n xs) ≤ length xs = length-take_list n xs in omega (arith, rest)

-- a stream reads no more groups than its feed has
pub read-most : (feed : FeedValue) (state : State) → ReadsFeed feed state → length state.list ≤ length feed.groups
read-most feed state reads =
    let front : length (take reads.length_read (sound_groups feed)) ≤ length (sound_groups feed) = length-take_list reads.length_read (sound_groups feed) in
    let same : length state.list ≡ length (take reads.length_read (sound_groups feed)) = ap (λ (xs : List PreparedValue). length xs) reads.list in
    let most : length (sound_groups feed) ≤ length (map (prepared feed.plan) feed.groups) = ok_prefix-most (map (prepared feed.plan) feed.groups) in
    let count : length (map (prepared feed.plan) feed.groups) ≡ length feed.groups = length-map feed.groups (prepared feed.plan) in
    omega (arith, front, same, most, count)

until-most : (chunks : ℕ) (at : Standing) (groups : ℕ) → until_done chunks at groups < 3 * (groups + 1)
until-most chunks at groups = by at.snapshot
  where
    turned : (b : Bool) → cond b 2 0 * (groups + 1) + (groups - at.read) < 3 * (groups + 1)
    turned true = omega arith
    turned false = omega arith

    by : (o : Option ℕ) → turns chunks o * (groups + 1) + (groups - at.read) < 3 * (groups + 1)
    by None = omega arith
    by (Some m) = turned (chunks == 0)

-- where less is undone, less is left
pub less-left : (feed : FeedValue) (old new : State) (was is : ℕ) → undone feed new < undone feed old → left_of feed new is < left_of feed old was
less-left feed old new was is less = by (undone feed new) (undone feed old) (3 * (length feed.groups + 1)) (until_done is (standing_of new) (length feed.groups)) (until_done was (standing_of old) (length feed.groups))
    less (until-most is (standing_of new) (length feed.groups))
  where
    by : (n o k t u : ℕ) → n < o → t < k → n * k + t < o * k + u
    by n o k t u less most = let big : k * (n + 1) ≤ k * o = mul-le-mul_left k (omega (arith, less)) in omega (arith, big, most)

-- where as much is undone, and less until something is done
pub same-left : (feed : FeedValue) (old new : State) (was is : ℕ) → undone feed new ≡ undone feed old
    → until_done is (standing_of new) (length feed.groups) < until_done was (standing_of old) (length feed.groups) → left_of feed new is < left_of feed old was
same-left feed old new was is same less =
    subst (λ n. n * (3 * (length feed.groups + 1)) + until_done is (standing_of new) (length feed.groups) < undone feed old * (3 * (length feed.groups + 1)) + until_done was (standing_of old) (length feed.groups)) (sym same)
    (omega (arith, less))

-- ---- the turns

pub read-nearer : (o : Option ℕ) (was is read groups : ℕ) → o ≡ None → is ≡ was → read < groups → turns is o * (groups + 1) + (groups - (read + 1)) < turns was o * (groups + 1) + (groups - read)
read-nearer None was is read groups e same less = omega (arith, less)
read-nearer (Some m) was is read groups e same less = absurd (none-some m (sym e))

pub open-nearer : (o : Option ℕ) (m was is read groups : ℕ) → o ≡ None → 1 ≤ is → turns is (Some m) * (groups + 1) + (groups - read) < turns was o * (groups + 1) + (groups - read)
open-nearer None m was is read groups e some = by (is == 0) (ne_eqb is 0 (λ z. omega (arith, z, some)))
  where
    by : (b : Bool) → b ≡ false → cond b 2 0 * (groups + 1) + (groups - read) < 1 * (groups + 1) + (groups - read)
    by true e = absurd (true≢false e)
    by false e = omega arith
open-nearer (Some x) m was is read groups e some = absurd (none-some x (sym e))

pub close-nearer : (o : Option ℕ) (m was is read groups : ℕ) → o ≡ Some m → was ≡ 0 → turns is None * (groups + 1) + (groups - read) < turns was o * (groups + 1) + (groups - read)
close-nearer None m was is read groups e none = absurd (none-some m e)
close-nearer (Some x) m was is read groups e none = by (was == 0) (eq-eqb was 0 none)
  where
    by : (b : Bool) → b ≡ true → 1 * (groups + 1) + (groups - read) < cond b 2 0 * (groups + 1) + (groups - read)
    by true e = omega arith
    by false e = absurd (true≢false (sym e))
