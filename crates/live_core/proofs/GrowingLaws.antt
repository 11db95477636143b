-- A feed and its source that grow by a piece.
use Rattle.std.proofs.Common.{◌≡◌, ◌≢◌, ℕ, zero, suc, ◌+◌, ◌<◌, ◌≤◌, ◌⊎◌, inl, inr, List, [], ◌∷◌, ◌++◌, length, length-append, map, take, drop, get_or, set, Option, Some, Result, Ok, Err, Bor, slice_get, refl, sym, ap, subst, ◌∙◌, arith}
use Rattle.std.proofs.lemmas.Bool.{cases_eq}
use Rattle.std.proofs.lemmas.List.{map-set, set-get_or}
use Rattle.std.proofs.lemmas.Option.{none-some, same_Some, slice_get_within, slice_get-map, slice_get-get_or, get_or_from_slice_get}
use Rattle.std.specs.List.{flat_map}
use Rattle.std.specs.Option.{option_map, option_map_or}
use Rattle.std.specs.Prelude.{IfOk, IfErr, IsSomeAnd, OnErr}
use Rattle.list_laws.proofs.Places.{place_of, slice_get-set_same, slice_get-set_other}
use Rattle.source_feed.specs.declared.feed_end.FeedEnd.{FeedEnd}
use Rattle.source_feed.specs.Growing.{IsEndOf, IsSettledFront}
use Rattle.source_feed.specs.Planned.{FeedValue, groups_under}
use Rattle.apply_core.specs.declared.grow_refusal.GrowRefusal.{GrowRefusal}
use Rattle.apply_core.specs.declared.grow_refusal.GrowRefusal.TheVariants.{NoStream, Piece}
use Rattle.apply_core.specs.Growing.{GrowsAt, IsPieceRefused, IsRefusedGrow}
use Rattle.live_core.specs.declared.source.Source.{Source}
use Rattle.live_core.specs.Live.{AreOfSources, IsRefusedPiece, TakesPiece}
use Rattle.live_core.specs.Private.Grown.{IsAsBefore, SourceTakes}
use Rattle.live_core.specs.Source.{IsOfSource, bytes_of}

-- ---- fronts

-- a front has no more elements than the list
pub take-within : {A : Type 0} (n : ℕ) (xs : List A) → length (take n xs) ≤ length xs
take-within zero xs = omega arith
take-within (suc n) [] = omega arith
take-within (suc n) (x ∷ xs) = omega (arith, take-within n xs)

-- the front as long as a front is that front, and so is what stands behind it
pub take-again : {A : Type 0} (n : ℕ) (xs : List A) → take (length (take n xs)) xs ≡ take n xs
take-again zero xs = refl
take-again (suc n) [] = refl
take-again {A} (suc n) (x ∷ xs) = ap (λ (ys : List A). x ∷ ys) (take-again n xs)

pub drop-again : {A : Type 0} (n : ℕ) (xs : List A) → drop (length (take n xs)) xs ≡ drop n xs
drop-again zero xs = refl
drop-again (suc n) [] = refl
drop-again (suc n) (x ∷ xs) = drop-again n xs

-- ---- a source

-- the front of a piece is put behind the bytes that were there
pub put-behind : (old new : Source) (pieces : List (Bor (List ℕ))) (front piece : List ℕ) (n : ℕ) → pieces ≡ old.pieces.items → front ≡ take n piece → bytes_of new ≡ flat_map (λ p. p.now) pieces ++ front
    → bytes_of new ≡ bytes_of old ++ take n piece
put-behind old new pieces front piece n same is put =
    put ∙ ap (λ (ps : List (Bor (List ℕ))). flat_map (λ p. p.now) ps ++ front) same ∙ ap (λ (bs : List ℕ). bytes_of old ++ bs) is

-- where so many bytes are behind those that were there, they are of a feed that is longer by them
pub source-of_end : (feed : FeedValue) (old new : Source) (piece : List ℕ) (n : ℕ) → old.taken ≡ length (bytes_of old) → bytes_of new ≡ bytes_of old ++ take n piece → new.taken ≡ old.taken + length (take n piece)
    → IsEndOf (bytes_of old ++ take n piece) feed new.end → IsOfSource feed new
source-of_end feed old new piece n many bytes taken end = record {
  end = subst (λ (bs : List ℕ). IsEndOf bs feed new.end) (sym bytes) end;
  many =
      let all : length (bytes_of new) ≡ length (bytes_of old ++ take n piece) = ap (λ (bs : List ℕ). length bs) bytes in
      omega (arith, many, taken, all, length-append (bytes_of old) (take n piece));
}

-- a source that has the bytes that it had is still of the feed
pub source-still : (feed : FeedValue) (old new : Source) → IsAsBefore old new → IsOfSource feed old → IsOfSource feed new
source-still feed old new same known = record {
  end = subst (λ (bs : List ℕ). IsEndOf bs feed new.end) (sym same.bytes) (subst (λ (e : FeedEnd). IsEndOf (bytes_of old) feed e) (sym same.end) known.end);
  many = same.taken ∙ known.many ∙ ap (λ (bs : List ℕ). length bs) (sym same.bytes);
}

-- ---- a feed of a board, with its source

pub source-known : (feeds : List FeedValue) (s : ℕ) (before : FeedValue) (source : Source) → slice_get feeds s ≡ Some before → IsSomeAnd (slice_get feeds s) (λ feed. IsOfSource feed source) → IsOfSource before source
source-known feeds s before source there known = subst (λ (o : Option FeedValue). IsSomeAnd o (λ feed. IsOfSource feed source)) there known

-- its end has, and the source's bytes stand behind the others
pub source-takes : (s : ℕ) (piece : List ℕ) (n : ℕ) (old_feeds new_feeds : List FeedValue) (old new : Source) → IsSomeAnd (slice_get old_feeds s) (λ feed. IsOfSource feed old)
    → GrowsAt s piece n old_feeds new_feeds old.end new.end → bytes_of new ≡ bytes_of old ++ take n piece → new.taken ≡ old.taken + length (take n piece)
    → SourceTakes s piece (length (take n piece)) old_feeds new_feeds old new
source-takes s piece n old_feeds new_feeds old new known grows bytes taken =
    let one : IsOfSource grows.before old = source-known old_feeds s grows.before old grows.there known in
    let same : take (length (take n piece)) piece ≡ take n piece = take-again n piece in
    let rest : drop (length (take n piece)) piece ≡ drop n piece = drop-again n piece in
    let front : IsSettledFront (bytes_of old ++ piece) (bytes_of old ++ take n piece) (drop n piece) = grows.grown.settled (bytes_of old) one.end in
    record {
      within = take-within n piece;
      bytes = bytes ∙ ap (λ (bs : List ℕ). bytes_of old ++ bs) (sym same);
      before = grows.before;
      there = grows.there;
      settled =
          subst (λ (bs : List ℕ). IsSettledFront (bytes_of old ++ piece) (bytes_of old ++ take (length (take n piece)) piece) bs) (sym rest)
          (subst (λ (bs : List ℕ). IsSettledFront (bytes_of old ++ piece) (bytes_of old ++ bs) (drop n piece)) (sym same) front);
      sound = grows.grown.sound (bytes_of old) one.end;
      after = grows.after;
      longer = grows.grown.longer;
      known = source-of_end grows.after old new piece n one.many bytes taken (grows.grown.groups (bytes_of old) one.end);
      feeds = grows.feeds;
    }

-- ---- the sources of a board's feeds

module _ (feeds : List FeedValue) (sources : List Source) (count : length sources ≡ length feeds) (known : AreOfSources feeds sources) (s : ℕ) (d : Source) (inside : s < length sources) where
  abbrev old : Source
  old = get_or sources s d

  here : slice_get sources s ≡ Some old
  here = slice_get-get_or sources s d inside

  -- the source of a stream
  pub one-known : IsSomeAnd (slice_get feeds s) (λ feed. IsOfSource feed old)
  one-known =
      let fits : s < length feeds = omega (arith, inside, count) in
      let there : (feed : FeedValue) × (slice_get feeds s ≡ Some feed) = place_of feeds s fits in
      subst (λ (o : Option FeedValue). IsSomeAnd o (λ feed. IsOfSource feed old)) (sym there.1) (known s there.0 old there.1 here)

  pub bytes-known : slice_get (map bytes_of sources) s ≡ Some (bytes_of old)
  bytes-known = slice_get-map bytes_of sources s ∙ ap (λ (o : Option Source). option_map bytes_of o) here

  -- each source is of its feed, where one of both is another
  pub known-then : (new : Source) (after : FeedValue) → IsOfSource after new → AreOfSources (set feeds s after) (set sources s new)
  known-then new after one t feed source fed there = by (cases_eq t s)
    where
      by : (t ≡ s) ⊎ (t ≢ s) → IsOfSource feed source
      by (inl e) =
          let fits : s < length feeds = omega (arith, inside, count) in
          let was : (f : FeedValue) × (slice_get feeds s ≡ Some f) = place_of feeds s fits in
          let f : after ≡ feed = same_Some after feed (sym (slice_get-set_same feeds s after was.0 was.1) ∙ subst (λ n. slice_get (set feeds s after) n ≡ Some feed) e fed) in
          let c : new ≡ source = same_Some new source (sym (slice_get-set_same sources s new old here) ∙ subst (λ n. slice_get (set sources s new) n ≡ Some source) e there) in
          subst (λ (x : Source). IsOfSource feed x) c (subst (λ (x : FeedValue). IsOfSource x new) f one)
      by (inr ne) = known t feed source (sym (slice_get-set_other feeds s after t ne) ∙ fed) (sym (slice_get-set_other sources s new t ne) ∙ there)

  -- one has grown
  pub all-take : (piece : List ℕ) (taken : ℕ) (new_feeds : List FeedValue) (new : Source) → SourceTakes s piece taken feeds new_feeds old new
      → TakesPiece s piece taken feeds new_feeds (map bytes_of sources) (map bytes_of (set sources s new))
  all-take piece taken new_feeds new t = record {
    bytes = bytes_of old;
    known = bytes-known;
    before = t.before;
    there = t.there;
    within = t.within;
    settled = t.settled;
    sound = t.sound;
    grown = map-set bytes_of sources s new ∙ ap (λ (bs : List ℕ). set (map bytes_of sources) s bs) t.bytes;
    after = t.after;
    longer = t.longer;
    groups = subst (λ (bs : List ℕ). groups_under bs t.after.plan ≡ Ok t.after.groups) t.bytes t.known.end.groups;
    feeds = t.feeds;
  }

  pub known-grown : (piece : List ℕ) (taken : ℕ) (new_feeds : List FeedValue) (new : Source) → SourceTakes s piece taken feeds new_feeds old new → AreOfSources new_feeds (set sources s new)
  known-grown piece taken new_feeds new t = subst (λ (fs : List FeedValue). AreOfSources fs (set sources s new)) (sym t.feeds) (known-then new t.after t.known)

  -- none has
  pub bytes-left : (new : Source) → IsAsBefore old new → map bytes_of (set sources s new) ≡ map bytes_of sources
  bytes-left new same = map-set bytes_of sources s new ∙ ap (λ (bs : List ℕ). set (map bytes_of sources) s bs) same.bytes ∙ sym (map-set bytes_of sources s old) ∙ ap (map bytes_of) (set-get_or sources s d)

  pub known-left : (new_feeds : List FeedValue) (new : Source) → new_feeds ≡ feeds → IsAsBefore old new → AreOfSources new_feeds (set sources s new)
  known-left new_feeds new still same =
      let fits : s < length feeds = omega (arith, inside, count) in
      let there : (feed : FeedValue) × (slice_get feeds s ≡ Some feed) = place_of feeds s fits in
      let as_was : set feeds s there.0 ≡ feeds = ap (λ (f : FeedValue). set feeds s f) (sym (get_or_from_slice_get feeds s there.0 there.0 there.1)) ∙ set-get_or feeds s there.0 in
      subst (λ (fs : List FeedValue). AreOfSources fs (set sources s new)) (as_was ∙ sym still) (known-then new there.0 (source-still there.0 old new same (known s there.0 old there.1 here)))

  pub refused-here : (piece : List ℕ) (refusal : GrowRefusal) → IsRefusedGrow s piece feeds old.end refusal → IsRefusedPiece s piece feeds (map bytes_of sources) refusal
  refused-here piece NoStream none =
      let fits : s < length feeds = omega (arith, inside, count) in
      let there : (feed : FeedValue) × (slice_get feeds s ≡ Some feed) = place_of feeds s fits in
      absurd (none-some there.0 (sym none ∙ there.1))
  refused-here piece (Piece fault) why =
      let fits : s < length feeds = omega (arith, inside, count) in
      let there : (feed : FeedValue) × (slice_get feeds s ≡ Some feed) = place_of feeds s fits in
      record {
        bytes = bytes_of old;
        known = bytes-known;
        feed = there.0;
        there = there.1;
        why = subst (λ (o : Option FeedValue). IsSomeAnd o (IsPieceRefused piece old.end fault)) there.1 why (bytes_of old) (known s there.0 old there.1 here).end;
      }

  -- by what the growth answers
  pub answer-known : (piece : List ℕ) (answer : Result ℕ GrowRefusal) (new_feeds : List FeedValue) (new : Source) → IfOk answer (λ taken. SourceTakes s piece taken feeds new_feeds old new)
      → OnErr answer ((new_feeds ≡ feeds) × IsAsBefore old new) → AreOfSources new_feeds (set sources s new)
  answer-known piece (Ok taken) new_feeds new t left = known-grown piece taken new_feeds new t
  answer-known piece (Err refusal) new_feeds new t left = known-left new_feeds new left.0 left.1

  pub answer-takes : (piece : List ℕ) (answer : Result ℕ GrowRefusal) (new_feeds : List FeedValue) (new : Source) → IfOk answer (λ taken. SourceTakes s piece taken feeds new_feeds old new)
      → IfOk answer (λ taken. TakesPiece s piece taken feeds new_feeds (map bytes_of sources) (map bytes_of (set sources s new)))
  answer-takes piece (Ok taken) new_feeds new t = all-take piece taken new_feeds new t
  answer-takes piece (Err refusal) new_feeds new t = tt

  pub answer-refused : (piece : List ℕ) (answer : Result ℕ GrowRefusal) → IfErr answer (IsRefusedGrow s piece feeds old.end) → IfErr answer (IsRefusedPiece s piece feeds (map bytes_of sources))
  answer-refused piece (Ok taken) why = tt
  answer-refused piece (Err refusal) why = refused-here piece refusal why

  pub answer-left : (answer : Result ℕ GrowRefusal) (new_feeds : List FeedValue) (new : Source) → OnErr answer ((new_feeds ≡ feeds) × IsAsBefore old new)
      → OnErr answer ((new_feeds ≡ feeds) × (map bytes_of (set sources s new) ≡ map bytes_of sources))
  answer-left (Ok taken) new_feeds new left = tt
  answer-left (Err refusal) new_feeds new left = (left.0, bytes-left new left.1)

-- how many bytes a source has, by those of all
pub taken-many : (feeds : List FeedValue) (sources : List Source) → length sources ≡ length feeds → AreOfSources feeds sources → (s : ℕ) (source : Source) (all : List (List ℕ)) → map bytes_of sources ≡ all
    → slice_get sources s ≡ Some source → source.taken ≡ option_map_or (λ (bytes : List ℕ). length bytes) (slice_get all s) 0
taken-many feeds sources count known s source all are here =
    let fits : s < length feeds = omega (arith, slice_get_within sources s source here, count) in
    let there : (feed : FeedValue) × (slice_get feeds s ≡ Some feed) = place_of feeds s fits in
    let bytes : slice_get all s ≡ Some (bytes_of source) = ap (λ (l : List (List ℕ)). slice_get l s) (sym are) ∙ slice_get-map bytes_of sources s ∙ ap (λ (o : Option Source). option_map bytes_of o) here in
    (known s there.0 source there.1 here).many ∙ ap (λ (o : Option (List ℕ)). option_map_or (λ (bs : List ℕ). length bs) o 0) (sym bytes)
