-- A lawful board whose streams read their feeds shows their sources.
use Rattle.std.proofs.Common.{◌≡◌, ℕ, zero, suc, ◌≤◌, inl, inr, List, [], ◌∷◌, length, take, min, Option, Some, slice_get, IsTrue, refl, sym, ap, subst, ◌∙◌, arith}
use Rattle.std.proofs.lemmas.List.{length-take, length-take-le}
use Rattle.std.proofs.lemmas.Option.{same_Some}
use Rattle.std.specs.Prelude.{◌↔◌}
use Rattle.std.specs.Option.{option_map, option_and_then}
use Rattle.list_laws.proofs.Places.{place_of}
use Rattle.filter_rule.specs.PlanValue.{PlanValue}
use Rattle.pk_copy.specs.KeyOrder.{key_cmp}
use Rattle.pk_copy.specs.KeyValue.{KeyValue}
use Rattle.pk_copy.specs.Marks.{is_inside}
use Rattle.target_tables.specs.Contents.{value_at}
use Rattle.target_tables.specs.Touches.{last_at}
use Rattle.source_feed.specs.History.{RowValue, touches_in, passing, passed_at, kept_of, kept_at}
use Rattle.source_feed.specs.Planned.{FeedValue}
use Rattle.source_feed.specs.Positions.{IsNumberAt}
use Rattle.source_feed.specs.SoundGroups.{sound_groups}
use Rattle.source_feed.specs.Touches.{PreparedValue}
use Rattle.source_feed.proofs.SoundGroupLaws.{IsGroupOf, group_of}
use Rattle.board_laws.specs.Allowed.{last_position}
use Rattle.board_laws.specs.Lawful.{IsLawful}
use Rattle.board_laws.specs.Meaning.{State, Meaning}
use Rattle.board_laws.specs.Reading.{HasFeed, AllReadTheirFeeds, IsReplayed}
use Rattle.board_laws.specs.Sources.{ShowsItsSource, AllShowTheirSources}
use Rattle.board_laws.proofs.FeedGroups.{last_of}
use Rattle.board_laws.proofs.Replays.{replayed}

-- the first ones of a front that has them are those of the whole
take_of_front : {A : Type 0} (n m : ℕ) (xs : List A) → n ≤ length (take m xs) → take n (take m xs) ≡ take n xs
take_of_front zero m xs le = refl
take_of_front (suc n) zero xs le = absurd (omega (arith, le))
take_of_front (suc n) (suc m) [] le = refl
take_of_front {A} (suc n) (suc m) (x ∷ xs) le = ap (λ (ys : List A). x ∷ ys) (take_of_front n m xs (omega (arith, le)))

-- ---- positions

-- the position behind the first sound groups is that of so many groups
pub known_at : (feed : FeedValue) (n : ℕ) → n ≤ length (sound_groups feed) → IsNumberAt feed (last_position (take n (sound_groups feed))) n
known_at feed zero le = inl (refl, refl)
known_at feed (suc i) le =
    let there : (group : PreparedValue) × (slice_get (sound_groups feed) i ≡ Some group) = place_of (sound_groups feed) i (omega (arith, le)) in
    let of : IsGroupOf feed i there.0 = group_of feed i there.0 there.1 in
    inr (record { group = of.planned; there = of.there; at = ap (λ (g : PreparedValue). g.position) of.is ∙ sym (last_of (sound_groups feed) i there.0 there.1) })

-- ---- rows

abbrev last_passed : KeyValue → List PreparedValue → Option RowValue
last_passed key groups = option_and_then passing (option_and_then (λ put. put) (last_at key_cmp (touches_in groups) key))

module _ (feeds : List FeedValue) (board : Meaning) (lawful : IsLawful board) (s : ℕ) (state : State) (here : slice_get board.streams s ≡ Some state) (has : HasFeed feeds s state) where
  abbrev groups : List PreparedValue
  groups = sound_groups has.feed

  applied : state.applied ≤ length state.list
  applied = (lawful.sound s state here).standing.applied

  -- the applied groups are the first ones of the feed
  front : take state.applied state.list ≡ take state.applied groups
  front =
      ap (take state.applied) has.reads.list
      ∙ take_of_front state.applied has.reads.length_read groups (subst (λ (l : List PreparedValue). state.applied ≤ length l) has.reads.list applied)

  fits : state.applied ≤ length groups
  fits =
      let one : length (take state.applied state.list) ≡ state.applied = length-take-le state.applied state.list applied in
      let other : length (take state.applied groups) ≡ min state.applied (length groups) = length-take state.applied groups in
      let same : length (take state.applied state.list) ≡ length (take state.applied groups) = ap length front in
      omega (arith, one, other, same)

  kept : (key : KeyValue) → kept_at state.plan state.list state.applied key ≡ kept_at has.feed.plan groups state.applied key
  kept key =
      ap (λ (gs : List PreparedValue). option_map (kept_of state.plan key) (last_passed key gs)) front
      ∙ ap (λ (plan : PlanValue). option_map (kept_of plan key) (passed_at groups state.applied key)) has.reads.plan

  rows : (key : KeyValue) (row : RowValue) → (value_at key_cmp board.rows key ≡ Some (s, row)) ↔ (IsTrue (is_inside state.marks key) × (kept_at has.feed.plan groups state.applied key ≡ Some row))
  rows key row = (
    λ e.
        let r : IsReplayed board s key row = (replayed board lawful s key row).0 e in
        let same : r.state ≡ state = same_Some r.state state (sym r.stream ∙ here) in
        (subst (λ (z : State). IsTrue (is_inside z.marks key)) same r.copied, sym (kept key) ∙ subst (λ (z : State). kept_at z.plan z.list z.applied key ≡ Some row) same r.kept),
    λ r. (replayed board lawful s key row).1 (record { state = state; stream = here; copied = r.0; kept = kept key ∙ r.1 }),
  )

  shows : ShowsItsSource feeds board s
  shows = record {
    feed = has.feed;
    fed = has.fed;
    shows = record {
      state = state;
      stream = here;
      number = state.applied;
      position = subst (λ p. IsNumberAt has.feed p state.applied) (ap last_position (sym front)) (known_at has.feed state.applied fits);
      sound = fits;
      rows = rows;
    };
  }

pub all_show : (feeds : List FeedValue) (board : Meaning) → IsLawful board → AllReadTheirFeeds feeds board → AllShowTheirSources feeds board
all_show feeds board lawful reads s state here = shows feeds board lawful s state here (reads s state here)
