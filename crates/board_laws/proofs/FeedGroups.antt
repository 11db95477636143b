-- The sound groups of a feed as a read list.
use Rattle.std.proofs.Common.{◌≡◌, ℕ, zero, suc, ◌+◌, ◌-◌, ◌<◌, List, [], ◌∷◌, length, take, Option, Some, slice_get, sym, ap, subst, ◌∙◌, arith}
use Rattle.std.proofs.lemmas.List.{length-take-le}
use Rattle.std.proofs.lemmas.Option.{slice_get_within}
use Rattle.std.specs.Option.{option_map_or}
use Rattle.list_laws.proofs.Places.{no_place}
use Rattle.gtid_set.specs.Position.{IsCanonical}
use Rattle.source_feed.specs.GroupOrder.{IsProperPart}
use Rattle.source_feed.specs.Planned.{FeedValue, IsFeed}
use Rattle.source_feed.specs.Prepared.{IsPrepared}
use Rattle.source_feed.specs.SoundGroups.{sound_groups}
use Rattle.source_feed.specs.Touches.{PreparedValue}
use Rattle.source_feed.proofs.PreparedLaws.{group_whole}
use Rattle.source_feed.proofs.SoundGroupLaws.{IsGroupOf, group_of}
use Rattle.board_laws.specs.Allowed.{last_position}
use Rattle.board_laws.specs.Lawful.{IsReadList}

-- the position of the last of the first groups
last_place : (groups : List PreparedValue) (i : ℕ) (group : PreparedValue) → slice_get groups i ≡ Some group → slice_get (take (suc i) groups) (length (take (suc i) groups) - 1) ≡ Some group
last_place [] i group e = no_place i group e
last_place (g ∷ groups) zero group e = e
last_place (g ∷ groups) (suc i) group e =
    let inside : i < length groups = slice_get_within groups i group e in
    let n : length (take (suc i) groups) ≡ suc i = length-take-le (suc i) groups (omega (arith, inside)) in
    let step : suc (length (take (suc i) groups)) - 1 ≡ suc (length (take (suc i) groups) - 1) = omega (arith, n) in
    ap (slice_get (g ∷ take (suc i) groups)) step ∙ last_place groups i group e

pub last_of : (groups : List PreparedValue) (i : ℕ) (group : PreparedValue) → slice_get groups i ≡ Some group → last_position (take (suc i) groups) ≡ group.position
last_of groups i group e = ap (λ (o : Option PreparedValue). option_map_or (λ (g : PreparedValue). g.position) o []) (last_place groups i group e)

module _ (feed : FeedValue) (whole : IsFeed feed) where
  is_prepared : (i : ℕ) (group : PreparedValue) → IsGroupOf feed i group → IsPrepared group
  is_prepared i group of = subst IsPrepared of.is (group_whole feed (suc i) of.planned of.touches whole (sym of.there) of.made)

  number_at : (i : ℕ) (group : PreparedValue) → IsGroupOf feed i group → group.number ≡ i + 1
  number_at i group of = ap (λ (g : PreparedValue). g.number) (sym of.is) ∙ whole.order.numbered i of.planned of.there

  -- the sound groups, and so the first ones of them, are as a stream reads them
  pub sound-is_read : IsReadList feed.plan (sound_groups feed)
  sound-is_read = record {
    prepared = λ i group e. is_prepared i group (group_of feed i group e);
    planned = λ i group e. ap (λ (g : PreparedValue). g.plan) (sym (group_of feed i group e).is);
    order = record {
      numbered = λ i group e. number_at i group (group_of feed i group e);
      canonical = λ i group e. let of = group_of feed i group e in subst (λ (g : PreparedValue). IsCanonical g.position) of.is (whole.order.canonical i of.planned of.there);
      from_empty = λ i group e. let of = group_of feed i group e in subst (λ (g : PreparedValue). IsProperPart [] g.position) of.is (whole.order.from_empty i of.planned of.there);
      growing = λ i j earlier later less e f.
          let one = group_of feed i earlier e in
          let other = group_of feed j later f in
          subst (λ (g : PreparedValue). IsProperPart earlier.position g.position) other.is
          (subst (λ (g : PreparedValue). IsProperPart g.position other.planned.position) one.is (whole.order.growing i j one.planned other.planned less one.there other.there));
    };
  }
