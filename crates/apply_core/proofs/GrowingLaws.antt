-- A feed that begins with the groups that it had.
use Rattle.std.proofs.Common.{◌≡◌, ℕ, zero, suc, ◌<◌, List, [], ◌∷◌, length, map, take, get_or, set, Option, Some, Result, Ok, Err, slice_get, refl, sym, ap, subst, ◌∙◌}
use Rattle.std.proofs.lemmas.List.{set-get_or}
use Rattle.std.proofs.lemmas.Option.{slice_get-get_or}
use Rattle.std.specs.Prelude.{IfOk, IfSome, IsSomeAnd, OnErr}
use Rattle.std.specs.Result.{ok_prefix}
use Rattle.filter_rule.specs.PlanValue.{PlanValue}
use Rattle.source_feed.specs.Planned.{PlannedGroupValue, FeedValue}
use Rattle.source_feed.specs.SoundGroups.{sound_groups}
use Rattle.source_feed.specs.Touches.{PreparedValue, prepared}
use Rattle.source_feed.specs.declared.fault.FeedFault.{FeedFault}
use Rattle.source_feed.specs.declared.feed_end.FeedEnd.{FeedEnd}
use Rattle.source_feed.specs.Growing.{AreOfOneFeed}
use Rattle.board_laws.specs.FedBoards.{IsFedBoard, HasGrown}
use Rattle.board_laws.specs.Meaning.{Meaning}
use Rattle.board_laws.specs.RunLaws.{FedBoardsMayGrow}
use Rattle.apply_core.specs.declared.grow_refusal.GrowRefusal.{GrowRefusal}
use Rattle.apply_core.specs.Growing.{IsLonger, IsGrownBy, GrowsAt, IsPieceRefused, LongerFeedsHaveGrown}

-- what stands before the first error of a front begins what stands before the first error of all
front-sound : {A B E : Type 0} (f : A → Result B E) (n : ℕ) (xs : List A) → take (length (ok_prefix (map f (take n xs)))) (ok_prefix (map f xs)) ≡ ok_prefix (map f (take n xs))
front-sound f zero xs = refl
front-sound f (suc n) [] = refl
front-sound {A} {B} {E} f (suc n) (x ∷ xs) = by (front-sound f n xs) (f x)
  where
    by : take (length (ok_prefix (map f (take n xs)))) (ok_prefix (map f xs)) ≡ ok_prefix (map f (take n xs))
        → (r : Result B E) → take (length (ok_prefix (r ∷ map f (take n xs)))) (ok_prefix (r ∷ map f xs)) ≡ ok_prefix (r ∷ map f (take n xs))
    by rest (Ok y) = ap (λ (ys : List B). y ∷ ys) rest
    by rest (Err e) = refl

abbrev sound_of : PlanValue → List PlannedGroupValue → List PreparedValue
sound_of plan groups = ok_prefix (map (prepared plan) groups)

pub longer-grown : (old new : FeedValue) → IsLonger old new → HasGrown old new
longer-grown old new longer = record {
  plan = longer.plan;
  whole = longer.whole;
  begins =
      let first : sound_of new.plan (take (length old.groups) new.groups) ≡ sound_groups old
      = ap (λ (groups : List PlannedGroupValue). sound_of new.plan groups) longer.begins ∙ ap (λ (plan : PlanValue). sound_of plan old.groups) longer.plan in
      ap (λ (groups : List PreparedValue). take (length groups) (sound_groups new)) (sym first) ∙ front-sound (prepared new.plan) (length old.groups) new.groups ∙ first;
}

-- ---- by a piece

module _ (feeds : List FeedValue) (s : ℕ) (d : FeedValue) (inside : s < length feeds) where
  here : slice_get feeds s ≡ Some (get_or feeds s d)
  here = slice_get-get_or feeds s d inside

  pub end-here : (end : FeedEnd) → IfSome (slice_get feeds s) (λ feed. AreOfOneFeed feed end) → AreOfOneFeed (get_or feeds s d) end
  end-here end h = subst (λ (o : Option FeedValue). IfSome o (λ feed. AreOfOneFeed feed end)) here h

  -- the feed of the stream has grown
  pub grown-here : (piece : List ℕ) (taken : ℕ) (new : FeedValue) (end new_end : FeedEnd) → IsGrownBy piece taken (get_or feeds s d) new end new_end
      → GrowsAt s piece taken feeds (set feeds s new) end new_end
  grown-here piece taken new end new_end h = record { before = get_or feeds s d; there = here; after = new; grown = h; feeds = refl }

  -- it doesn't take the piece
  pub refused-here : (piece : List ℕ) (end : FeedEnd) (fault : FeedFault) → IsPieceRefused piece end fault (get_or feeds s d) → IsSomeAnd (slice_get feeds s) (IsPieceRefused piece end fault)
  refused-here piece end fault h = subst (λ (o : Option FeedValue). IsSomeAnd o (IsPieceRefused piece end fault)) (sym here) h

  -- and is as it was
  pub left-here : (new : FeedValue) → new ≡ get_or feeds s d → set feeds s new ≡ feeds
  left-here new same = ap (set feeds s) same ∙ set-get_or feeds s d

-- the board where the feed of a stream has grown by a piece
pub grows-fed : FedBoardsMayGrow → LongerFeedsHaveGrown → (s : ℕ) (piece : List ℕ) (taken : ℕ) (feeds new : List FeedValue) (end new_end : FeedEnd) (board : Meaning)
    → GrowsAt s piece taken feeds new end new_end → IsFedBoard feeds board → IsFedBoard new board
grows-fed grow longer s piece taken feeds new end new_end board at fed =
    subst (λ (fs : List FeedValue). IsFedBoard fs board) (sym at.feeds) (grow feeds board s at.before at.after fed at.there (longer at.before at.after at.grown.longer))

-- and where it hasn't
pub stays-fed : FedBoardsMayGrow → LongerFeedsHaveGrown → (s : ℕ) (piece : List ℕ) (feeds new : List FeedValue) (end new_end : FeedEnd) (board : Meaning) (r : Result ℕ GrowRefusal)
    → IfOk r (λ taken. GrowsAt s piece taken feeds new end new_end) → OnErr r ((new ≡ feeds) × (new_end ≡ end)) → IsFedBoard feeds board → IsFedBoard new board
stays-fed grow longer s piece feeds new end new_end board (Ok taken) grown left fed = grows-fed grow longer s piece taken feeds new end new_end board grown fed
stays-fed grow longer s piece feeds new end new_end board (Err refusal) grown left fed = subst (λ (fs : List FeedValue). IsFedBoard fs board) (sym left.0) fed
