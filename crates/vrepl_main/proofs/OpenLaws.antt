-- Feeds opened one after another, and a refusal of one of several readings.
use Rattle.std.proofs.Common.{◌≡◌, ◌∙◌, ap, sym, ℕ, ◌+◌, ◌<◌, ◌≤◌, List, [], ◌∷◌, ◌++◌, length, drop, get_or, map, refl, append_assoc, append-nil, Option, None, Some, Result, Ok, Err}
use Rattle.std.specs.Prelude.{MatchOption}
use Rattle.std.proofs.lemmas.List.{drop_more, drop_all}
use Rattle.filter_rule.specs.PlanValue.{PlanValue}
use Rattle.source_feed.specs.Planned.{FeedValue}
use Rattle.vrepl_main.specs.declared.refusal.CommandRefusal.{CommandRefusal}
use Rattle.vrepl_main.specs.declared.refusal.CommandRefusal.TheVariants.{Memory}
use Rattle.vrepl_main.specs.Reasons.{Reason, reason_of, RefusesInputs}
use Rattle.vrepl_main.specs.Opening.{opened_feed, opened_feeds, opened_then}

-- ---- refusals

by_reason : {X Y : Type 0} (meant : Option Reason) (one : Result X Reason) (whole : Result Y Reason) → ((reason : Reason) → one ≡ Err reason → whole ≡ Err reason)
    → MatchOption meant ⊥ (λ reason. one ≡ Err reason) → MatchOption meant ⊥ (λ reason. whole ≡ Err reason)
by_reason None one whole carries is = is
by_reason (Some reason) one whole carries is = carries reason is

-- a refusal of one reading is one of a whole that this ends
pub RefusesInputs-whole : {X Y : Type 0} (refusal : CommandRefusal) (one : Result X Reason) (whole : Result Y Reason) → ((reason : Reason) → one ≡ Err reason → whole ≡ Err reason)
    → RefusesInputs refusal one → RefusesInputs refusal whole
RefusesInputs-whole Memory one whole carries is = tt
RefusesInputs-whole refusal one whole carries is = by_reason (reason_of refusal) one whole carries is

-- ---- feeds

-- feeds in front of further ones
abbrev pub in_front : List FeedValue → Result (List FeedValue) Reason → Result (List FeedValue) Reason
in_front front (Ok feeds) = Ok (front ++ feeds)
in_front front (Err reason) = Err reason

pub in_front-none : (feeds : Result (List FeedValue) Reason) → feeds ≡ in_front [] feeds
in_front-none (Ok feeds) = refl
in_front-none (Err reason) = refl

pub starts : {A B : Type 0} (f : A → PlanValue) (g : B → Option (List ℕ)) (plans : List A) (given : List B) (front : List FeedValue) → front ≡ []
    → opened_feeds (map f plans) (map g given) ≡ in_front front (opened_feeds (map f plans) (map g given))
starts f g plans given front none = rw none (in_front-none (opened_feeds (map f plans) (map g given)))

-- the feed at a place, and those behind it
at_place : {A B : Type 0} (f : A → PlanValue) (g : B → Option (List ℕ)) (plans : List A) (given : List B) (i : ℕ) (d : A) (e : B) → i < length plans → i < length given
    → opened_feeds (map f (drop i plans)) (map g (drop i given)) ≡ opened_feeds (f (get_or plans i d) ∷ map f (drop (i + 1) plans)) (g (get_or given i e) ∷ map g (drop (i + 1) given))
at_place {A} {B} f g plans given i d e lt less =
    ap (λ (ps : List A). opened_feeds (map f ps) (map g (drop i given))) (drop_more plans i d lt)
    ∙ ap (λ (gs : List B). opened_feeds (f (get_or plans i d) ∷ map f (drop (i + 1) plans)) (map g gs)) (drop_more given i e less)

pub one_more : (front : List FeedValue) (feed : FeedValue) (plan : PlanValue) (given : Option (List ℕ)) (plans : List PlanValue) (others : List (Option (List ℕ))) → opened_feed plan given ≡ Ok feed
    → in_front front (opened_feeds (plan ∷ plans) (given ∷ others)) ≡ in_front (front ++ feed ∷ []) (opened_feeds plans others)
one_more front feed plan given plans others is = rw is (behind (opened_feeds plans others))
  where
    behind : (feeds : Result (List FeedValue) Reason) → in_front front (opened_then feed feeds) ≡ in_front (front ++ feed ∷ []) feeds
    behind (Ok feeds) = ap Ok (sym (append_assoc front (feed ∷ []) feeds))
    behind (Err reason) = refl

pub none_more : (front : List FeedValue) (reason : Reason) (plan : PlanValue) (given : Option (List ℕ)) (plans : List PlanValue) (others : List (Option (List ℕ))) → opened_feed plan given ≡ Err reason
    → in_front front (opened_feeds (plan ∷ plans) (given ∷ others)) ≡ Err reason
none_more front reason plan given plans others is = rw is refl

pub moves : {A B : Type 0} (f : A → PlanValue) (g : B → Option (List ℕ)) (plans : List A) (given : List B) (i : ℕ) (d : A) (e : B) (front : List FeedValue) (feed : FeedValue) (whole : Result (List FeedValue) Reason)
    → i < length plans → i < length given → opened_feed (f (get_or plans i d)) (g (get_or given i e)) ≡ Ok feed
    → whole ≡ in_front front (opened_feeds (map f (drop i plans)) (map g (drop i given)))
    → whole ≡ in_front (front ++ feed ∷ []) (opened_feeds (map f (drop (i + 1) plans)) (map g (drop (i + 1) given)))
moves f g plans given i d e front feed whole lt less is known =
    known ∙ ap (in_front front) (at_place f g plans given i d e lt less)
    ∙ one_more front feed (f (get_or plans i d)) (g (get_or given i e)) (map f (drop (i + 1) plans)) (map g (drop (i + 1) given)) is

pub stops : {A B : Type 0} (f : A → PlanValue) (g : B → Option (List ℕ)) (plans : List A) (given : List B) (i : ℕ) (d : A) (e : B) (front : List FeedValue) (reason : Reason) (whole : Result (List FeedValue) Reason)
    → i < length plans → i < length given → opened_feed (f (get_or plans i d)) (g (get_or given i e)) ≡ Err reason
    → whole ≡ in_front front (opened_feeds (map f (drop i plans)) (map g (drop i given))) → whole ≡ Err reason
stops f g plans given i d e front reason whole lt less is known =
    known ∙ ap (in_front front) (at_place f g plans given i d e lt less)
    ∙ none_more front reason (f (get_or plans i d)) (g (get_or given i e)) (map f (drop (i + 1) plans)) (map g (drop (i + 1) given)) is

pub ends : {A B : Type 0} (f : A → PlanValue) (g : B → Option (List ℕ)) (plans : List A) (given : List B) (i : ℕ) (front : List FeedValue) (whole : Result (List FeedValue) Reason)
    → length plans ≤ i → whole ≡ in_front front (opened_feeds (map f (drop i plans)) (map g (drop i given))) → whole ≡ Ok front
ends {A} f g plans given i front whole le known =
    known ∙ ap (λ (ps : List A). in_front front (opened_feeds (map f ps) (map g (drop i given)))) (drop_all i plans le) ∙ ap Ok (append-nil front)
