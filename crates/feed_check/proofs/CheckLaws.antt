-- Feeds checked one after another, and groups prepared one after another.
use Rattle.std.proofs.Common.{◌≡◌, ◌⊎◌, inl, inr, ℕ, ◌+◌, ◌<◌, ◌≤◌, add-one, List, [], ◌∷◌, ◌++◌, length, drop, get_or, Option, Some, None, Result, Ok, Err, refl, ap, sym, ◌∙◌}
use Rattle.std.specs.Prelude.{IfSome, slice_get}
use Rattle.std.proofs.lemmas.List.{append_assoc, append-nil, drop_more, drop_all}
use Rattle.std.proofs.lemmas.Option.{slice_get-get_or, slice_get_within, slice_get_cases, get_or_from_slice_get}
use Rattle.list_laws.specs.Outcome.{◌>>=◌, each, Refuses}
use Rattle.source_feed.specs.FaultNumber.{meant_of}
use Rattle.source_feed.specs.declared.fault.FeedFault.{FeedFault}
use Rattle.source_feed.specs.Planned.{PlannedGroupValue, FeedValue}
use Rattle.source_feed.specs.Touches.{PreparedValue, prepared, prepared_if, prepared_at}
use Rattle.feed_check.specs.Checked.{CheckedValue, checked, checked_feeds, history_of}
use Rattle.feed_check.proofs.ListLaws.{in_front, each-goes, each-stops}

-- ---- groups

-- the group at a place is prepared, or refused
at_place : (feed : FeedValue) (i number : ℕ) (d : PlannedGroupValue) → i < length feed.groups → number ≡ i + 1 → prepared_at feed number ≡ prepared feed.plan (get_or feed.groups i d)
at_place feed i number d within e = ap (λ n. prepared_at feed n) (e ∙ add-one i) ∙ ap (prepared_if feed) (slice_get-get_or feed.groups i d within)

nowhere : PlannedGroupValue
nowhere = record { number = 0; position = []; changes = [] }

pub prepare-goes : (feed : FeedValue) (i number : ℕ) (front : List PreparedValue) (group : PreparedValue) → i < length feed.groups → number ≡ i + 1 → prepared_at feed number ≡ Ok group
    → history_of feed ≡ in_front front (each (prepared feed.plan) (drop i feed.groups))
    → history_of feed ≡ in_front (front ++ group ∷ []) (each (prepared feed.plan) (drop (i + 1) feed.groups))
prepare-goes feed i number front group within e is h =
    h
    ∙ ap (λ (gs : List PlannedGroupValue). in_front front (each (prepared feed.plan) gs)) (drop_more feed.groups i nowhere within)
    ∙ each-goes (prepared feed.plan) front (get_or feed.groups i nowhere) (drop (i + 1) feed.groups) group (sym (at_place feed i number nowhere within e) ∙ is)

pub prepare-stops : (feed : FeedValue) (i number : ℕ) (front : List PreparedValue) (given : FeedFault) → i < length feed.groups → number ≡ i + 1 → Refuses meant_of given (prepared_at feed number)
    → history_of feed ≡ in_front front (each (prepared feed.plan) (drop i feed.groups))
    → Refuses meant_of given (history_of feed)
prepare-stops feed i number front given within e is h = by (meant_of given) is
  where
    by : (meant : Option FeedFault) → IfSome meant (λ f. prepared_at feed number ≡ Err f) → IfSome meant (λ f. history_of feed ≡ Err f)
    by None is = tt
    by (Some f) is =
        h
        ∙ ap (λ (gs : List PlannedGroupValue). in_front front (each (prepared feed.plan) gs)) (drop_more feed.groups i nowhere within)
        ∙ each-stops (prepared feed.plan) front (get_or feed.groups i nowhere) (drop (i + 1) feed.groups) f (sym (at_place feed i number nowhere within e) ∙ is)

-- ---- feeds

nested : (front : List CheckedValue) (x : CheckedValue) (r : Result (List CheckedValue) FeedFault) → in_front front (r >>= λ rest. Ok (x ∷ rest)) ≡ in_front (front ++ x ∷ []) r
nested front x (Ok rest) = ap Ok (sym (append_assoc front (x ∷ []) rest))
nested front x (Err fault) = refl

-- the first of what is left
front_of : (bytes : List (List ℕ)) (feeds : List FeedValue) (i : ℕ) (one : List ℕ) (feed : FeedValue) (front : List CheckedValue)
    → slice_get bytes i ≡ Some one → i < length feeds → feed ≡ get_or feeds i feed
    → in_front front (checked_feeds (drop i bytes) (drop i feeds)) ≡ in_front front (checked_feeds (one ∷ drop (i + 1) bytes) (feed ∷ drop (i + 1) feeds))
front_of bytes feeds i one feed front b within f =
    ap (λ bs. in_front front (checked_feeds bs (drop i feeds))) (drop_more bytes i one (slice_get_within bytes i one b) ∙ ap (λ x. x ∷ drop (i + 1) bytes) (get_or_from_slice_get bytes i one one b))
    ∙ ap (λ fs. in_front front (checked_feeds (one ∷ drop (i + 1) bytes) fs)) (drop_more feeds i feed within ∙ ap (λ x. x ∷ drop (i + 1) feeds) (sym f))

-- a check more
pub check-goes : (bytes : List (List ℕ)) (feeds : List FeedValue) (i : ℕ) (one : List ℕ) (feed : FeedValue) (front : List CheckedValue) (check : CheckedValue)
    → slice_get bytes i ≡ Some one → i < length feeds → feed ≡ get_or feeds i feed → checked one feed ≡ Ok check
    → in_front front (checked_feeds (drop i bytes) (drop i feeds)) ≡ in_front (front ++ check ∷ []) (checked_feeds (drop (i + 1) bytes) (drop (i + 1) feeds))
check-goes bytes feeds i one feed front check b within f e =
    front_of bytes feeds i one feed front b within f
    ∙ ap (λ (r : Result CheckedValue FeedFault). in_front front (r >>= λ c. checked_feeds (drop (i + 1) bytes) (drop (i + 1) feeds) >>= λ cs. Ok (c ∷ cs))) e
    ∙ nested front check (checked_feeds (drop (i + 1) bytes) (drop (i + 1) feeds))

-- a check that is refused
pub check-stops : (bytes : List (List ℕ)) (feeds : List FeedValue) (i : ℕ) (one : List ℕ) (feed : FeedValue) (front : List CheckedValue) (whole : Result (List CheckedValue) FeedFault) (given : FeedFault)
    → slice_get bytes i ≡ Some one → i < length feeds → feed ≡ get_or feeds i feed → Refuses meant_of given (checked one feed)
    → whole ≡ in_front front (checked_feeds (drop i bytes) (drop i feeds)) → Refuses meant_of given whole
check-stops bytes feeds i one feed front whole given b within f is h = by (meant_of given) is
  where
    by : (meant : Option FeedFault) → IfSome meant (λ m. checked one feed ≡ Err m) → IfSome meant (λ m. whole ≡ Err m)
    by None is = tt
    by (Some m) is =
        h
        ∙ front_of bytes feeds i one feed front b within f
        ∙ ap (λ (r : Result CheckedValue FeedFault). in_front front (r >>= λ c. checked_feeds (drop (i + 1) bytes) (drop (i + 1) feeds) >>= λ cs. Ok (c ∷ cs))) is

-- no feed is left
pub no_feed : (bytes : List (List ℕ)) (front : List CheckedValue) → in_front front (checked_feeds bytes []) ≡ Ok front
no_feed [] front = ap Ok (append-nil front)
no_feed (one ∷ bytes) front = ap Ok (append-nil front)

-- no bytes are left
pub no_bytes : (bytes : List (List ℕ)) (i : ℕ) (feeds : List FeedValue) (front : List CheckedValue) → slice_get bytes i ≡ None → in_front front (checked_feeds (drop i bytes) feeds) ≡ Ok front
no_bytes bytes i feeds front e = by (slice_get_cases bytes i).1
  where
    by : ((x : List ℕ) × (i < length bytes) × (slice_get bytes i ≡ Some x) × (get_or bytes i x ≡ x)) ⊎ ((length bytes ≤ i) × (slice_get bytes i ≡ None)) → in_front front (checked_feeds (drop i bytes) feeds) ≡ Ok front
    by (inl found) = let no : None ≡ Some found.0 = sym e ∙ found.2 in cc
    by (inr past) = ap (λ bs. in_front front (checked_feeds bs feeds)) (drop_all i bytes past.0) ∙ ap Ok (append-nil front)
