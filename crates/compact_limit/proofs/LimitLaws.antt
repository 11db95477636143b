-- One group alone up to which a feed is compacted; a checkpoint more, and the first one that is at fault.
use Rattle.std.proofs.Common.{◌≡◌, ◌⊎◌, ℕ, ◌+◌, ◌<◌, ◌≤◌, List, [], ◌∷◌, ◌++◌, length, take, drop, get_or, Option, None, Some, Result, Ok, Err, slice_get, refl, sym, ap, subst, ◌∙◌, inl, inr}
use Rattle.std.proofs.lemmas.List.{map-append, take_more, take-append-drop}
use Rattle.std.proofs.lemmas.Option.{none-some, same_Some, slice_get_within}
use Rattle.std.specs.Global.{Vec}
use Rattle.std.specs.List.{AllByRecursion}
use Rattle.std.specs.Prelude.{IfSome, IfOk, IfErr}
use Rattle.list_laws.proofs.Places.{place_of}
use Rattle.list_laws.proofs.Walks.{at_item}
use Rattle.filter_rule.specs.PlanValue.{PlanValue}
use Rattle.filter_rule.specs.WellFormed.{IsPlan}
use Rattle.gtid_set.specs.Text.{position_of_text}
use Rattle.gtid_set.specs.declared.fault.GtidFault.{GtidFault}
use Rattle.gtid_set.specs.declared.fault.GtidFault.TheVariants as gtid
use Rattle.source_feed.proofs.PositionLaws.{one_number}
use Rattle.source_feed.specs.GroupValue.{Position}
use Rattle.source_feed.specs.Planned.{FeedValue, IsFeed}
use Rattle.source_feed.specs.Positions.{IsNumberAt}
use Rattle.checkpoint_core.specs.Fault.{HasParts}
use Rattle.checkpoint_laws.specs.Laws.{CheckpointsSayOneThing}
use Rattle.checkpoint_laws.specs.Said.{IsCheckpoint}
use Rattle.checkpoint_laws.specs.Saved.{SavedStream}
use Rattle.compact_limit.proofs.LeastLaws.{least_more, stops_at_first, one_least, none_stops}
use Rattle.compact_limit.specs.Least.{IsLeast, StopsAtFirst}
use Rattle.compact_limit.specs.Limit.{bytes_in, SaysOf, StandsAt, IsNamed, IsLimit}
use Rattle.compact_limit.specs.Refused.{meant_of, refusal_of_position, IsOfNoGroup, IsUnnamed, IsUnplaced, IsReadFurther, IsRefusedLimit}
use Rattle.compact_limit.specs.declared.fault.LimitFault.{LimitFault}
use Rattle.compact_limit.specs.declared.fault.LimitFault.TheVariants.{BadPosition, PositionUnknown, CheckpointBad, Memory}

-- ---- one checkpoint

module _ (plans : List PlanValue) (feed : FeedValue) (stream : ℕ) (checkpoint : List ℕ) (saved : List SavedStream) (is : IsCheckpoint plans checkpoint saved) where
  -- it stands where the position that it says is a group's
  pub stands_by : (one : SavedStream) (position : Position) (r : Result ℕ LimitFault) → slice_get saved stream ≡ Some one → position ≡ one.position → IfOk r (IsNumberAt feed position) → IfOk r (StandsAt plans feed stream checkpoint)
  stands_by one position (Ok number) there same at = (one, record { saved = saved; is = is; there = there }, subst (λ (p : Position). IsNumberAt feed p number) same at)
  stands_by one position (Err fault) there same at = tt

  -- and else is at fault
  pub unplaced_by : (one : SavedStream) (position : Position) (r : Result ℕ LimitFault) → slice_get saved stream ≡ Some one → position ≡ one.position → IfErr r (λ fault. fault ≡ PositionUnknown)
      → IfErr r (λ _. IsOfNoGroup feed position) → IfErr r (λ fault. IfSome (meant_of fault) (IsUnplaced plans feed stream checkpoint))
  unplaced_by one position (Ok number) there same unknown none = tt
  unplaced_by one position (Err fault) there same unknown none =
      subst (λ (f : LimitFault). IfSome (meant_of f) (IsUnplaced plans feed stream checkpoint)) (sym unknown)
      (one, record { saved = saved; is = is; there = there }, subst (IsOfNoGroup feed) same none)

  -- a stream beyond those of which it says something
  pub none_said : slice_get saved stream ≡ None → (one : SavedStream) → ¬ SaysOf plans stream checkpoint one
  none_said none one said =
      let within : stream < length said.saved = slice_get_within said.saved stream one said.there in
      let many : length said.saved ≡ length saved = said.is.same_count ∙ sym is.same_count in
      let some : (x : SavedStream) × (slice_get saved stream ≡ Some x) = place_of saved stream (subst (λ (n : ℕ). stream < n) many within) in
      none-some some.0 (sym none ∙ some.1)

-- ---- a checkpoint more

-- the bytes of some, and of the next one
bytes_more : (checkpoints : List (Vec ℕ)) (i : ℕ) (one : Vec ℕ) → i < length checkpoints → one ≡ get_or checkpoints i one → bytes_in (take (i + 1) checkpoints) ≡ bytes_in (take i checkpoints) ++ one.items ∷ []
bytes_more checkpoints i one lt is =
    let more : take (i + 1) checkpoints ≡ take i checkpoints ++ one ∷ [] = take_more checkpoints i one lt ∙ ap (λ (c : Vec ℕ). take i checkpoints ++ c ∷ []) (sym is) in
    ap bytes_in more ∙ map-append (λ (c : Vec ℕ). c.items) (take i checkpoints) (one ∷ [])

-- and of those behind it
bytes_around : (checkpoints : List (Vec ℕ)) (i : ℕ) (one : Vec ℕ) → i < length checkpoints → one ≡ get_or checkpoints i one
    → bytes_in checkpoints ≡ bytes_in (take i checkpoints) ++ one.items ∷ bytes_in (drop (i + 1) checkpoints)
bytes_around checkpoints i one lt is =
    let parts : checkpoints ≡ take i checkpoints ++ one ∷ drop (i + 1) checkpoints = sym (take-append-drop i checkpoints) ∙ ap (λ (cs : List (Vec ℕ)). take i checkpoints ++ cs) (at_item checkpoints i one lt is) in
    ap bytes_in parts ∙ map-append (λ (c : Vec ℕ). c.items) (take i checkpoints) (one ∷ drop (i + 1) checkpoints)

pub one_more : (plans : List PlanValue) (feed : FeedValue) (stream named number other next : ℕ) (checkpoints : List (Vec ℕ)) (i : ℕ) (one : Vec ℕ) → i < length checkpoints → one ≡ get_or checkpoints i one
    → IsLeast (StandsAt plans feed stream) named (bytes_in (take i checkpoints)) number → StandsAt plans feed stream one.items other
    → next ≤ number → (other ≡ 0) ⊎ (next ≤ other) → (next ≡ number) ⊎ ((0 < other) × (next ≡ other))
    → IsLeast (StandsAt plans feed stream) named (bytes_in (take (i + 1) checkpoints)) next
one_more plans feed stream named number other next checkpoints i one lt is least stands le behind reached =
    subst (λ (items : List (List ℕ)). IsLeast (StandsAt plans feed stream) named items next) (sym (bytes_more checkpoints i one lt is))
    (least_more (StandsAt plans feed stream) named (bytes_in (take i checkpoints)) one.items number other next least stands le behind reached)

-- ---- the first one that is at fault

if_some : {F : Type 0} (m : Option F) (P Q : F → Type 0) → ((f : F) → P f → Q f) → IfSome m P → IfSome m Q
if_some None P Q carries is = tt
if_some (Some f) P Q carries is = carries f is

pub stops_here : (plans : List PlanValue) (feed : FeedValue) (stream named number : ℕ) (checkpoints : List (Vec ℕ)) (i : ℕ) (one : Vec ℕ) (fault : LimitFault) → i < length checkpoints → one ≡ get_or checkpoints i one
    → IsLeast (StandsAt plans feed stream) named (bytes_in (take i checkpoints)) number → IfSome (meant_of fault) (IsUnplaced plans feed stream one.items)
    → IfSome (meant_of fault) (StopsAtFirst (StandsAt plans feed stream) (IsUnplaced plans feed stream) (bytes_in checkpoints))
stops_here plans feed stream named number checkpoints i one fault lt is least unplaced =
    if_some (meant_of fault) (IsUnplaced plans feed stream one.items) (StopsAtFirst (StandsAt plans feed stream) (IsUnplaced plans feed stream) (bytes_in checkpoints))
    (λ f. stops_at_first (StandsAt plans feed stream) (IsUnplaced plans feed stream) named (bytes_in (take i checkpoints)) one.items (bytes_in (drop (i + 1) checkpoints)) (bytes_in checkpoints) number f
    (bytes_around checkpoints i one lt is) least)
    unplaced

-- ---- want of memory

-- a result ends in one error alone
pub one_error : {A E : Type 0} (r : Result A E) (x y : E) → r ≡ Err x → r ≡ Err y → x ≡ y
one_error r x y e f = cc

-- a position's fault is want of memory where the reader's is
pub of_memory : (cause : GtidFault) → refusal_of_position cause ≡ Memory → cause ≡ gtid.Memory
of_memory gtid.Memory e = refl
of_memory gtid.TooLarge e = cc
of_memory gtid.Flavor e = cc
of_memory gtid.BadUuid e = cc
of_memory gtid.Syntax e = cc
of_memory gtid.BadNumber e = cc

-- it is wanted for the next checkpoint
pub wants_here : (plans : List PlanValue) (feed : FeedValue) (stream named number count : ℕ) (checkpoints : List (Vec ℕ)) (i : ℕ) (one : Vec ℕ) → i < length checkpoints → one ≡ get_or checkpoints i one
    → IsLeast (StandsAt plans feed stream) named (bytes_in (take i checkpoints)) number → length plans ≡ count → HasParts one.items count → StopsAtFirst (StandsAt plans feed stream) (IsReadFurther plans) (bytes_in checkpoints) Memory
wants_here plans feed stream named number count checkpoints i one lt is least many parts =
    stops_at_first (StandsAt plans feed stream) (IsReadFurther plans) named (bytes_in (take i checkpoints)) one.items (bytes_in (drop (i + 1) checkpoints)) (bytes_in checkpoints) number Memory
    (bytes_around checkpoints i one lt is) least (subst (HasParts one.items) (sym many) parts)

-- ---- one group alone

-- a text means one position
one_position : (text : List ℕ) (p q : Position) → position_of_text text ≡ Ok p → position_of_text text ≡ Ok q → p ≡ q
one_position text p q e f = cc

one_named : (feed : FeedValue) → IsFeed feed → (at : Option (List ℕ)) (a b : ℕ) → IsNamed feed at a → IsNamed feed at b → a ≡ b
one_named feed whole None a b p q = p ∙ sym q
one_named feed whole (Some text) a b (p, means, stands) (q, other, at) = one_number feed whole p a b stands (subst (λ r. IsNumberAt feed r b) (one_position text q p other means) at)

module _ (one_thing : CheckpointsSayOneThing) (plans : List PlanValue) (well : AllByRecursion IsPlan plans) (feed : FeedValue) (whole : IsFeed feed) (stream : ℕ) where
  -- a checkpoint says one thing of a stream
  one_said : (checkpoint : List ℕ) (a b : SavedStream) → SaysOf plans stream checkpoint a → SaysOf plans stream checkpoint b → a ≡ b
  one_said checkpoint a b p q =
      let same : p.saved ≡ q.saved = one_thing plans checkpoint p.saved q.saved well p.is q.is in
      same_Some a b (sym p.there ∙ ap (λ saved. slice_get saved stream) same ∙ q.there)

  one_place : (checkpoint : List ℕ) (a b : ℕ) → StandsAt plans feed stream checkpoint a → StandsAt plans feed stream checkpoint b → a ≡ b
  one_place checkpoint a b (one, said, stands) (other, too, at) =
      one_number feed whole one.position a b stands (subst (λ (it : SavedStream). IsNumberAt feed it.position b) (one_said checkpoint other one too said) at)

  pub one_limit : (at : Option (List ℕ)) (checkpoints : List (List ℕ)) (a b : ℕ) → IsLimit plans feed stream at checkpoints a → IsLimit plans feed stream at checkpoints b → a ≡ b
  one_limit at checkpoints a b (n, named, least) (m, too, other) =
      one_least (StandsAt plans feed stream) one_place n checkpoints a b least
      (subst (λ most. IsLeast (StandsAt plans feed stream) most checkpoints b) (one_named feed whole at m n too named) other)

  -- what has a place isn't at fault
  placed_or_not : (checkpoint : List ℕ) (place : ℕ) (fault : LimitFault) → StandsAt plans feed stream checkpoint place → ¬ IsUnplaced plans feed stream checkpoint fault
  placed_or_not checkpoint place CheckpointBad (one, said, stands) none = none one said
  placed_or_not checkpoint place PositionUnknown (one, said, stands) (other, too, none) = none place (subst (λ (it : SavedStream). IsNumberAt feed it.position place) (one_said checkpoint one other said too) stands)
  placed_or_not checkpoint place (BadPosition cause) stands none = none
  placed_or_not checkpoint place Memory stands none = none

  named_or_not : (at : Option (List ℕ)) (number : ℕ) (fault : LimitFault) → IsNamed feed at number → ¬ IsUnnamed feed at fault
  named_or_not None number fault named none = none
  named_or_not (Some text) number (BadPosition cause) (position, means, stands) bad = cc
  named_or_not (Some text) number PositionUnknown (position, means, stands) (other, too, none) = none number (subst (λ r. IsNumberAt feed r number) (one_position text position other means too) stands)
  named_or_not (Some text) number CheckpointBad named none = none
  named_or_not (Some text) number Memory named none = none

  pub limited_or_refused : (at : Option (List ℕ)) (checkpoints : List (List ℕ)) (number : ℕ) (fault : LimitFault) → IsLimit plans feed stream at checkpoints number → ¬ IsRefusedLimit plans feed stream at checkpoints fault
  limited_or_refused at checkpoints number fault (n, named, least) (inl unnamed) = named_or_not at n fault named unnamed
  limited_or_refused at checkpoints number fault (n, named, least) (inr (m, too, stops)) = none_stops (StandsAt plans feed stream) (IsUnplaced plans feed stream) placed_or_not n checkpoints number fault least stops
