-- The groups of some events are what taking them one after another gives.
use Rattle.std.specs.Option.{option_or}
use Rattle.std.proofs.Common.{◌≡◌, ℕ, ◌^◌, ◌<◌, nat_lt, length, List, [], ◌∷◌, ◌++◌, Option, None, Some, Result, refl, sym, ◌∙◌, ap, subst, arith, inl, inr}
use Rattle.std.proofs.lemmas.Bool.{cond-true}
use Rattle.std.proofs.lemmas.Bool.Decides.{nat_tests}
use mathlib.Core.List.{reverse_aux}
use Rattle.proto_wire.specs.Reading.{Reading}
use Rattle.vevent.specs.EventValue.{EventValue}
use Rattle.vevent.specs.declared.fault.EventFault.{EventFault}
use Rattle.source_feed.specs.declared.fault.FeedFault.{FeedFault}
use Rattle.source_feed.specs.declared.fault.FeedFault.TheVariants.{Event}
use Rattle.list_laws.specs.Outcome.{◌>>=◌, unless, GivesUnless}
use Rattle.source_feed.specs.FaultNumber.{meant_of}
use Rattle.source_feed.specs.SourceValue.{SourceValue}
use Rattle.source_feed.specs.EventList.{end_of_message, events_then, events_of_feed}
use Rattle.source_feed.specs.PastEvents.{PastEvents}
use Rattle.source_feed.specs.Groups.{fault_at, first_fault, closed, groups_in, groups}
use Rattle.source_feed.specs.Private.EventByEvent.{past_behind, groups_at_end}
use Rattle.source_feed.proofs.Options.{option_cases}

-- ---- the first fault stays the first

stays : (source : SourceValue) (events : List EventValue) (history : PastEvents) (fault : FeedFault)
    → first_fault source history ≡ Some fault → first_fault source (reverse_aux events history) ≡ Some fault
stays source [] history fault e = e
stays source (event ∷ events) history fault e = stays source events (event ∷ history) fault (ap (λ f. option_or f (fault_at source history event)) e)

closed-run : (source : SourceValue) (events : List EventValue) (history : PastEvents) (end : Option FeedFault)
    → first_fault source history ≡ None
    → closed source (reverse_aux events history) (option_or (first_fault source (reverse_aux events history)) end) ≡ groups_at_end source (past_behind source history events end)
closed-run source [] history None e = ap (λ f. closed source history (option_or f None)) e
closed-run source [] history (Some fault) e = ap (λ f. closed source history (option_or f (Some fault))) e
closed-run source (event ∷ events) history end e =
    elim (option_cases (fault_at source history event)) [
      | inl none ↦
          closed-run source events (event ∷ history) end (ap (λ f. option_or f (fault_at source history event)) e ∙ none)
          ∙ sym (ap (λ f. groups_at_end source (unless f >>= λ _. past_behind source (event ∷ history) events end)) none)
      | inr some ↦
          let first : first_fault source (event ∷ history) ≡ Some some.0 = ap (λ f. option_or f (fault_at source history event)) e ∙ some.1 in
          ap (λ f. closed source (reverse_aux events (event ∷ history)) (option_or f end)) (stays source events (event ∷ history) some.0 first)
          ∙ sym (ap (λ f. groups_at_end source (unless f >>= λ _. past_behind source (event ∷ history) events end)) some.1)
    ]

-- the groups of some events, taken one after another
pub groups_in-run : (source : SourceValue) (events : Reading EventValue FeedFault) → groups_in source events ≡ groups_at_end source (past_behind source [] events.items events.fault)
groups_in-run source events = closed-run source events.items [] events.fault refl

-- ---- some events and then others

unless-then : (fault : Option FeedFault) (first : Result PastEvents FeedFault) (next : PastEvents → Result PastEvents FeedFault)
    → (unless fault >>= λ _. (first >>= next)) ≡ ((unless fault >>= λ _. first) >>= next)
unless-then None first next = refl
unless-then (Some fault) first next = refl

pub past_behind-append : (source : SourceValue) (history : PastEvents) (front behind : List EventValue) (end : Option FeedFault)
    → past_behind source history (front ++ behind) end ≡ (past_behind source history front None >>= λ h. past_behind source h behind end)
past_behind-append source history [] behind end = refl
past_behind-append source history (event ∷ front) behind end =
    ap (λ rest. unless (fault_at source history event) >>= λ _. rest) (past_behind-append source (event ∷ history) front behind end)
    ∙ unless-then (fault_at source history event) (past_behind source (event ∷ history) front None) (λ h. past_behind source h behind end)

-- what ends by a fault has nothing behind it
past_behind-ended : (source : SourceValue) (history : PastEvents) (events : List EventValue) (fault : FeedFault) (next : PastEvents → Result PastEvents FeedFault)
    → past_behind source history events (Some fault) ≡ (past_behind source history events (Some fault) >>= next)
past_behind-ended source history [] fault next = refl
past_behind-ended source history (event ∷ events) fault next =
    ap (λ rest. unless (fault_at source history event) >>= λ _. rest) (past_behind-ended source (event ∷ history) events fault next)
    ∙ unless-then (fault_at source history event) (past_behind source (event ∷ history) events (Some fault)) next

-- a message's events and then others
pub past_behind-events_then : (source : SourceValue) (history : PastEvents) (events : List EventValue) (fault : Option EventFault) (others : Reading EventValue FeedFault)
    → past_behind source history (events_then events fault others).items (events_then events fault others).fault
    ≡ (past_behind source history events (end_of_message fault) >>= λ h. past_behind source h others.items others.fault)
past_behind-events_then source history events None others = past_behind-append source history events others.items others.fault
past_behind-events_then source history events (Some fault) others = past_behind-ended source history events (Event fault) (λ h. past_behind source h others.items others.fault)

-- ---- a whole feed

pub groups-run : (feed : List ℕ) (source : SourceValue) → length feed < 2 ^ 31
    → groups feed source ≡ groups_at_end source (past_behind source [] (events_of_feed feed).items (events_of_feed feed).fault)
groups-run feed source short = cond-true (nat_lt (length feed) (2 ^ 31)) _ _ (grind (arith, nat_tests)) ∙ groups_in-run source (events_of_feed feed)

pub gives_along : {X Y : Type 0} (view : X → Y) (result : Result X FeedFault) (one other : Result Y FeedFault) → one ≡ other → GivesUnless meant_of view result other → GivesUnless meant_of view result one
gives_along {X = X} {Y = Y} view result one other e g = let P : Result Y FeedFault → Type 0 = λ d. GivesUnless meant_of view result d in subst P (sym e) g
