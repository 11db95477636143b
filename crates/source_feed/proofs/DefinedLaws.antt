-- What is known of a feed whose groups are defined.
use Rattle.std.proofs.Common.{◌≡◌, ℕ, ◌^◌, List, length, reverse, Option, None, Some, Result, Ok, Err, IfOk, nat_lt, refl, sym, ◌∙◌, inl, inr}
use Rattle.std.proofs.lemmas.Bool.{cases_Bool, cond-true, cond-false}
use Rattle.std.specs.Option.{option_or}
use Rattle.list_laws.specs.Outcome.{GivesUnless}
use Rattle.vevent.specs.EventValue.{EventValue}
use Rattle.source_feed.specs.declared.fault.FeedFault.{FeedFault}
use Rattle.source_feed.specs.declared.fault.FeedFault.TheVariants.{FeedTooLong, OpenAtEnd}
use Rattle.source_feed.specs.FaultNumber.{meant_of}
use Rattle.source_feed.specs.GroupValue.{GroupValue}
use Rattle.source_feed.specs.SourceValue.{SourceValue}
use Rattle.source_feed.specs.EventList.{events_of_feed}
use Rattle.source_feed.specs.PastEvents.{PastEvents, is_open}
use Rattle.source_feed.specs.Groups.{groups_of, first_fault, closed, groups_in, groups}
use Rattle.source_feed.specs.Private.SetLaws.{SetLaws}
use Rattle.source_feed.proofs.OrderLaws.{InOrder, grown}

-- no event has a fault, and these are the groups of its events
pub record Defined (source : SourceValue) (events : List EventValue) (all : List GroupValue) : Type 0 where
  pub faultless : first_fault source (reverse events) ≡ None
  pub groups : groups_of source (reverse events) ≡ all

closed_well : (source : SourceValue) (past : PastEvents) (first end : Option FeedFault) (all : List GroupValue) → closed source past (option_or first end) ≡ Ok all
    → (first ≡ None) × (groups_of source past ≡ all)
closed_well source past (Some fault) end all e = cc
closed_well source past None (Some fault) all e = cc
closed_well source past None None all e =
    elim (cases_Bool (is_open past)) [
      | inl opened ↦ let err : Err OpenAtEnd ≡ Ok all = sym (cond-true (is_open past) (Err OpenAtEnd) (Ok (groups_of source past)) opened) ∙ e in cc
      | inr shut ↦
          let ok : Ok (groups_of source past) ≡ Ok all = sym (cond-false (is_open past) (Err OpenAtEnd) (Ok (groups_of source past)) shut) ∙ e in (refl, cc)
    ]

pub defined : (feed : List ℕ) (source : SourceValue) (all : List GroupValue) → groups feed source ≡ Ok all → Defined source (events_of_feed feed).items all
defined feed source all e =
    elim (cases_Bool (nat_lt (length feed) (2 ^ 31))) [
      | inl short ↦
          let w = closed_well source (reverse (events_of_feed feed).items) (first_fault source (reverse (events_of_feed feed).items)) (events_of_feed feed).fault all
          (sym (cond-true (nat_lt (length feed) (2 ^ 31)) (groups_in source (events_of_feed feed)) (Err FeedTooLong) short) ∙ e) in
          record { faultless = w.0; groups = w.1 }
      | inr long ↦ let err : Err FeedTooLong ≡ Ok all = sym (cond-false (nat_lt (length feed) (2 ^ 31)) (groups_in source (events_of_feed feed)) (Err FeedTooLong) long) ∙ e in cc
    ]

-- the groups that a call gives are in order
pub in_order : SetLaws → {X : Type 0} (view : X → List GroupValue) (feed : List ℕ) (source : SourceValue) (result : Result X FeedFault)
    → GivesUnless meant_of view result (groups feed source) → IfOk result (λ all. InOrder (view all))
in_order laws view feed source (Err fault) g = tt
in_order laws view feed source (Ok all) g =
    let w : Defined source (events_of_feed feed).items (view all) = defined feed source (view all) g in
    rw w.groups at (grown laws source (reverse (events_of_feed feed).items) w.faultless).order
