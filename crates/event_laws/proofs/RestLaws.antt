-- What is behind whole messages: other whole messages, and what is left of whole ones.
use Rattle.std.proofs.Common.{◌≡◌, ℕ, ◌^◌, List, ◌++◌, length, reverse, nat_lt, Option, None, Ok, Err, refl, sym, ap, ◌∙◌, inl, inr}
use Rattle.std.proofs.lemmas.Bool.{cases_Bool, cond-true, cond-false}
use Rattle.proto_wire.specs.Reading.{Reading}
use Rattle.proto_wire.specs.Frame.{frames_of}
use Rattle.vevent.specs.EventValue.{EventValue}
use Rattle.source_feed.specs.declared.fault.FeedFault.{FeedFault}
use Rattle.source_feed.specs.declared.fault.FeedFault.TheVariants.{FeedTooLong}
use Rattle.source_feed.specs.EventList.{events_of_feed}
use Rattle.source_feed.specs.GroupValue.{GroupValue}
use Rattle.source_feed.specs.SourceValue.{SourceValue}
use Rattle.source_feed.specs.Groups.{first_fault, groups_in, groups}
use Rattle.event_laws.specs.Laws.{HaveEvents, IsRest}
use Rattle.event_laws.proofs.MessageLaws.{bytes_behind}
use Rattle.event_laws.proofs.RunLaws.{not_given}
use Rattle.event_laws.proofs.WholeLaws.{messages_whole, ended_all}

abbrev Events : Type 0
Events = Reading EventValue FeedFault

-- bytes whose events have no fault are whole messages
have_of : (bytes : List ℕ) (events : List EventValue) → events_of_feed bytes ≡ record { items = events; fault = None } → HaveEvents bytes events
have_of bytes events e = record { whole = messages_whole (frames_of bytes).items (frames_of bytes).fault (ap (λ (r : Events). r.fault) e); are = e }

abbrev sound : List EventValue → Events
sound events = record { items = events; fault = None }

pub whole_behind : (whole rest : List ℕ) (events others : List EventValue) → HaveEvents whole events → HaveEvents rest others → HaveEvents (whole ++ rest) (events ++ others)
whole_behind whole rest events others w r =
    have_of (whole ++ rest) (events ++ others)
    (bytes_behind whole rest events w ∙ ap (λ (more : Events). record { items = events ++ more.items; fault = more.fault }) r.are)

pub rest_of_whole : (whole rest : List ℕ) (events all : List EventValue) → HaveEvents whole events → HaveEvents (whole ++ rest) all → IsRest rest events all
rest_of_whole whole rest events all w h =
    let more : Events = events_of_feed rest in
    let same : record { items = events ++ more.items; fault = more.fault } ≡ sound all = sym (bytes_behind whole rest events w) ∙ h.are in
    record {
      others = more.items;
      have = have_of rest more.items (ap (λ (f : Option FeedFault). record { items = more.items; fault = f }) (ap (λ (r : Events). r.fault) same));
      are = sym (ap (λ (r : Events). r.items) same);
    }

pub opened_whole : (bytes : List ℕ) (source : SourceValue) (all : List GroupValue) → groups bytes source ≡ Ok all → HaveEvents bytes (events_of_feed bytes).items
opened_whole bytes source all e = elim (cases_Bool (nat_lt (length bytes) (2 ^ 31))) [
  | inl short ↦ (
      let ends = ended_all source (reverse (events_of_feed bytes).items) (first_fault source (reverse (events_of_feed bytes).items)) (events_of_feed bytes).fault all refl
      (sym (cond-true (nat_lt (length bytes) (2 ^ 31)) (groups_in source (events_of_feed bytes)) (Err FeedTooLong) short) ∙ e) in
      have_of bytes (events_of_feed bytes).items (ap (λ (f : Option FeedFault). record { items = (events_of_feed bytes).items; fault = f }) ends.0)
      )
  | inr long ↦ not_given all FeedTooLong (sym (cond-false (nat_lt (length bytes) (2 ^ 31)) (groups_in source (events_of_feed bytes)) (Err FeedTooLong) long) ∙ e)
]
