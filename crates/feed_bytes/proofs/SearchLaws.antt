-- Message by message to the cut.
use Rattle.std.proofs.Common.{◌≡◌, ◌⊎◌, ℕ, ◌^◌, ◌<◌, List, [], ◌∷◌, ◌++◌, length, reverse, nat_lt, false, None, Ok, Err, refl, sym, ap, subst, ◌∙◌, inl, inr, arith, append_assoc, length-append}
use Rattle.std.proofs.lemmas.Bool.{cases_Bool, cond-true, cond-false, false≢true}
use Rattle.std.proofs.lemmas.List.{append-nil, reverse-append}
use Rattle.proto_wire.specs.Frame.{frames_of}
use Rattle.proto_wire.specs.Parts.{parts}
use Rattle.proto_wire.specs.Reading.{Reading}
use Rattle.vevent.specs.EventValue.{EventValue}
use Rattle.source_feed.specs.declared.fault.FeedFault.{FeedFault}
use Rattle.source_feed.specs.declared.fault.FeedFault.TheVariants.{FeedTooLong}
use Rattle.source_feed.specs.EventList.{events_in_messages, events_of_feed}
use Rattle.source_feed.specs.GroupValue.{GroupValue}
use Rattle.source_feed.specs.Groups.{Block, groups_of, first_fault, groups_in, groups}
use Rattle.source_feed.specs.PastEvents.{PastEvents}
use Rattle.source_feed.specs.SourceValue.{SourceValue}
use Rattle.source_feed.specs.Private.SetLaws.{SetLaws}
use Rattle.event_laws.specs.Cuts.{IsCut}
use Rattle.event_laws.specs.Laws.{HaveEvents, groups_to_end}
use Rattle.event_laws.proofs.RestLaws.{opened_whole}
use Rattle.event_laws.proofs.RunLaws.{Ended, ended, front_faultless, not_given}
use Rattle.feed_bytes.specs.Cut.{CarriesPosition, IsCutBehind}
use Rattle.feed_bytes.specs.Private.Course.{CourseValue, Walk, walked}
use Rattle.feed_bytes.specs.Private.Search.{IsBehind, StopsAt, GoesBy, IsNextMessage, IsSought}
use Rattle.feed_bytes.proofs.NextLaws.{IsFirstOf, first_of}
use Rattle.feed_bytes.proofs.WalkLaws.{walks}

abbrev Events : Type 0
Events = Reading EventValue FeedFault

-- the groups of bytes that open are those of their events
pub to_end : (bytes : List ℕ) (source : SourceValue) (all : List GroupValue) → groups bytes source ≡ Ok all → groups_to_end source (events_of_feed bytes).items ≡ Ok all
to_end bytes source all e = ap (groups_in source) (sym (opened_whole bytes source all e).are) ∙ short
  where
    short : groups_in source (events_of_feed bytes) ≡ Ok all
    short = elim (cases_Bool (nat_lt (length bytes) (2 ^ 31))) [
      | inl is ↦ sym (cond-true (nat_lt (length bytes) (2 ^ 31)) (groups_in source (events_of_feed bytes)) (Err FeedTooLong) is) ∙ e
      | inr long ↦ not_given all FeedTooLong (sym (cond-false (nat_lt (length bytes) (2 ^ 31)) (groups_in source (events_of_feed bytes)) (Err FeedTooLong) long) ∙ e)
    ]

-- before the first event
abbrev pub at_first : ℕ → CourseValue
at_first number = record { inside = false; place = None; last = []; reached = []; left = number; fields = [] }

nothing_yet : (source : SourceValue) (number : ℕ) → IsBehind source number [] (at_first number)
nothing_yet source number = record {
  inside = refl;
  body = λ opened. absurd (false≢true opened);
  placed = tt;
  reached = refl;
  last = inl refl;
  left = omega arith;
  fields = record { named = tt; events = refl };
}

module _ (laws : SetLaws) (feed : List ℕ) (source : SourceValue) (number : ℕ) (all : List GroupValue) (e : groups feed source ≡ Ok all) where
  abbrev events : List EventValue
  events = (events_of_feed feed).items

  have : HaveEvents feed events
  have = opened_whole feed source all e

  whole : Ended source (reverse events) all
  whole = ended source events all (to_end feed source all e)

  pub sought_first : 0 < number → IsSought source number events (at_first number) feed
  sought_first some = record { before = []; later = events; are = refl; have = have; at = nothing_yet source number; more = some }

  -- where no message is left, the feed has fewer groups
  pub sought_end : (course : CourseValue) (rest : List ℕ) → IsSought source number events course rest → (frames_of rest).items ≡ [] → length all < number
  sought_end course rest s none =
      let no_more : s.later ≡ [] =
      sym (ap (λ (r : Events). r.items) s.have.are) ∙ ap (λ (ms : List (List ℕ)). (events_in_messages ms (frames_of rest).fault).items) none in
      let are : events ≡ s.before = s.are ∙ ap (λ (vs : List EventValue). s.before ++ vs) no_more ∙ append-nil s.before in
      let same : groups_of source (reverse s.before) ≡ all = ap (λ (vs : List EventValue). groups_of source (reverse vs)) (sym are) ∙ whole.are in
      omega (arith, s.at.left, ap length same, s.more)

  module _ (course : CourseValue) (rest message behind : List ℕ) (s : IsSought source number events course rest) (next : IsNextMessage rest message behind) where
    first : IsFirstOf message behind s.later
    first = first_of rest message behind s.later next s.have

    abbrev inside : List EventValue
    inside = first.inside

    are : events ≡ (s.before ++ inside) ++ first.later
    are = s.are ∙ ap (λ (vs : List EventValue). s.before ++ vs) first.are ∙ sym (append_assoc s.before inside first.later)

    faultless : first_fault source (reverse inside ++ reverse s.before) ≡ None
    faultless =
        ap (first_fault source) (sym (reverse-append s.before inside))
        ∙ front_faultless source (reverse first.later) (reverse (s.before ++ inside)) (ap (first_fault source) (sym (ap reverse are ∙ reverse-append (s.before ++ inside) first.later)) ∙ whole.faultless)

    -- the cut stands in the message
    found : (walk : Walk) → StopsAt source number (reverse s.before) inside walk → IsCutBehind feed source number walk.course.fields walk.course.last walk.rest behind
    found walk stops =
        let front : List EventValue = s.before ++ stops.front in
        let past : reverse stops.front ++ reverse s.before ≡ reverse front = sym (reverse-append s.before stops.front) in
        let at : IsBehind source number (reverse front) walk.course = subst (λ (p : PastEvents). IsBehind source number p walk.course) past stops.at in
        let cut : IsCut source (reverse front) stops.block = subst (λ (p : PastEvents). IsCut source p stops.block) past stops.cut in
        let split : events ≡ front ++ (stops.behind ++ first.later) =
        are ∙ ap (λ (vs : List EventValue). (s.before ++ vs) ++ first.later) stops.are
        ∙ ap (λ (vs : List EventValue). vs ++ first.later) (sym (append_assoc s.before stops.front stops.behind))
        ∙ append_assoc front stops.behind first.later in
        record {
          front = front;
          behind = stops.behind;
          later = first.later;
          events = subst (HaveEvents feed) split have;
          of_message = stops.read;
          of_rest = first.have;
          many = omega (arith, at.left, stops.none);
          block = stops.block;
          cut = cut;
          in_force = at.fields;
          carried = by (reverse front) stops.block walk.course at cut at.last;
        }
      where
        by : (past : PastEvents) (block : Block) (course : CourseValue) → IsBehind source number past course → IsCut source past block → (groups_of source past ≡ []) ⊎ CarriesPosition source course.last course.reached
            → CarriesPosition source course.last block.position
        by past block course at cut (inl none) =
            let long : 0 ≡ length (cut.last.before ++ cut.last.last ∷ []) = ap length (sym none ∙ cut.last.groups) in absurd (omega (arith, long, length-append cut.last.before (cut.last.last ∷ [])))
        by past block course at cut (inr carries) = subst (CarriesPosition source course.last) (at.reached ∙ cut.reached) carries

    -- all of the message is passed
    passed_by : (walk : Walk) → GoesBy source number (reverse s.before) inside walk → IsSought source number events walk.course behind
    passed_by walk goes = record {
      before = s.before ++ inside;
      later = first.later;
      are = are;
      have = first.have;
      at = subst (λ (p : PastEvents). IsBehind source number p walk.course) (sym (reverse-append s.before inside)) goes.at;
      more = goes.more;
    }

    either : (walk : Walk) → walk ≡ walked source course (parts 1 message) → StopsAt source number (reverse s.before) inside walk ⊎ GoesBy source number (reverse s.before) inside walk
    either walk is =
        subst (λ (w : Walk). StopsAt source number (reverse s.before) inside w ⊎ GoesBy source number (reverse s.before) inside w) (sym is)
        (walks laws source number (parts 1 message) inside (reverse s.before) course first.read faultless s.at s.more)

    pub cut_found : (walk : Walk) → walk ≡ walked source course (parts 1 message) → walk.course.left ≡ 0 → IsCutBehind feed source number walk.course.fields walk.course.last walk.rest behind
    cut_found walk is none = elim (either walk is) [ inl stops ↦ found walk stops | inr goes ↦ absurd (omega (arith, goes.more, none)) ]

    pub sought_next : (walk : Walk) → walk ≡ walked source course (parts 1 message) → 0 < walk.course.left → IsSought source number events walk.course behind
    sought_next walk is more = elim (either walk is) [ inl stops ↦ absurd (omega (arith, stops.none, more)) | inr goes ↦ passed_by walk goes ]
