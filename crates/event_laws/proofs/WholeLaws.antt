-- Behind the last of whole messages that open as groups a feed can be cut.
use Rattle.std.proofs.Common.{◌≡◌, ℕ, ◌+◌, ◌^◌, ◌⊎◌, List, [], ◌∷◌, ◌++◌, length, reverse, slice_get, suc, nat_lt, false, Option, None, Some, Ok, Err, refl, sym, ap, subst, ◌∙◌, arith, inl, inr, length-append}
use Rattle.std.proofs.lemmas.Bool.{cases_Bool, cond-true, cond-false}
use Rattle.std.proofs.lemmas.List.{append-nil}
use Rattle.std.proofs.lemmas.Option.{none-some}
use Rattle.std.specs.Option.{option_or}
use Rattle.gtid_set.specs.Position.{IsCanonical, IsWithin, within_of}
use Rattle.proto_wire.specs.Frame.{frames_of}
use Rattle.proto_wire.specs.declared.fault.FrameFault.{FrameFault}
use Rattle.vevent.specs.EventValue.{EventValue}
use Rattle.vevent.specs.Response.{response_of}
use Rattle.vevent.specs.declared.fault.EventFault.{EventFault}
use Rattle.source_feed.specs.declared.fault.FeedFault.{FeedFault}
use Rattle.source_feed.specs.declared.fault.FeedFault.TheVariants.{FeedTooLong, Frame, Event}
use Rattle.source_feed.specs.EventList.{events_then, events_in_messages, events_of_feed}
use Rattle.source_feed.specs.GroupValue.{Position, GroupValue}
use Rattle.source_feed.specs.SourceValue.{SourceValue}
use Rattle.source_feed.specs.PastEvents.{PastEvents}
use Rattle.source_feed.specs.Groups.{Block, block_at, with_block, seen, group_of_block, groups_of, fault_at, first_fault, closed, groups_in, groups}
use Rattle.source_feed.specs.Private.SetLaws.{SetLaws}
use Rattle.source_feed.proofs.Options.{option_cases, option_or-nothing}
use Rattle.source_feed.proofs.OrderLaws.{Grown, grown, as_group, EndsWell, ends_well, around}
use Rattle.event_laws.specs.BaseEvents.{HasLast}
use Rattle.event_laws.specs.Laws.{IsWholeCut}
use Rattle.event_laws.proofs.RunLaws.{Ended, ended_by, not_given}

-- ---- the last group's position is all that was reached

record Reached (source : SourceValue) (past : PastEvents) (position : Position) : Type 0 where
  last : HasLast source past position
  reached : seen source past ≡ position

abbrev IsReached : SourceValue → PastEvents → Type 0
IsReached source past = ((groups_of source past ≡ []) × (seen source past ≡ [])) ⊎ ((position : Position) × Reached source past position)

module _ (laws : SetLaws) (source : SourceValue) (earlier : PastEvents) (event : EventValue) where
  abbrev behind : Option Block → List GroupValue
  behind block = groups_of source earlier ++ group_of_block (seen source earlier) (length (groups_of source earlier) + 1) block

  -- nothing is added
  as_before : groups_of source (event ∷ earlier) ≡ groups_of source earlier → seen source (event ∷ earlier) ≡ seen source earlier → IsReached source earlier → IsReached source (event ∷ earlier)
  as_before g s (inl none) = inl (g ∙ none.0, s ∙ none.1)
  as_before g s (inr (position, at)) = inr (
    position,
    record {
      last = record { before = at.last.before; last = at.last.last; groups = g ∙ at.last.groups; at = at.last.at };
      reached = s ∙ at.reached;
    },
  )

  one_block : (block : Block) → block_at source earlier event ≡ Some block → EndsWell source earlier block → IsCanonical (seen source earlier) → IsReached source earlier → IsReached source (event ∷ earlier)
  one_block block here well canonical before = elim (cases_Bool (within_of block.position (seen source earlier))) [
    | inl within ↦
        as_before
        (ap behind here ∙ ap (λ (gs : List GroupValue). groups_of source earlier ++ gs) (cond-true (within_of block.position (seen source earlier)) [] (as_group (groups_of source earlier) block ∷ []) within) ∙ append-nil (groups_of source earlier))
        (ap (with_block (seen source earlier)) here ∙ laws.union_within block.position (seen source earlier) well.canonical canonical within) before
    | inr beyond ↦ inr (
      block.position,
      record {
        last = record {
          before = groups_of source earlier;
          last = as_group (groups_of source earlier) block;
          groups = ap behind here ∙ ap (λ (gs : List GroupValue). groups_of source earlier ++ gs) (cond-false (within_of block.position (seen source earlier)) [] (as_group (groups_of source earlier) block ∷ []) beyond);
          at = refl;
        };
        reached = ap (with_block (seen source earlier)) here
            ∙ laws.union_around (seen source earlier) block.position canonical well.canonical (around source earlier block.position well.faultless beyond);
      },
    )
  ]

is_reached : SetLaws → (source : SourceValue) (past : PastEvents) → first_fault source past ≡ None → IsReached source past
is_reached laws source [] e = inl (refl, refl)
is_reached laws source (event ∷ earlier) e =
    let none = option_or-nothing (first_fault source earlier) (fault_at source earlier event) e in
    let before : IsReached source earlier = is_reached laws source earlier none.0 in
    elim (option_cases (block_at source earlier event)) [
      | inl nothing ↦
          as_before laws source earlier event (ap (behind laws source earlier event) nothing ∙ append-nil (groups_of source earlier)) (ap (with_block (seen source earlier)) nothing) before
      | inr some ↦ one_block laws source earlier event some.0 some.1 (ends_well laws source earlier event some.0 some.1 none.1) (grown laws source earlier none.0).canonical before
    ]

-- ---- whole messages

some_fault : {P : Type 0} (fault : FeedFault) → Some fault ≡ None → P
some_fault fault e = absurd (none-some fault (sym e))

pub messages_whole : (messages : List (List ℕ)) (end : Option FrameFault) → (events_in_messages messages end).fault ≡ None → end ≡ None
messages_whole [] None e = refl
messages_whole [] (Some fault) e = some_fault Frame e
messages_whole (m ∷ messages) end e = by (messages_whole messages end) (response_of m).fault e
  where
    by : ((events_in_messages messages end).fault ≡ None → end ≡ None) → (fault : Option EventFault) → (events_then (response_of m).items fault (events_in_messages messages end)).fault ≡ None → end ≡ None
    by rest None e = rest e
    by rest (Some fault) e = some_fault (Event fault) e

pub ended_all : (source : SourceValue) (past : PastEvents) (first end : Option FeedFault) (all : List GroupValue) → first_fault source past ≡ first → closed source past (option_or first end) ≡ Ok all → (end ≡ None) × Ended source past all
ended_all source past (Some fault) end all is e = not_given all fault e
ended_all source past None (Some fault) all is e = not_given all fault e
ended_all source past None None all is e = (refl, ended_by source past None all is e)

-- ---- the cut

same_end : (xs ys : List GroupValue) (x y : GroupValue) → xs ++ x ∷ [] ≡ ys ++ y ∷ [] → x ≡ y
same_end [] [] x y e = cc
same_end [] (z ∷ ys) x y e = (let long : 1 ≡ suc (length (ys ++ y ∷ [])) = ap length e in absurd (omega (arith, long, length-append ys (y ∷ []))))
same_end (w ∷ xs) [] x y e = (let long : suc (length (xs ++ x ∷ [])) ≡ 1 = ap length e in absurd (omega (arith, long, length-append xs (x ∷ []))))
same_end (w ∷ xs) (z ∷ ys) x y e = (let rest : xs ++ x ∷ [] ≡ ys ++ y ∷ [] = cc in same_end xs ys x y rest)

some_group : {P : Type 0} (before : List GroupValue) (last : GroupValue) → [] ≡ before ++ last ∷ [] → P
some_group before last e = let long : 0 ≡ length (before ++ last ∷ []) = ap length e in absurd (omega (arith, long, length-append before (last ∷ [])))

last_there : (xs : List GroupValue) (last : GroupValue) → slice_get (xs ++ last ∷ []) (length xs) ≡ Some last
last_there [] last = refl
last_there (x ∷ xs) last = last_there xs last

module _ (laws : SetLaws) (feed : List ℕ) (source : SourceValue) (before : List GroupValue) (last : GroupValue) where
  abbrev past : PastEvents
  past = reverse (events_of_feed feed).items

  at_last : (position : Position) → Reached source past position → groups_of source past ≡ before ++ last ∷ [] → position ≡ last.position
  at_last position r are = sym r.last.at ∙ ap (λ (g : GroupValue). g.position) (same_end r.last.before before r.last.last last (sym r.last.groups ∙ are))

  apart : Grown (groups_of source past) (seen source past) → groups_of source past ≡ before ++ last ∷ [] → IsCanonical last.position → within_of last.position [] ≡ false
  apart g are canonical = elim (cases_Bool (within_of last.position [])) [
    | inl within ↦ (
        let none : IsWithin last.position [] = laws.subset last.position [] canonical tt within in
        absurd ((g.order.from_empty (length before) last (ap (λ (gs : List GroupValue). slice_get gs (length before)) are ∙ last_there before last)).1 none)
        )
    | inr beyond ↦ beyond
  ]

  cut_here : ((events_of_feed feed).fault ≡ None) × Ended source past (before ++ last ∷ []) → IsWholeCut feed source before last
  cut_here (whole, w) = elim (is_reached laws source past w.faultless) [
    | inl none ↦ some_group before last (sym none.0 ∙ w.are)
    | inr some ↦ (
        let g : Grown (groups_of source past) (seen source past) = grown laws source past w.faultless in
        let here : seen source past ≡ last.position = some.1.reached ∙ at_last some.0 some.1 w.are in
        let canonical : IsCanonical last.position = subst IsCanonical here g.canonical in
        record {
          events = record {
            whole = messages_whole (frames_of feed).items (frames_of feed).fault whole;
            are = ap (λ (f : Option FeedFault). record { items = (events_of_feed feed).items; fault = f }) whole;
          };
          cut = record {
            outside = w.outside;
            last = record { before = before; last = last; groups = w.are; at = refl };
            reached = here;
            from_empty = apart g w.are canonical;
          };
          many = ap length w.are ∙ length-append before (last ∷ []);
        }
        )
  ]

  pub whole_cut : groups feed source ≡ Ok (before ++ last ∷ []) → IsWholeCut feed source before last
  whole_cut e = elim (cases_Bool (nat_lt (length feed) (2 ^ 31))) [
    | inl short ↦
        cut_here
        (ended_all source past (first_fault source past) (events_of_feed feed).fault (before ++ last ∷ []) refl
        (sym (cond-true (nat_lt (length feed) (2 ^ 31)) (groups_in source (events_of_feed feed)) (Err FeedTooLong) short) ∙ e))
    | inr long ↦ not_given (before ++ last ∷ []) FeedTooLong (sym (cond-false (nat_lt (length feed) (2 ^ 31)) (groups_in source (events_of_feed feed)) (Err FeedTooLong) long) ∙ e)
  ]
