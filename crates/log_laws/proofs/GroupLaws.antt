-- The groups of the events that tell transactions, one behind another.
use Rattle.std.proofs.Common.{◌≡◌, ℕ, ◌+◌, ◌≤◌, List, [], ◌∷◌, ◌++◌, length, map, reverse, Bool, true, false, cond, Option, None, Some, Result, Ok, Err, refl, sym, ap, subst, ◌∙◌, arith, inl, inr, append_assoc, length-append}
use Rattle.std.proofs.lemmas.Bool.{cases_Bool, cond-true, cond-false, leb-true, and_from, false≢true}
use Rattle.std.proofs.lemmas.List.{append-nil, reverse-append}
use Rattle.std.proofs.lemmas.List.Concat.{flat_map-append}
use Rattle.std.proofs.lemmas.Slice.Eq.{bytes_eq-Decides}
use mathlib.Core.List.{reverse-cons}
use Rattle.std.specs.List.{AllByRecursion, flat_map, list_any}
use Rattle.std.specs.Prelude.{IsTrue, ◌↔◌, ◌&&◌, nat_le, if◌then◌else◌}
use Rattle.std.specs.Option.{option_or}
use Rattle.std.specs.Str.{bytes_eq, is_utf8}
use Rattle.list_laws.proofs.Fronts.{All-append}
use Rattle.list_laws.specs.Outcome.{◌>>=◌}
use Rattle.gtid_set.specs.declared.interval.Interval.{Interval}
use Rattle.gtid_set.specs.declared.fault.GtidFault.{GtidFault}
use Rattle.gtid_set.specs.Position.{IsCanonical, IsWithin, within_of, union_of}
use Rattle.gtid_set.specs.Printed.{printed_position}
use Rattle.gtid_set.specs.Text.{text_limit, position_of_text}
use Rattle.vevent.specs.EventValue.{EventValue, Begin, Commit, Vgtid}
use Rattle.vevent.specs.WrittenEvent.{IsSoundEvent}
use Rattle.source_feed.specs.declared.fault.FeedFault.{FeedFault}
use Rattle.source_feed.specs.declared.fault.FeedFault.TheVariants.{Diverged, Misplaced}
use Rattle.source_feed.specs.GroupValue.{Position, TableChangeValue, GroupValue}
use Rattle.source_feed.specs.SourceValue.{SourceValue, own_gtid}
use Rattle.source_feed.specs.PastEvents.{PastEvents, is_open, past_set, past_set_of_text, last_field, position_of, body_position, body_changes}
use Rattle.source_feed.specs.Groups.{Block, block_at, block_at_position, with_block, seen, group_of_block, groups_of, block_fault, position_fault, entry_fault, commit_fault, fault_at, first_fault}
use Rattle.log_groups.specs.Transaction.{DoneValue}
use Rattle.log_course.specs.Course.{PlacedValue}
use Rattle.log_places.specs.Place.{Rises}
use Rattle.log_feed.specs.declared.fault.ChangeFault.{ChangeFault}
use Rattle.log_feed.specs.declared.table.Stage.{Stage}
use Rattle.log_feed.specs.Group.{Told, told_of_all, place_event, group_of}
use Rattle.log_laws.specs.declared.fault.TellFault.{TellFault}
use Rattle.log_laws.specs.declared.fault.TellFault.TheVariants as tell_fault
use Rattle.log_laws.specs.Source.{SourceTables, source_of, IsSource}
use Rattle.log_laws.specs.Transcript.{Far, Messages, of_changes, place_told, messages_with, has_events, group_told, groups_told, last_by, last_told}
use Rattle.log_laws.specs.Read.{done_read, is_of_feed, is_told, group_read, groups_read, last_read, reached_by, said_by}
use Rattle.log_laws.specs.Far.{TellsSoFar, AreRising}
use Rattle.log_laws.specs.Laws.{events_in, behind, next_number, TellGroups, ReachesSoFar}
use Rattle.log_laws.proofs.Steps.{given, given_if, same_value}
use Rattle.log_laws.proofs.PositionText.{position_utf8}
use Rattle.log_laws.proofs.BodyLaws.{nothing, Still, still, InBody, Goes, all_go}

-- the laws of sets that it rests on
pub record SetLaws : Type 0 where
  pub within : (a b : List Interval) → IsCanonical a → IsCanonical b → IsTrue (within_of a b) ↔ IsWithin a b
  pub around : (a b : List Interval) → IsCanonical a → IsCanonical b → IsWithin a b → union_of a b ≡ b
  pub reads : (set : List Interval) → IsCanonical set → length (printed_position set) ≤ text_limit → position_of_text (printed_position set) ≡ Ok set

within-both : (a b c : List Interval) → IsWithin a b → IsWithin b c → IsWithin a c
within-both a b c h k uuid number held = k uuid number (h uuid number held)

-- a position with all of those before it, and more
record Further (old new : List Interval) : Type 0 where
  wider : within_of old new ≡ true
  more : within_of new old ≡ false
  all : union_of old new ≡ new

further : SetLaws → (old new : List Interval) → IsCanonical old → IsCanonical new → IsWithin old new → ¬ IsWithin new old → Further old new
further laws old new o n within beyond = record {
  wider = (laws.within old new o n).1 within;
  more = elim (cases_Bool (within_of new old)) [
    | inl inside ↦ absurd (beyond ((laws.within new old n o).0 inside))
    | inr apart ↦ apart
  ];
  all = laws.around old new o n within;
}

module _ (laws : SetLaws) (s : SourceTables) (right : IsSource s) where
  abbrev source : SourceValue
  source = source_of s

  -- ---- the event of a position

  own_text : (text : List ℕ) → own_gtid source (record { keyspace = s.keyspace; shard = s.shard; gtid = text } ∷ []) ≡ Some text
  own_text text =
      cond-true (bytes_eq s.keyspace s.keyspace && bytes_eq s.shard s.shard) (Some text) None
      (and_from (bytes_eq s.keyspace s.keyspace) (bytes_eq s.shard s.shard) ((bytes_eq-Decides s.keyspace s.keyspace).1 refl) ((bytes_eq-Decides s.shard s.shard).1 refl))

  -- it says the position, and can be written
  record IsPlace (place : EventValue) (position : List Interval) : Type 0 where
    text : List ℕ
    is : place ≡ place_event s.keyspace s.shard text
    says : position_of_text text ≡ Ok position
    sound : IsSoundEvent place

  place_is : (position : List Interval) (place : EventValue) → IsCanonical position → place_told s.keyspace s.shard position ≡ Ok place → IsPlace place position
  place_is position place canonical e =
      let text : List ℕ = printed_position position in
      let short = given_if (nat_le (length text) text_limit) (Ok (place_event s.keyspace s.shard text)) tell_fault.Position place e in
      let is : place_event s.keyspace s.shard text ≡ place = same_value (place_event s.keyspace s.shard text) place short.1 in
      record {
        text = text;
        is = sym is;
        says = laws.reads position canonical (leb-true _ _ short.0);
        sound = subst IsSoundEvent is (record { keyspace = right.keyspace; shard = right.shard; gtid = position_utf8 position canonical }, tt);
      }

  position_is : (place : EventValue) (position : List Interval) → IsPlace place position → position_of source place ≡ Some position
  position_is place position p =
      ap (position_of source) p.is ∙ ap past_set_of_text (own_text p.text) ∙ ap past_set p.says

  place_fault : (past : PastEvents) (place : EventValue) (position : List Interval) → IsPlace place position → fault_at source past place ≡ position_fault source past (Ok position)
  place_fault past place position p =
      ap (fault_at source past) p.is ∙ ap (entry_fault source past) (own_text p.text) ∙ ap (position_fault source past) p.says

  -- ---- where a block ends

  -- a history ends with a block that has more than all before it
  record Ended (base past : PastEvents) (position : List Interval) (changes : List TableChangeValue) : Type 0 where
    groups : groups_of source past ≡ groups_of source base ++ (record { number = next_number s base; position = position; changes = changes } ∷ [])
    reached : seen source past ≡ position
    faultless : first_fault source past ≡ None

  ended : (base past : PastEvents) (event : EventValue) (position : List Interval) (changes : List TableChangeValue) → Still source base past → Further (seen source base) position
      → block_at source past event ≡ Some (record { position = position; changes = changes }) → fault_at source past event ≡ block_fault source past position → Ended base (event ∷ past) position changes
  ended base past event position changes was f here fault =
      let block : Block = record { position = position; changes = changes } in
      let group : GroupValue = record { number = next_number s base; position = position; changes = changes } in
      let behind_block : Position → List GroupValue → Option Block → List GroupValue = λ all gs o. gs ++ group_of_block all (length gs + 1) o in
      let fault_of : Position → List GroupValue → Option FeedFault = λ all gs. cond (within_of position all) None (cond (within_of all position) None (Some (Diverged (length gs + 1)))) in
      record {
        groups = ap (behind_block (seen source past) (groups_of source past)) here
            ∙ ap (λ (all : Position). behind_block all (groups_of source past) (Some block)) was.reached
            ∙ ap (λ (gs : List GroupValue). behind_block (seen source base) gs (Some block)) was.groups
            ∙ ap (λ (gs : List GroupValue). groups_of source base ++ gs) (cond-false (within_of position (seen source base)) [] (group ∷ []) f.more);
        reached = ap (with_block (seen source past)) here ∙ ap (λ (all : Position). union_of all position) was.reached ∙ f.all;
        faultless = ap (λ (o : Option FeedFault). option_or o (fault_at source past event)) was.faultless
            ∙ fault
            ∙ ap (λ (all : Position). fault_of all (groups_of source past)) was.reached
            ∙ cond-false (within_of position (seen source base)) None (cond (within_of (seen source base) position) None (Some (Diverged (length (groups_of source past) + 1)))) f.more
            ∙ cond-true (within_of (seen source base) position) None (Some (Diverged (length (groups_of source past) + 1))) f.wider;
      }

  -- ---- a transaction

  begun : (past : PastEvents) (far : Far) → TellsSoFar s past far → InBody s past (Begin ∷ past) [] far.stages
  begun past far t = record {
    opened = refl;
    nowhere = refl;
    changed = refl;
    columns = t.columns;
    as_it_was = still source past past Begin (nothing (is_open past)) (cond-false (is_open past) (Some Misplaced) None t.outside) (record { groups = refl; reached = refl; faultless = t.faultless });
  }

  -- behind the position and a COMMIT
  committed : (base past : PastEvents) (place : EventValue) (position : List Interval) (changes : List TableChangeValue) (stages : List Stage) → IsPlace place position → Further (seen source base) position
      → InBody s base past changes stages → Ended base (Commit ∷ (place ∷ past)) position changes
  committed base past place position changes stages p f b =
      let with_place : PastEvents = place ∷ past in
      let is : position_of source place ≡ Some position = position_is place position p in
      let none : block_at source past place ≡ None =
      ap (block_at source past) p.is ∙ cond-true (is_open past) None (block_at_position (position_of source (place_event s.keyspace s.shard p.text)) []) b.opened in
      let right_there : fault_at source past place ≡ None = place_fault past place position p ∙ cond-true (is_open past) None (block_fault source past position) b.opened in
      let was : Still source base with_place = still source base past place none right_there b.as_it_was in
      let opened : is_open with_place ≡ true = ap (λ (e : EventValue). is_open (e ∷ past)) p.is ∙ b.opened in
      let at : body_position source with_place ≡ Some position = ap (λ (e : EventValue). body_position source (e ∷ past)) p.is
      ∙ ap (λ (o : Option Position). option_or o (body_position source past)) (sym (ap (position_of source) p.is) ∙ is) in
      let changed : body_changes source with_place ≡ changes = ap (λ (e : EventValue). body_changes source (e ∷ past)) p.is ∙ b.changed in
      let here : block_at source with_place Commit ≡ Some (record { position = position; changes = changes }) =
      cond-true (is_open with_place) (block_at_position (body_position source with_place) (body_changes source with_place)) None opened
      ∙ ap (λ (o : Option Position). block_at_position o (body_changes source with_place)) at
      ∙ ap (block_at_position (Some position)) changed in
      let fault : fault_at source with_place Commit ≡ block_fault source with_place position =
      cond-true (is_open with_place) (commit_fault source with_place (body_position source with_place)) None opened ∙ ap (commit_fault source with_place) at in
      ended base with_place Commit position changes was f here fault

  -- ---- what is told of a transaction

  of_changes_given : (r : Result Told ChangeFault) (x : Told) → of_changes r ≡ Ok x → r ≡ Ok x
  of_changes_given (Ok y) x e = ap Ok (same_value y x e)
  of_changes_given (Err fault) x e = cc

  abbrev one_read : ℕ → PlacedValue → List GroupValue
  one_read n g = if is_told s g then group_read s n g ∷ [] else []

  group_past : (events : List EventValue) (place : EventValue) (past : PastEvents) → Commit ∷ (place ∷ (reverse events ++ (Begin ∷ past))) ≡ behind past ((Begin ∷ (events ++ (place ∷ Commit ∷ []))) ∷ [])
  group_past events place past =
      let body : List EventValue = events ++ (place ∷ Commit ∷ []) in
      sym (
      ap (λ (es : List EventValue). reverse es ++ past) (append-nil (Begin ∷ body))
      ∙ ap (λ (r : PastEvents). r ++ past) (reverse-cons Begin body)
      ∙ append_assoc (reverse body) (Begin ∷ []) past
      ∙ ap (λ (r : PastEvents). r ++ (Begin ∷ past)) (reverse-append events (place ∷ Commit ∷ []))
      )

  -- a transaction with events
  told_group : (past : PastEvents) (g : PlacedValue) (far : Far) (events : List EventValue) (stages : List Stage) (place : EventValue) → TellsSoFar s past far → Rises far.reached g.position → place_told s.keyspace s.shard g.position ≡ Ok place
      → Goes s past right (Begin ∷ past) [] events (flat_map (done_read s) g.changes) stages true
      → TellGroups s past (group_read s (next_number s past) g ∷ []) ((Begin ∷ (events ++ (place ∷ Commit ∷ []))) ∷ []) (record { reached = g.position; stages = stages; said = true })
  told_group past g far events stages place t rise e goes =
      let p : IsPlace place g.position = place_is g.position place rise.canonical e in
      let f : Further (seen source past) g.position = further laws (seen source past) g.position t.positions rise.canonical
      (within-both (seen source past) far.reached g.position t.within rise.all)
      (λ back. rise.more (within-both g.position (seen source past) far.reached back t.within)) in
      let inner : PastEvents = reverse events ++ (Begin ∷ past) in
      let end : Ended past (Commit ∷ (place ∷ inner)) g.position (flat_map (done_read s) g.changes) = committed past inner place g.position (flat_map (done_read s) g.changes) stages p f goes.body in
      let order : Commit ∷ (place ∷ inner) ≡ behind past ((Begin ∷ (events ++ (place ∷ Commit ∷ []))) ∷ []) = group_past events place past in
      let far_there : TellsSoFar s (Commit ∷ (place ∷ inner)) (record { reached = g.position; stages = stages; said = true }) = record {
        faultless = end.faultless;
        outside = refl;
        columns = λ name at table here filled. ap (λ (e : EventValue). last_field source (e ∷ inner) table.name) p.is ∙ goes.body.columns name at table here filled;
        reached = rise.canonical;
        positions = subst IsCanonical (sym end.reached) rise.canonical;
        within = subst (λ (all : List Interval). IsWithin all g.position) (sym end.reached) (λ uuid number held. held);
        said = λ _. end.reached;
        unsaid = λ no. absurd (false≢true (sym no));
      } in
      record {
        groups = ap (groups_of source) (sym order) ∙ end.groups;
        tells = subst (λ (all : PastEvents). TellsSoFar s all (record { reached = g.position; stages = stages; said = true })) order far_there;
        sound = subst (AllByRecursion IsSoundEvent) (sym (append-nil (Begin ∷ (events ++ (place ∷ Commit ∷ []))))) (tt, All-append IsSoundEvent events (place ∷ Commit ∷ []) goes.sound (p.sound, (tt, tt)));
      }

  -- one without
  passed_group : (past : PastEvents) (g : PlacedValue) (far : Far) (stages : List Stage) (changes : List TableChangeValue) → TellsSoFar s past far → Rises far.reached g.position
      → Goes s past right (Begin ∷ past) [] [] changes stages false
      → TellGroups s past [] [] (record { reached = g.position; stages = stages; said = false })
  passed_group past g far stages changes t rise goes = record {
    groups = sym (append-nil (groups_of source past));
    tells = record {
      faultless = t.faultless;
      outside = t.outside;
      columns = goes.body.columns;
      reached = rise.canonical;
      positions = t.positions;
      within = within-both (seen source past) far.reached g.position t.within rise.all;
      said = λ yes. absurd (false≢true yes);
      unsaid = λ _ back. rise.more (within-both g.position (seen source past) far.reached back t.within);
    };
    sound = tt;
  }

  group_tells : (past : PastEvents) (g : PlacedValue) (far new : Far) (messages : List (List EventValue)) → TellsSoFar s past far → Rises far.reached g.position → group_told s g far ≡ Ok (messages, new)
      → TellGroups s past (one_read (next_number s past) g) messages new
  group_tells past g far new messages t rise e =
      let x = given (of_changes (told_of_all s.schema s.tables g.changes far.stages)) (λ x. messages_with s g.position x.0 >>= λ messages. Ok (messages, record { reached = g.position; stages = x.1; said = has_events x.0 })) (messages, new) e in
      let told : told_of_all s.schema s.tables g.changes far.stages ≡ Ok x.0 = of_changes_given (told_of_all s.schema s.tables g.changes far.stages) x.0 x.1 in
      let ms = given (messages_with s g.position x.0.0) (λ messages. Ok (messages, record { reached = g.position; stages = x.0.1; said = has_events x.0.0 })) (messages, new) x.2 in
      let pair : ◌≡◌ {A = Messages} (ms.0, record { reached = g.position; stages = x.0.1; said = has_events x.0.0 }) (messages, new) = same_value (ms.0, record { reached = g.position; stages = x.0.1; said = has_events x.0.0 }) (messages, new) ms.2 in
      let m_is : ms.0 ≡ messages = ap (λ (p : Messages). p.0) pair in
      let f_is : record { reached = g.position; stages = x.0.1; said = has_events x.0.0 } ≡ new = ap (λ (p : Messages). p.1) pair in
      let goes : Goes s past right (Begin ∷ past) [] x.0.0 (flat_map (done_read s) g.changes) x.0.1 (is_told s g) =
      all_go s past right (Begin ∷ past) [] far.stages g.changes x.0 told (begun past far t) in
      subst (λ (all : List (List EventValue)). TellGroups s past (one_read (next_number s past) g) all new) m_is
      (subst (λ (there : Far). TellGroups s past (one_read (next_number s past) g) ms.0 there) f_is
      (by x.0.0 x.0.1 ms.0 (is_told s g) refl ms.1 goes))
    where
      by : (events : List EventValue) (stages : List Stage) (ms : List (List EventValue)) (b : Bool) → is_told s g ≡ b → messages_with s g.position events ≡ Ok ms
          → Goes s past right (Begin ∷ past) [] events (flat_map (done_read s) g.changes) stages (is_told s g)
          → TellGroups s past (one_read (next_number s past) g) ms (record { reached = g.position; stages = stages; said = has_events events })
      by [] stages ms b is e goes =
          let no : is_told s g ≡ false = sym goes.some in
          let none : [] ≡ ms = same_value [] ms e in
          let one : one_read (next_number s past) g ≡ [] = cond-false (is_told s g) (group_read s (next_number s past) g ∷ []) [] no in
          let goes_so : Goes s past right (Begin ∷ past) [] [] (flat_map (done_read s) g.changes) stages false = subst (λ (b : Bool). Goes s past right (Begin ∷ past) [] [] (flat_map (done_read s) g.changes) stages b) no goes in
          rw (← none, one) (passed_group past g far stages (flat_map (done_read s) g.changes) t rise goes_so)
      by (v ∷ events) stages ms b is e goes =
          let yes : is_told s g ≡ true = sym goes.some in
          let place = given (place_told s.keyspace s.shard g.position) (λ place. Ok (group_of (v ∷ events) place ∷ [])) ms e in
          let are : group_of (v ∷ events) place.0 ∷ [] ≡ ms = same_value (group_of (v ∷ events) place.0 ∷ []) ms place.2 in
          let one : one_read (next_number s past) g ≡ group_read s (next_number s past) g ∷ [] = cond-true (is_told s g) (group_read s (next_number s past) g ∷ []) [] yes in
          let goes_so : Goes s past right (Begin ∷ past) [] (v ∷ events) (flat_map (done_read s) g.changes) stages true = subst (λ (b : Bool). Goes s past right (Begin ∷ past) [] (v ∷ events) (flat_map (done_read s) g.changes) stages b) yes goes in
          rw (← are, one) (told_group past g far (v ∷ events) stages place.0 t rise place.1 goes_so)

  -- ---- transactions

  behind_both : (past : PastEvents) (xs ys : List (List EventValue)) → behind (behind past xs) ys ≡ behind past (xs ++ ys)
  behind_both past xs ys =
      sym (append_assoc (reverse (events_in ys)) (reverse (events_in xs)) past)
      ∙ ap (λ (r : PastEvents). r ++ past) (sym (reverse-append (events_in xs) (events_in ys)) ∙ ap reverse (sym (flat_map-append (λ (events : List EventValue). events) xs ys)))

  both : (past : PastEvents) (one more : List GroupValue) (xs ys : List (List EventValue)) (mid new : Far) → TellGroups s past one xs mid → TellGroups s (behind past xs) more ys new → TellGroups s past (one ++ more) (xs ++ ys) new
  both past one more xs ys mid new a b = record {
    groups = ap (groups_of source) (sym (behind_both past xs ys)) ∙ b.groups ∙ ap (λ (gs : List GroupValue). gs ++ more) a.groups ∙ append_assoc (groups_of source past) one more;
    tells = subst (λ (all : PastEvents). TellsSoFar s all new) (behind_both past xs ys) b.tells;
    sound = subst (AllByRecursion IsSoundEvent) (sym (flat_map-append (λ (events : List EventValue). events) xs ys)) (All-append IsSoundEvent (events_in xs) (events_in ys) a.sound b.sound);
  }

  -- how far a transaction tells
  group_reaches : (past : PastEvents) (g : PlacedValue) (far : Far) (x : Messages) → TellsSoFar s past far → group_told s g far ≡ Ok x → (x.1.reached ≡ g.position) × (x.1.said ≡ is_told s g)
  group_reaches past g far x t e =
      let told = given (of_changes (told_of_all s.schema s.tables g.changes far.stages)) (λ x. messages_with s g.position x.0 >>= λ messages. Ok (messages, record { reached = g.position; stages = x.1; said = has_events x.0 })) x e in
      let ms = given (messages_with s g.position told.0.0) (λ messages. Ok (messages, record { reached = g.position; stages = told.0.1; said = has_events told.0.0 })) x told.2 in
      let is = same_value (ms.0, record { reached = g.position; stages = told.0.1; said = has_events told.0.0 }) x ms.2 in
      let all : told_of_all s.schema s.tables g.changes far.stages ≡ Ok told.0 = of_changes_given (told_of_all s.schema s.tables g.changes far.stages) told.0 told.1 in
      let goes : Goes s past right (Begin ∷ past) [] told.0.0 (flat_map (done_read s) g.changes) told.0.1 (is_told s g) =
      all_go s past right (Begin ∷ past) [] far.stages g.changes told.0 all (begun past far t) in
      rw (← is) (refl, goes.some)

  split_read : (n k : ℕ) (g : PlacedValue) (groups : List PlacedValue) → k ≡ n + length (one_read n g) → one_read n g ++ groups_read s k groups ≡ groups_read s n (g ∷ groups)
  unfolding groups_read
  split_read n k g groups e = by (is_told s g) e
    where
      by : (b : Bool) → k ≡ n + length (if b then group_read s n g ∷ [] else [])
          → (if b then group_read s n g ∷ [] else []) ++ groups_read s k groups ≡ (if b then group_read s n g ∷ groups_read s (n + 1) groups else groups_read s n groups)
      by true h = ap (λ (i : ℕ). group_read s n g ∷ groups_read s i groups) h
      by false h = let same : k ≡ n = omega (arith, h) in ap (λ (i : ℕ). groups_read s i groups) same

  pub groups_tell : (past : PastEvents) (groups : List PlacedValue) (far new : Far) (messages : List (List EventValue)) → TellsSoFar s past far → AreRising far.reached groups → groups_told s groups far ≡ Ok (messages, new)
      → TellGroups s past (groups_read s (next_number s past) groups) messages new
  unfolding groups_told groups_read
  groups_tell past [] far new messages t rising e =
      let pair : ◌≡◌ {A = Messages} ([], far) (messages, new) = same_value ([], far) (messages, new) e in
      let m_is : [] ≡ messages = ap (λ (p : Messages). p.0) pair in
      let f_is : far ≡ new = ap (λ (p : Messages). p.1) pair in
      rw (← m_is, ← f_is) (record { groups = sym (append-nil (groups_of source past)); tells = t; sound = tt })
  groups_tell past (g ∷ groups) far new messages t rising e =
      let x = given (group_told s g far) (λ x. groups_told s groups x.1 >>= λ y. Ok (x.0 ++ y.0, y.1)) (messages, new) e in
      let y = given (groups_told s groups x.0.1) (λ y. Ok (x.0.0 ++ y.0, y.1)) (messages, new) x.2 in
      let pair : ◌≡◌ {A = Messages} (x.0.0 ++ y.0.0, y.0.1) (messages, new) = same_value (x.0.0 ++ y.0.0, y.0.1) (messages, new) y.2 in
      let m_is : x.0.0 ++ y.0.0 ≡ messages = ap (λ (p : Messages). p.0) pair in
      let f_is : y.0.1 ≡ new = ap (λ (p : Messages). p.1) pair in
      let a : TellGroups s past (one_read (next_number s past) g) x.0.0 x.0.1 = group_tells past g far x.0.1 x.0.0 t rising.0 x.1 in
      let at : x.0.1.reached ≡ g.position = (group_reaches past g far x.0 t x.1).0 in
      let rest_rising : AreRising x.0.1.reached groups = subst (λ (r : List Interval). AreRising r groups) (sym at) rising.1 in
      let b : TellGroups s (behind past x.0.0) (groups_read s (next_number s (behind past x.0.0)) groups) y.0.0 y.0.1 = groups_tell (behind past x.0.0) groups x.0.1 y.0.1 y.0.0 a.tells rest_rising y.1 in
      let many : length (groups_of source (behind past x.0.0)) ≡ length (groups_of source past) + length (one_read (next_number s past) g) = ap length a.groups ∙ length-append (groups_of source past) (one_read (next_number s past) g) in
      let all : one_read (next_number s past) g ++ groups_read s (next_number s (behind past x.0.0)) groups ≡ groups_read s (next_number s past) (g ∷ groups) =
      split_read (next_number s past) (next_number s (behind past x.0.0)) g groups (omega (arith, many)) in
      subst (λ (ms : List (List EventValue)). TellGroups s past (groups_read s (next_number s past) (g ∷ groups)) ms new) m_is
      (subst (λ (f : Far). TellGroups s past (groups_read s (next_number s past) (g ∷ groups)) (x.0.0 ++ y.0.0) f) f_is
      (subst (λ (gs : List GroupValue). TellGroups s past gs (x.0.0 ++ y.0.0) y.0.1) all
      (both past (one_read (next_number s past) g) (groups_read s (next_number s (behind past x.0.0)) groups) x.0.0 y.0.0 x.0.1 y.0.1 a b)))

  pub groups_reach : (past : PastEvents) (groups : List PlacedValue) (far new : Far) (messages : List (List EventValue)) → TellsSoFar s past far → AreRising far.reached groups → groups_told s groups far ≡ Ok (messages, new)
      → ReachesSoFar s groups far new
  unfolding groups_told
  groups_reach past [] far new messages t rising e =
      let pair : ◌≡◌ {A = Messages} ([], far) (messages, new) = same_value ([], far) (messages, new) e in
      let f_is : far ≡ new = ap (λ (p : Messages). p.1) pair in
      rw (← f_is) (record { reached = refl; said = refl })
  groups_reach past (g ∷ groups) far new messages t rising e =
      let x = given (group_told s g far) (λ x. groups_told s groups x.1 >>= λ y. Ok (x.0 ++ y.0, y.1)) (messages, new) e in
      let y = given (groups_told s groups x.0.1) (λ y. Ok (x.0.0 ++ y.0, y.1)) (messages, new) x.2 in
      let pair : ◌≡◌ {A = Messages} (x.0.0 ++ y.0.0, y.0.1) (messages, new) = same_value (x.0.0 ++ y.0.0, y.0.1) (messages, new) y.2 in
      let f_is : y.0.1 ≡ new = ap (λ (p : Messages). p.1) pair in
      let a : TellGroups s past (one_read (next_number s past) g) x.0.0 x.0.1 = group_tells past g far x.0.1 x.0.0 t rising.0 x.1 in
      let one = group_reaches past g far x.0 t x.1 in
      let rest_rising : AreRising x.0.1.reached groups = subst (λ (r : List Interval). AreRising r groups) (sym one.0) rising.1 in
      let b : ReachesSoFar s groups x.0.1 y.0.1 = groups_reach (behind past x.0.0) groups x.0.1 y.0.1 y.0.0 a.tells rest_rising y.1 in
      rw (← f_is) (record {
        reached = b.reached ∙ ap (λ (r : List Interval). reached_by r groups) one.0;
        said = b.said ∙ ap (λ (said : Bool). said_by s said groups) one.1;
      })

  -- ---- the end

  pub last_tells : (past : PastEvents) (far : Far) (messages : List (List EventValue)) → TellsSoFar s past far → last_told s far ≡ Ok messages
      → TellGroups s past (last_read far.said far.reached (next_number s past)) messages (record far { said = true })
  last_tells past far messages t e = by far.said refl e
    where
      by : (b : Bool) → far.said ≡ b → last_by s far.reached b ≡ Ok messages
          → TellGroups s past (last_read b far.reached (next_number s past)) messages (record far { said = true })
      by true is e =
          let none : [] ≡ messages = same_value [] messages e in
          rw (← none) (record {
            groups = sym (append-nil (groups_of source past));
            tells = record {
              faultless = t.faultless;
              outside = t.outside;
              columns = t.columns;
              reached = t.reached;
              positions = t.positions;
              within = t.within;
              said = λ _. t.said is;
              unsaid = λ no. absurd (false≢true (sym no));
            };
            sound = tt;
          })
      by false is e =
          let place = given (place_told s.keyspace s.shard far.reached) (λ place. Ok ((place ∷ []) ∷ [])) messages e in
          let are : (place.0 ∷ []) ∷ [] ≡ messages = same_value ((place.0 ∷ []) ∷ []) messages place.2 in
          let p : IsPlace place.0 far.reached = place_is far.reached place.0 t.reached place.1 in
          let f : Further (seen source past) far.reached = further laws (seen source past) far.reached t.positions t.reached t.within (t.unsaid is) in
          let here : block_at source past place.0 ≡ Some (record { position = far.reached; changes = [] }) =
          ap (block_at source past) p.is
          ∙ cond-false (is_open past) None (block_at_position (position_of source (place_event s.keyspace s.shard p.text)) []) t.outside
          ∙ ap (λ (o : Option Position). block_at_position o []) (sym (ap (position_of source) p.is) ∙ position_is place.0 far.reached p) in
          let fault : fault_at source past place.0 ≡ block_fault source past far.reached = place_fault past place.0 far.reached p ∙ cond-false (is_open past) None (block_fault source past far.reached) t.outside in
          let end : Ended past (place.0 ∷ past) far.reached [] = ended past past place.0 far.reached [] (record { groups = refl; reached = refl; faultless = t.faultless }) f here fault in
          rw (← are) (record {
            groups = end.groups;
            tells = record {
              faultless = end.faultless;
              outside = ap (λ (e : EventValue). is_open (e ∷ past)) p.is ∙ t.outside;
              columns = λ name at table here filled. ap (λ (e : EventValue). last_field source (e ∷ past) table.name) p.is ∙ t.columns name at table here filled;
              reached = t.reached;
              positions = subst IsCanonical (sym end.reached) t.reached;
              within = subst (λ (all : List Interval). IsWithin all far.reached) (sym end.reached) (λ uuid number held. held);
              said = λ _. end.reached;
              unsaid = λ no. absurd (false≢true (sym no));
            };
            sound = (p.sound, tt);
          })
