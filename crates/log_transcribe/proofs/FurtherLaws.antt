-- What logs give behind a feed has just the groups of the transactions that the feed didn't have.
use Rattle.std.proofs.Common.{◌≡◌, ℕ, zero, suc, ◌+◌, ◌-◌, ◌<◌, ◌^◌, Bool, true, false, nat_lt, List, [], ◌∷◌, ◌++◌, length, reverse, replicate, Option, None, Some, Ok, Err, ◌⊎◌, refl, sym, ap, subst, ◌∙◌, inl, inr, arith, append_assoc, length-append}
use Rattle.std.proofs.lemmas.Bool.{cond-true, cond-false, ltb-true, false≢true}
use Rattle.std.proofs.lemmas.List.{append-nil, reverse-append}
use Rattle.std.proofs.lemmas.List.Concat.{flat_map-append}
use Rattle.std.specs.Prelude.{if◌then◌else◌, IsTrue, ◌↔◌, slice_get}
use Rattle.std.specs.List.{AllByRecursion}
use Rattle.std.specs.Option.{option_or}
use Rattle.list_laws.proofs.Fronts.{All-append}
use Rattle.list_laws.specs.Outcome.{◌>>=◌}
use Rattle.item_readers.specs.Reading.{Reading}
use Rattle.gtid_set.specs.declared.interval.Interval.{Interval}
use Rattle.gtid_set.specs.Position.{IsCanonical, IsWithin, within_of, union_of}
use Rattle.vevent.specs.EventValue.{EventValue}
use Rattle.vevent.specs.WrittenEvent.{IsSoundEvent}
use Rattle.source_feed.specs.declared.fault.FeedFault.{FeedFault}
use Rattle.source_feed.specs.declared.fault.FeedFault.TheVariants.{FeedTooLong, OpenAtEnd}
use Rattle.source_feed.specs.EventList.{events_of_feed}
use Rattle.source_feed.specs.GroupValue.{GroupValue}
use Rattle.source_feed.specs.SourceValue.{SourceValue}
use Rattle.source_feed.specs.PastEvents.{PastEvents, is_open}
use Rattle.source_feed.specs.Groups.{groups_of, first_fault, seen, closed, groups_in, groups}
use Rattle.event_laws.specs.Laws.{HaveEvents, OpenedFeedsAreWhole, WholeFeedsAreCuts, WholeGoesBehindWhole}
use Rattle.log_groups.specs.Group.{WaitingValue}
use Rattle.log_course.specs.declared.fault.CourseFault.{CourseFault}
use Rattle.log_course.specs.Course.{PlacedValue, CourseRead, IsCourse, course_at}
use Rattle.log_places.specs.Place.{Rises}
use Rattle.log_places.specs.declared.fault.PlaceFault.TheVariants.{GoesBack, Elsewhere}
use Rattle.log_course.specs.declared.fault.CourseFault.TheVariants.{Place}
use Rattle.log_feed.specs.declared.table.Stage.{Stage}
use Rattle.log_feed.specs.declared.table.Stage.TheVariants.{Filled}
use Rattle.log_feed.specs.Table.{stage_at}
use Rattle.log_laws.specs.Source.{SourceTables, IsSource, source_of}
use Rattle.log_laws.specs.Transcript.{Far, Messages, of_changes, group_told, groups_told, last_told, written}
use Rattle.log_laws.specs.Read.{is_told, group_read, groups_read, last_read, reached_by, said_by}
use Rattle.log_laws.specs.Far.{TellsSoFar, AreRising, SaysColumns}
use Rattle.log_laws.specs.Laws.{events_in, behind, next_number, TellGroups, ReachesSoFar}
use Rattle.log_laws.proofs.Steps.{given, given_if, given_unless, same_value}
use Rattle.log_transcribe.specs.declared.fault.LogsFault.TheVariants.{Course, TooLong}
use Rattle.log_transcribe.specs.Fault.{of_course, of_tell}
use Rattle.log_transcribe.specs.Feed.{HaveTransactions}
use Rattle.log_transcribe.specs.Transcript.{none_waits}
use Rattle.log_transcribe.specs.Said.{reached_at, reached_in, to_end, events_said, feed_said, feed_end}
use Rattle.log_transcribe.specs.Apart.{overlaps}
use Rattle.log_transcribe.specs.Behind.{Along, Going, going_to, changes_had, passed_far, moved, told_far, taken_far, group_behind, end_behind, groups_behind, log_behind, logs_behind, first_list, begun_by, begun, unsaid, along_of, behind_told, short_behind, bytes_behind}
use Rattle.log_transcribe.specs.Further.{further, AreWhole, groups_further, IsFeedBehind}
use Rattle.log_transcribe.proofs.FeedLaws.{FeedLaws, no_more, rising_both, canonical_by, of_course_given, of_tell_given, not_filled}
use Rattle.log_transcribe.proofs.ApartLaws.{apart}
use Rattle.log_transcribe.proofs.SaidLaws.{says_columns}

-- the laws that it rests on
pub record BehindLaws : Type 0 where
  pub base : FeedLaws
  pub opened : OpenedFeedsAreWhole
  pub cuts : WholeFeedsAreCuts
  pub joined : WholeGoesBehindWhole
  pub within : (a b : List Interval) → IsCanonical a → IsCanonical b → IsTrue (within_of a b) ↔ IsWithin a b
  pub canonical : (a b : List Interval) → IsCanonical a → IsCanonical b → IsCanonical (union_of a b)
  pub one : (a b : List Interval) → IsCanonical a → IsCanonical b → IsWithin a (union_of a b)
  pub other : (a b : List Interval) → IsCanonical a → IsCanonical b → IsWithin b (union_of a b)

-- ---- what was told, without the faults that weren't

abbrev TellOn : SourceTables → List Stage → List PlacedValue → Along → Going → Type 0
TellOn s had [] a x = ([], a) ≡ x
TellOn s had (g ∷ groups) a x = (file : ℕ) × (m : Going) × (y : Going) × (group_behind file s had g a ≡ Ok m) × TellOn s had groups m.1 y × ((m.0 ++ y.0, y.1) ≡ x)

on_end : (file : ℕ) (end : Option CourseFault) (a : Along) (x : Going) → end_behind file end a ≡ Ok x → (end ≡ None) × (([], a) ≡ x)
on_end file None a x e = (refl, same_value ([], a) x e)
on_end file (Some fault) a x e = cc

groups_on : (file : ℕ) (s : SourceTables) (had : List Stage) (groups : List PlacedValue) (end : Option CourseFault) (a : Along) (x : Going) → groups_behind file s had groups end a ≡ Ok x → (end ≡ None) × TellOn s had groups a x
unfolding groups_behind
groups_on file s had [] end a x e = on_end file end a x e
groups_on file s had (g ∷ groups) end a x e =
    let m = given (group_behind file s had g a) (λ x. groups_behind file s had groups end x.1 >>= λ y. Ok (x.0 ++ y.0, y.1)) x e in
    let y = given (groups_behind file s had groups end m.0.1) (λ y. Ok (m.0.0 ++ y.0, y.1)) x m.2 in
    let rest = groups_on file s had groups end m.0.1 y.0 y.1 in
    (rest.0, (file, m.0, y.0, m.1, rest.1, same_value (m.0.0 ++ y.0.0, y.0.1) x y.2))

both_on : (s : SourceTables) (had : List Stage) (one more : List PlacedValue) (a : Along) (x y : Going) → TellOn s had one a x → TellOn s had more x.1 y → TellOn s had (one ++ more) a (x.0 ++ y.0, y.1)
both_on s had [] more a x y is rest = rw (← is) (let there = rw (← is) at rest in there)
both_on s had (g ∷ one) more a x y o rest =
    let m : Going = o.1 in
    let z : Going = o.2 in
    let there : TellOn s had more z.1 y = subst (λ (b : Going). TellOn s had more b.1 y) (sym o.5) rest in
    (o.0, m, (z.0 ++ y.0, y.1), o.3, both_on s had one more m.1 z y o.4 there, ap (λ (ms : List (List EventValue)). (ms, y.1)) (sym (append_assoc m.0 z.0 y.0) ∙ ap (λ (b : Going). b.0 ++ y.0) o.5))

taken_in : (file : ℕ) (s : SourceTables) (had : List Stage) (g : PlacedValue) (a : Along) (m : Going) → group_behind file s had g a ≡ Ok m → (x : Messages) × (taken_far file s had a.logs g a.far ≡ Ok x) × (going_to g.position x ≡ m)
taken_in file s had g a m e =
    let x = given (taken_far file s had a.logs g a.far) (λ x. Ok (going_to g.position x)) m e in
    (x.0, x.1, same_value (going_to g.position x.0) m x.2)

on_reaches : (s : SourceTables) (had : List Stage) (groups : List PlacedValue) (a : Along) (x : Going) → TellOn s had groups a x → x.1.logs ≡ reached_by a.logs groups
on_reaches s had [] a x is = ap (λ (b : Going). b.1.logs) (sym is)
on_reaches s had (g ∷ groups) a x o =
    let m : Going = o.1 in
    let taken = taken_in o.0 s had g a m o.3 in
    let at : m.1.logs ≡ g.position = ap (λ (b : Going). b.1.logs) (sym taken.2) in
    ap (λ (b : Going). b.1.logs) (sym o.5) ∙ on_reaches s had groups m.1 o.2 o.4 ∙ ap (λ (r : List Interval). reached_by r groups) at

-- ---- files one behind another

record AreOn (s : SourceTables) (had : List Stage) (waiting : List WaitingValue) (logs : List (List ℕ)) (a : Along) (x : Going) : Type 0 where
  transactions : List PlacedValue
  have : HaveTransactions a.logs waiting logs transactions
  rising : AreRising a.logs transactions
  told : TellOn s had transactions a x

logs_on : FeedLaws → (s : SourceTables) (had : List Stage) (file : ℕ) (waiting : List WaitingValue) (logs : List (List ℕ)) (a : Along) (x : Going) → IsCanonical a.logs → logs_behind file s had waiting logs a ≡ Ok x → AreOn s had waiting logs a x
unfolding logs_behind
logs_on laws s had file waiting [] a x c e =
    let none = given (none_waits file waiting) (λ _. Ok ([], a)) x e in
    record { transactions = []; have = (refl, no_more file waiting none.0 none.1); rising = tt; told = same_value ([], a) x none.2 }
logs_on laws s had file waiting (bytes ∷ logs) a x c e =
    let one = given (log_behind file s had waiting bytes a) (λ x. logs_behind (file + 1) s had x.1 logs x.0.1 >>= λ y. Ok (x.0.0 ++ y.0, y.1)) x e in
    let others = given (logs_behind (file + 1) s had one.0.1 logs one.0.0.1) (λ y. Ok (one.0.0.0 ++ y.0, y.1)) x one.2 in
    let is : (one.0.0.0 ++ others.0.0, others.0.1) ≡ x = same_value (one.0.0.0 ++ others.0.0, others.0.1) x others.2 in
    let read = given (of_course file (course_at a.logs waiting bytes)) (λ r. groups_behind file s had r.groups.items r.groups.fault a >>= λ x. Ok (x, r.waiting)) one.0 one.1 in
    let r : CourseRead = read.0 in
    let items : List PlacedValue = r.groups.items in
    let course : course_at a.logs waiting bytes ≡ Ok r = of_course_given file (course_at a.logs waiting bytes) r read.1 in
    let going = given (groups_behind file s had items r.groups.fault a) (λ x. Ok (x, r.waiting)) one.0 read.2 in
    let here : (going.0, r.waiting) ≡ one.0 = same_value (going.0, r.waiting) one.0 going.2 in
    let same : going.0 ≡ one.0.0 = ap (λ (p : Going × List WaitingValue). p.0) here in
    let left : r.waiting ≡ one.0.1 = ap (λ (p : Going × List WaitingValue). p.1) here in
    let told = groups_on file s had items r.groups.fault a one.0.0 (going.1 ∙ ap Ok same) in
    let rising : AreRising a.logs items = laws.rise a.logs waiting bytes r c course in
    let reached : one.0.0.1.logs ≡ reached_by a.logs items = on_reaches s had items a one.0.0 told.1 in
    let mid : IsCanonical one.0.0.1.logs = subst IsCanonical (sym reached) (canonical_by a.logs items c rising) in
    let rest : AreOn s had one.0.1 logs one.0.0.1 others.0 = logs_on laws s had (file + 1) one.0.1 logs one.0.0.1 others.0 mid others.1 in
    let is_course : IsCourse a.logs waiting bytes (record { groups = record { items = items; fault = None }; waiting = one.0.1 }) =
    subst (λ (w : List WaitingValue). IsCourse a.logs waiting bytes (record { groups = record { items = items; fault = None }; waiting = w })) left
    (subst (λ (f : Option CourseFault). IsCourse a.logs waiting bytes (record { groups = record { items = items; fault = f }; waiting = r.waiting })) told.0 (laws.courses.spelled a.logs waiting bytes r course)) in
    record {
      transactions = items ++ rest.transactions;
      have = (items, one.0.1, rest.transactions, refl, is_course, subst (λ (at : List Interval). HaveTransactions at one.0.1 logs rest.transactions) reached rest.have);
      rising = rising_both a.logs items rest.transactions rising (subst (λ (at : List Interval). AreRising at rest.transactions) reached rest.rising);
      told = subst (TellOn s had (items ++ rest.transactions) a) is (both_on s had items rest.transactions a one.0.0 others.0 told.1 rest.told);
    }

-- ---- their groups

module _ (laws : BehindLaws) (s : SourceTables) (right : IsSource s) (had : List Stage) where
  abbrev source : SourceValue
  source = source_of s

  behind_both : (past : PastEvents) (xs ys : List (List EventValue)) → behind (behind past xs) ys ≡ behind past (xs ++ ys)
  behind_both past xs ys =
      sym (append_assoc (reverse (events_in ys)) (reverse (events_in xs)) past)
      ∙ ap (λ (r : PastEvents). r ++ past) (sym (reverse-append (events_in xs) (events_in ys)) ∙ ap reverse (sym (flat_map-append (λ (events : List EventValue). events) xs ys)))

  both : (past : PastEvents) (one more : List GroupValue) (xs ys : List (List EventValue)) (mid new : Far) → TellGroups s past one xs mid → TellGroups s (behind past xs) more ys new → TellGroups s past (one ++ more) (xs ++ ys) new
  both past one more xs ys mid new a b = record {
    groups = ap (groups_of source) (sym (behind_both past xs ys)) ∙ b.groups ∙ ap (λ (gs : List GroupValue). gs ++ more) a.groups ∙ append_assoc (groups_of source past) one more;
    tells = subst (λ (all : PastEvents). TellsSoFar s all new) (behind_both past xs ys) b.tells;
    sound = subst (AllByRecursion IsSoundEvent) (sym (flat_map-append (λ (events : List EventValue). events) xs ys)) (All-append IsSoundEvent (events_in xs) (events_in ys) a.sound b.sound);
  }

  split_read : (n k : ℕ) (g : PlacedValue) (groups : List PlacedValue) → k ≡ n + length (groups_read s n (g ∷ [])) → groups_read s n (g ∷ []) ++ groups_read s k groups ≡ groups_read s n (g ∷ groups)
  unfolding groups_read
  split_read n k g groups e = by (is_told s g) e
    where
      by : (b : Bool) → k ≡ n + length (if b then group_read s n g ∷ [] else [])
          → (if b then group_read s n g ∷ [] else []) ++ groups_read s k groups ≡ (if b then group_read s n g ∷ groups_read s (n + 1) groups else groups_read s n groups)
      by true h = ap (λ (i : ℕ). group_read s n g ∷ groups_read s i groups) h
      by false h = let same : k ≡ n = omega (arith, h) in ap (λ (i : ℕ). groups_read s i groups) same

  none_read : (n : ℕ) → groups_read s n [] ≡ []
  unfolding groups_read
  none_read n = refl

  one_told : (g : PlacedValue) (far : Far) (x : Messages) → group_told s g far ≡ Ok x → groups_told s (g ∷ []) far ≡ Ok (x.0, x.1)
  unfolding groups_told
  one_told g far x e = rw e (ap (λ (ms : List (List EventValue)). Ok (ms, x.1)) (append-nil x.0))

  -- what transactions tell behind a history
  record Sequels (past : PastEvents) (transactions : List PlacedValue) (a : Along) (x : Going) : Type 0 where
    told : TellGroups s past (groups_read s (next_number s past) (further a.far.reached transactions)) x.0 x.1.far
    whole : AreWhole a.far.reached a.logs transactions
    reached : x.1.far.reached ≡ reached_by a.far.reached (further a.far.reached transactions)
    said : x.1.far.said ≡ said_by s a.far.said (further a.far.reached transactions)

  nothing_more : (past : PastEvents) (far : Far) → TellsSoFar s past far → TellGroups s past [] [] far
  nothing_more past far t = record { groups = sym (append-nil (groups_of source past)); tells = t; sound = tt }

  -- the position behind one that the feed doesn't have
  rises : (had position : List Interval) → IsCanonical had → IsCanonical position → within_of position had ≡ false → Rises had (union_of had position)
  rises had position h p more = record {
    canonical = laws.canonical had position h p;
    all = laws.one had position h p;
    more = λ back. absurd (false≢true (sym more ∙ (laws.within position had p h).1 (λ uuid number held. back uuid number (laws.other had position h p uuid number held))));
  }

  -- one that the feed has, or one that it doesn't have and has no number of
  abbrev Taken : (file : ℕ) (before : List Interval) (g : PlacedValue) (far : Far) (x : Messages) → Type 0
  Taken file before g far x = ((within_of g.position far.reached ≡ true) × (passed_far s had g far ≡ Ok x))
      ⊎ ((within_of g.position far.reached ≡ false) × (overlaps far.reached before g.position ≡ false) × (group_told s (moved far.reached g) far ≡ Ok x))

  cases_taken : (file : ℕ) (before : List Interval) (g : PlacedValue) (far : Far) (x : Messages) → taken_far file s had before g far ≡ Ok x → Taken file before g far x
  cases_taken file before g far x e = by (within_of g.position far.reached) refl e
    where
      told : (o : Bool) → overlaps far.reached before g.position ≡ o → within_of g.position far.reached ≡ false → (if o then Err (Course file (Place GoesBack)) else of_tell file (group_told s (moved far.reached g) far)) ≡ Ok x → Taken file before g far x
      told true is out h = cc
      told false is out h = inr (out, is, of_tell_given file (group_told s (moved far.reached g) far) x h)

      by : (b : Bool) → within_of g.position far.reached ≡ b → (if b then of_tell file (passed_far s had g far) else told_far file s before g far) ≡ Ok x → Taken file before g far x
      by true is h = inl (is, of_tell_given file (passed_far s had g far) x h)
      by false is h = told (overlaps far.reached before g.position) refl is h

  further_had : (had : List Interval) (g : PlacedValue) (groups : List PlacedValue) → within_of g.position had ≡ true → further had groups ≡ further had (g ∷ groups)
  further_had had g groups e = sym (cond-true (within_of g.position had) (further had groups) (moved had g ∷ further (union_of had g.position) groups) e)

  further_more : (had : List Interval) (g : PlacedValue) (groups : List PlacedValue) → within_of g.position had ≡ false → moved had g ∷ further (union_of had g.position) groups ≡ further had (g ∷ groups)
  further_more had g groups e = sym (cond-false (within_of g.position had) (further had groups) (moved had g ∷ further (union_of had g.position) groups) e)

  -- behind one that the feed has
  passed_is : (g : PlacedValue) (far : Far) (m : Messages) → passed_far s had g far ≡ Ok m → ([], far) ≡ m
  passed_is g far m e =
      let nothing = given (of_changes (changes_had s had g.changes)) (λ _. Ok ([], far)) m e in
      same_value ([], far) m nothing.2

  behind_old : (past : PastEvents) (g : PlacedValue) (groups : List PlacedValue) (a : Along) (y : Going) → within_of g.position a.far.reached ≡ true → Sequels past groups (record { far = a.far; logs = g.position }) y → Sequels past (g ∷ groups) a y
  behind_old past g groups a y inside rest =
      let those : further a.far.reached groups ≡ further a.far.reached (g ∷ groups) = further_had a.far.reached g groups inside in
      record {
        told = subst (λ (gs : List PlacedValue). TellGroups s past (groups_read s (next_number s past) gs) y.0 y.1.far) those rest.told;
        whole = inl (inside, rest.whole);
        reached = rest.reached ∙ ap (reached_by a.far.reached) those;
        said = rest.said ∙ ap (said_by s a.far.said) those;
      }

  -- behind one that it doesn't have
  record News (past : PastEvents) (g : PlacedValue) (a : Along) (m : Messages) : Type 0 where
    here : TellGroups s past (groups_read s (next_number s past) (moved a.far.reached g ∷ [])) m.0 m.1
    reached : m.1.reached ≡ union_of a.far.reached g.position
    said : m.1.said ≡ said_by s a.far.said (moved a.far.reached g ∷ [])
    within : IsWithin g.position m.1.reached

  news : (past : PastEvents) (g : PlacedValue) (a : Along) (m : Messages) → TellsSoFar s past a.far → IsCanonical g.position → within_of g.position a.far.reached ≡ false → group_told s (moved a.far.reached g) a.far ≡ Ok m → News past g a m
  news past g a m t c more e =
      let far : Far = a.far in
      let rise : Rises far.reached (union_of far.reached g.position) = rises far.reached g.position t.reached c more in
      let as_groups : groups_told s (moved far.reached g ∷ []) far ≡ Ok (m.0, m.1) = one_told (moved far.reached g) far m e in
      let reach : ReachesSoFar s (moved far.reached g ∷ []) far m.1 = laws.base.reach s past (moved far.reached g ∷ []) far m.1 m.0 right t (rise, tt) as_groups in
      record {
        here = laws.base.told s past (moved far.reached g ∷ []) far m.1 m.0 right t (rise, tt) as_groups;
        reached = reach.reached;
        said = reach.said;
        within = subst (λ (r : List Interval). IsWithin g.position r) (sym reach.reached) (laws.other far.reached g.position t.reached c);
      }

  behind_new : (past : PastEvents) (g : PlacedValue) (groups : List PlacedValue) (a : Along) (m : Messages) (y : Going) → within_of g.position a.far.reached ≡ false → overlaps a.far.reached a.logs g.position ≡ false → News past g a m
      → Sequels (behind past m.0) groups (record { far = m.1; logs = g.position }) y → Sequels past (g ∷ groups) a (m.0 ++ y.0, y.1)
  behind_new past g groups a m y more alone n rest =
      let new : PlacedValue = moved a.far.reached g in
      let all : List Interval = union_of a.far.reached g.position in
      let mid : PastEvents = behind past m.0 in
      let one : List GroupValue = groups_read s (next_number s past) (new ∷ []) in
      let many : length (groups_of source mid) ≡ length (groups_of source past) + length one = ap length n.here.groups ∙ length-append (groups_of source past) one in
      let those : new ∷ further all groups ≡ further a.far.reached (g ∷ groups) = further_more a.far.reached g groups more in
      let read : one ++ groups_read s (next_number s mid) (further all groups) ≡ groups_read s (next_number s past) (further a.far.reached (g ∷ groups)) =
      split_read (next_number s past) (next_number s mid) new (further all groups) (omega (arith, many)) ∙ ap (groups_read s (next_number s past)) those in
      let rest_told : TellGroups s mid (groups_read s (next_number s mid) (further all groups)) y.0 y.1.far = subst (λ (r : List Interval). TellGroups s mid (groups_read s (next_number s mid) (further r groups)) y.0 y.1.far) n.reached rest.told in
      record {
        told = subst (λ (gs : List GroupValue). TellGroups s past gs (m.0 ++ y.0) y.1.far) read (both past one (groups_read s (next_number s mid) (further all groups)) m.0 y.0 m.1 y.1.far n.here rest_told);
        whole = inr (more, apart a.far.reached a.logs g.position alone, subst (λ (r : List Interval). AreWhole r g.position groups) n.reached rest.whole);
        reached = rest.reached ∙ ap (λ (r : List Interval). reached_by r (further r groups)) n.reached ∙ ap (reached_by a.far.reached) those;
        said = rest.said ∙ ap (λ (r : List Interval). said_by s m.1.said (further r groups)) n.reached ∙ ap (λ (b : Bool). said_by s b (further all groups)) n.said ∙ ap (said_by s a.far.said) those;
      }

  sequels : (past : PastEvents) (transactions : List PlacedValue) (a : Along) (x : Going) → TellsSoFar s past a.far → IsCanonical a.logs → IsWithin a.logs a.far.reached → AreRising a.logs transactions → TellOn s had transactions a x → Sequels past transactions a x
  sequels past [] a x t c within rising is = subst (Sequels past [] a) is (record {
    told = subst (λ (gs : List GroupValue). TellGroups s past gs [] a.far) (sym (none_read (next_number s past))) (nothing_more past a.far t);
    whole = tt;
    reached = refl;
    said = refl;
  })
  sequels past (g ∷ groups) a x t c within rising o =
      let m : Going = o.1 in
      let y : Going = o.2 in
      let taken = taken_in o.0 s had g a m o.3 in
      let at : going_to g.position taken.0 ≡ m = taken.2 in
      let is_all : (taken.0.0 ++ y.0, y.1) ≡ x = ap (λ (b : Going). (b.0 ++ y.0, y.1)) at ∙ o.5 in
      elim (cases_taken o.0 a.logs g a.far taken.0 taken.1) [
        | inl old ↦
            let nothing : ([], a.far) ≡ taken.0 = passed_is g a.far taken.0 old.1 in
            let to : going_to g.position ([], a.far) ≡ m = ap (going_to g.position) nothing ∙ at in
            let there : TellOn s had groups (record { far = a.far; logs = g.position }) y = subst (λ (b : Going). TellOn s had groups b.1 y) (sym to) o.4 in
            let inside : IsWithin g.position a.far.reached = (laws.within g.position a.far.reached rising.0.canonical t.reached).0 old.0 in
            let rest : Sequels past groups (record { far = a.far; logs = g.position }) y = sequels past groups (record { far = a.far; logs = g.position }) y t rising.0.canonical inside rising.1 there in
            subst (Sequels past (g ∷ groups) a) (ap (λ (b : Messages). (b.0 ++ y.0, y.1)) nothing ∙ is_all) (behind_old past g groups a y old.0 rest)
        | inr new ↦
            let n : News past g a taken.0 = news past g a taken.0 t rising.0.canonical new.0 new.2 in
            let there : TellOn s had groups (record { far = taken.0.1; logs = g.position }) y = subst (λ (b : Going). TellOn s had groups b.1 y) (sym at) o.4 in
            let rest : Sequels (behind past taken.0.0) groups (record { far = taken.0.1; logs = g.position }) y =
            sequels (behind past taken.0.0) groups (record { far = taken.0.1; logs = g.position }) y n.here.tells rising.0.canonical n.within rising.1 there in
            subst (Sequels past (g ∷ groups) a) is_all (behind_new past g groups a taken.0 y new.0 new.1 n rest)
      ]

-- ---- what stands before them

-- a feed that opens has no fault, and ends outside of transactions
record IsOpened (source : SourceValue) (feed : List ℕ) (old : List GroupValue) : Type 0 where
  few : length feed < 2 ^ 31
  faultless : first_fault source (reverse (events_of_feed feed).items) ≡ None
  outside : is_open (reverse (events_of_feed feed).items) ≡ false
  groups : groups_of source (reverse (events_of_feed feed).items) ≡ old

no_fault : (a b : Option FeedFault) → option_or a b ≡ None → a ≡ None
no_fault None b e = refl
no_fault (Some fault) b e = cc

closed_at : (source : SourceValue) (history : PastEvents) (fault : Option FeedFault) (old : List GroupValue) → closed source history fault ≡ Ok old → (fault ≡ None) × (is_open history ≡ false) × (groups_of source history ≡ old)
closed_at source history (Some fault) old e = cc
closed_at source history None old e = let there = given_unless (is_open history) (Ok (groups_of source history)) OpenAtEnd old e in (refl, there.0, same_value (groups_of source history) old there.1)

opened : (source : SourceValue) (feed : List ℕ) (old : List GroupValue) → groups feed source ≡ Ok old → IsOpened source feed old
opened source feed old e =
    let short = given_if (nat_lt (length feed) (2 ^ 31)) (groups_in source (events_of_feed feed)) FeedTooLong old e in
    let past : PastEvents = reverse (events_of_feed feed).items in
    let at = closed_at source past (option_or (first_fault source past) (events_of_feed feed).fault) old short.1 in
    record { few = ltb-true _ _ short.0; faultless = no_fault (first_fault source past) (events_of_feed feed).fault at.0; outside = at.1; groups = at.2 }

-- its position is the last group's, or none
last_at : (xs : List GroupValue) (x : GroupValue) → slice_get (xs ++ x ∷ []) (length xs) ≡ Some x
last_at [] x = refl
last_at (y ∷ xs) x = last_at xs x

last_is : (xs : List GroupValue) (x : GroupValue) → slice_get (xs ++ x ∷ []) (length (xs ++ x ∷ []) - 1) ≡ Some x
last_is xs x =
    let many : length (xs ++ x ∷ []) ≡ length xs + 1 = length-append xs (x ∷ []) in
    let place : length (xs ++ x ∷ []) - 1 ≡ length xs = omega (arith, many) in
    ap (λ (i : ℕ). slice_get (xs ++ x ∷ []) i) place ∙ last_at xs x

split_last : (x : GroupValue) (xs : List GroupValue) → (before : List GroupValue) × (end : GroupValue) × (x ∷ xs ≡ before ++ end ∷ [])
split_last x [] = ([], x, refl)
split_last x (y ∷ xs) = let rest = split_last y xs in (x ∷ rest.0, rest.1, ap (λ (gs : List GroupValue). x ∷ gs) rest.2)

not_filled_at : (stage : Stage) → (stage ≡ Filled → ⊥) → (n place : ℕ) → stage_at (replicate n stage) place ≡ Filled → ⊥
not_filled_at stage none zero place e = not_filled e
not_filled_at stage none (suc n) zero e = none e
not_filled_at stage none (suc n) (suc place) e = not_filled_at stage none n place e

unsaid_is : (first : List Interval) → unsaid first ≡ Filled → ⊥
unsaid_is [] e = cc
unsaid_is (i ∷ first) e = cc

module _ (laws : BehindLaws) (s : SourceTables) where
  abbrev own : SourceValue
  own = source_of s

  abbrev past_of : List ℕ → PastEvents
  past_of feed = reverse (events_of_feed feed).items

  no_events : (events_of_feed []).items ≡ []
  no_events = let short : 0 < 2 ^ 64 = omega arith in let none : HaveEvents (written []) (events_in []) = laws.base.read [] tt short in ap (λ (r : Reading EventValue FeedFault). r.items) none.are

  seen_last : (feed : List ℕ) (old : List GroupValue) (reached : List Interval) → groups feed own ≡ Ok old → reached_in feed old ≡ Ok reached → seen own (past_of feed) ≡ reached
  seen_last [] [] reached e end = ap (λ (es : List EventValue). seen own (reverse es)) no_events ∙ same_value [] reached end
  seen_last (b ∷ feed) [] reached e end = cc
  seen_last feed (x ∷ xs) reached e end =
      let split = split_last x xs in
      let cut = laws.cuts feed own split.0 split.1 (e ∙ ap (λ (gs : List GroupValue). Ok gs) split.2) in
      let at : reached_in feed (x ∷ xs) ≡ Ok split.1.position = ap (λ (gs : List GroupValue). reached_in feed gs) split.2 ∙ ap (λ (o : Option GroupValue). reached_at o feed) (last_is split.0 split.1) in
      cut.cut.reached ∙ same_value split.1.position reached (sym at ∙ end)

  -- what the feed says is told so far
  at_end : (feed : List ℕ) (old : List GroupValue) (reached first : List Interval) (stages : List Stage) → IsCanonical reached → groups feed own ≡ Ok old → reached_in feed old ≡ Ok reached → feed_said s (unsaid first) feed ≡ Ok stages
      → TellsSoFar s (past_of feed) (record { reached = reached; stages = stages; said = true })
  at_end feed old reached first stages c e end said =
      let open_feed : IsOpened own feed old = opened own feed old e in
      let is : seen own (past_of feed) ≡ reached = seen_last feed old reached e end in
      let told = given (events_said s (events_of_feed feed).items (replicate (length s.tables) (unsaid first))) (λ new. to_end (events_of_feed feed).fault new) stages said in
      let to : told.0 ≡ stages = ended (events_of_feed feed).fault told.0 told.2 in
      let at_first : SaysColumns s [] (replicate (length s.tables) (unsaid first)) = λ name place table here filled. absurd (not_filled_at (unsaid first) (unsaid_is first) (length s.tables) place filled) in
      let columns : SaysColumns s (past_of feed ++ []) told.0 = says_columns s (events_of_feed feed).items [] (replicate (length s.tables) (unsaid first)) told.0 told.1 at_first in
      record {
        faultless = open_feed.faultless;
        outside = open_feed.outside;
        columns = subst (λ (ss : List Stage). SaysColumns s (past_of feed) ss) to (subst (λ (p : PastEvents). SaysColumns s p told.0) (append-nil (past_of feed)) columns);
        reached = c;
        positions = subst IsCanonical (sym is) c;
        within = subst (λ (all : List Interval). IsWithin all reached) (sym is) (λ uuid number held. held);
        said = λ _. is;
        unsaid = λ no. absurd (false≢true (sym no));
      }
    where
      ended : (fault : Option FeedFault) (new : List Stage) → to_end fault new ≡ Ok stages → new ≡ stages
      ended None new h = same_value new stages h
      ended (Some f) new h = cc

  -- where the logs begin
  begins_within : (reached first : List Interval) (logs : List (List ℕ)) → IsCanonical reached → IsCanonical first → begun reached logs ≡ Ok first → IsWithin first reached
  begins_within reached first [] r f e = subst (λ (x : List Interval). IsWithin x reached) (same_value reached first e) (λ uuid number held. held)
  begins_within reached first (bytes ∷ logs) r f e =
      let listed = given (of_course 0 (first_list bytes)) (λ first. begun_by reached first) first e in
      let inside = given_if (within_of listed.0 reached) (Ok listed.0) (Course 0 (Place Elsewhere)) first listed.2 in
      let is : listed.0 ≡ first = same_value listed.0 first inside.1 in
      (laws.within first reached f r).0 (ap (λ (x : List Interval). within_of x reached) (sym is) ∙ inside.0)

  -- ---- the whole

  pub further_right : (feed : List ℕ) (logs : List (List ℕ)) (reached first : List Interval) (had : List Stage) (more : List ℕ) → IsSource s → IsCanonical reached → IsCanonical first → feed_end s feed ≡ Ok reached → begun reached logs ≡ Ok first
      → feed_said s (unsaid first) feed ≡ Ok had → bytes_behind s feed had (along_of reached first had) logs ≡ Ok more → IsFeedBehind s feed logs more
  unfolding feed_end
  further_right feed logs reached first had more right c f e b said put =
      let a : Along = along_of reached first had in
      let old = given (groups feed own) (λ all. reached_in feed all) reached e in
      let open_feed : IsOpened own feed old.0 = opened own feed old.0 old.1 in
      let past : PastEvents = past_of feed in
      let t : TellsSoFar s past a.far = at_end feed old.0 reached first had c old.1 old.2 said in
      let all = given (behind_told s had a logs) (λ messages. short_behind (length logs) (length feed) (written messages)) more put in
      let short = given_if (nat_lt (length feed + length (written all.0)) (2 ^ 31)) (Ok (written all.0)) (TooLong (length logs)) more all.2 in
      let bytes : written all.0 ≡ more = same_value (written all.0) more short.1 in
      let x = given (logs_behind 0 s had [] logs a) (λ x. of_tell (length logs) (last_told s x.1.far) >>= λ last. Ok (x.0 ++ last)) all.0 all.1 in
      let last = given (of_tell (length logs) (last_told s x.0.1.far)) (λ last. Ok (x.0.0 ++ last)) all.0 x.2 in
      let are : x.0.0 ++ last.0 ≡ all.0 = same_value (x.0.0 ++ last.0) all.0 last.2 in
      let last_is : last_told s x.0.1.far ≡ Ok last.0 = of_tell_given (length logs) (last_told s x.0.1.far) last.0 last.1 in
      let run : AreOn s had [] logs a x.0 = logs_on laws.base s had 0 [] logs a x.0 f x.1 in
      let within : IsWithin first reached = begins_within reached first logs c f b in
      let q : Sequels laws s right had past run.transactions a x.0 = sequels laws s right had past run.transactions a x.0 t f within run.rising run.told in
      let new : List PlacedValue = further reached run.transactions in
      let number : next_number s past ≡ length old.0 + 1 = ap (λ (gs : List GroupValue). length gs + 1) open_feed.groups in
      let read : List GroupValue = groups_read s (length old.0 + 1) new in
      let told : TellGroups s past read x.0.0 x.0.1.far = subst (λ (n : ℕ). TellGroups s past (groups_read s n new) x.0.0 x.0.1.far) number q.told in
      let mid : PastEvents = behind past x.0.0 in
      let end : TellGroups s mid (last_read x.0.1.far.said x.0.1.far.reached (next_number s mid)) last.0 (record x.0.1.far { said = true }) = laws.base.ends s mid x.0.1.far last.0 right told.tells last_is in
      let whole : TellGroups s past (read ++ last_read x.0.1.far.said x.0.1.far.reached (next_number s mid)) (x.0.0 ++ last.0) (record x.0.1.far { said = true }) =
      both laws s right had past read (last_read x.0.1.far.said x.0.1.far.reached (next_number s mid)) x.0.0 last.0 x.0.1.far (record x.0.1.far { said = true }) told end in
      let w : TellGroups s past (read ++ last_read x.0.1.far.said x.0.1.far.reached (next_number s mid)) all.0 (record x.0.1.far { said = true }) =
      subst (λ (ms : List (List EventValue)). TellGroups s past (read ++ last_read x.0.1.far.said x.0.1.far.reached (next_number s mid)) ms (record x.0.1.far { said = true })) are whole in
      let few : length feed + length (written all.0) < 2 ^ 31 = ltb-true _ _ short.0 in
      let have : HaveEvents (written all.0) (events_in all.0) = laws.base.read all.0 w.sound (omega (arith, few)) in
      let before : HaveEvents feed (events_of_feed feed).items = laws.opened feed own old.0 old.1 in
      let joined : HaveEvents (feed ++ written all.0) ((events_of_feed feed).items ++ events_in all.0) = laws.joined feed (written all.0) (events_of_feed feed).items (events_in all.0) before have in
      let order : behind past all.0 ≡ reverse ((events_of_feed feed).items ++ events_in all.0) = sym (reverse-append (events_of_feed feed).items (events_in all.0)) in
      let faultless : first_fault own (reverse ((events_of_feed feed).items ++ events_in all.0)) ≡ None = subst (λ (p : PastEvents). first_fault own p ≡ None) order w.tells.faultless in
      let outside : is_open (reverse ((events_of_feed feed).items ++ events_in all.0)) ≡ false = subst (λ (p : PastEvents). is_open p ≡ false) order w.tells.outside in
      let size : length (feed ++ written all.0) ≡ length feed + length (written all.0) = length-append feed (written all.0) in
      let is_read : groups (feed ++ written all.0) own ≡ Ok (groups_of own (reverse ((events_of_feed feed).items ++ events_in all.0))) =
      laws.base.has (feed ++ written all.0) own ((events_of_feed feed).items ++ events_in all.0) (omega (arith, few, size)) joined faultless outside in
      let many : next_number s mid ≡ length old.0 + length read + 1 =
      ap (λ (gs : List GroupValue). length gs + 1) (told.groups ∙ ap (λ (gs : List GroupValue). gs ++ read) open_feed.groups) ∙ ap (λ (n : ℕ). n + 1) (length-append old.0 read) in
      let those : groups_of own (reverse ((events_of_feed feed).items ++ events_in all.0)) ≡ old.0 ++ groups_further s (length old.0) reached new =
      ap (groups_of own) (sym order) ∙ w.groups
      ∙ ap (λ (gs : List GroupValue). gs ++ (read ++ last_read x.0.1.far.said x.0.1.far.reached (next_number s mid))) open_feed.groups
      ∙ ap (λ (n : ℕ). old.0 ++ (read ++ last_read x.0.1.far.said x.0.1.far.reached n)) many
      ∙ ap (λ (at : List Interval). old.0 ++ (read ++ last_read x.0.1.far.said at (length old.0 + length read + 1))) q.reached
      ∙ ap (λ (b : Bool). old.0 ++ (read ++ last_read b (reached_by reached new) (length old.0 + length read + 1))) q.said in
      record {
        old = old.0;
        had = old.1;
        reached = reached;
        end = old.2;
        first = first;
        begins = within;
        transactions = run.transactions;
        have = run.have;
        whole = q.whole;
        read = ap (λ (bs : List ℕ). groups (feed ++ bs) own) (sym bytes) ∙ is_read ∙ ap Ok those;
      }
