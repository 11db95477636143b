-- A stream to which tables are added is sound, has the rows that it had, and stands where it stood.
use Rattle.std.proofs.Common.{◌≡◌, ℕ, zero, suc, ◌<◌, ◌≤◌, inl, inr, Bool, true, false, cond, List, [], ◌∷◌, length, map, take, Option, Some, None, Result, Ok, Err, slice_get, refl, sym, ap, ◌∙◌, arith}
use Rattle.std.proofs.lemmas.Bool.{ne_eqb}
use Rattle.std.proofs.lemmas.List.{length-map, length-take-le}
use Rattle.std.proofs.lemmas.Option.{slice_get_within}
use Rattle.std.specs.Prelude.{IfSome}
use Rattle.std.specs.Option.{option_map, option_map_or}
use Rattle.std.specs.Result.{ok_prefix}
use Rattle.list_laws.proofs.Places.{place_of, slice_get-take, get_in_front}
use Rattle.filter_rule.specs.Extending.{IsExtended}
use Rattle.row_view.specs.FieldValue.{FieldValue}
use Rattle.filter_rule.specs.PlanTable.{TableValue}
use Rattle.filter_rule.specs.PlanValue.{PlanValue, kept_columns_of}
use Rattle.pk_copy.specs.KeyOf.{key_in}
use Rattle.pk_copy.specs.KeyValue.{KeyValue}
use Rattle.pk_copy.specs.Lastpk.{lastpk_of, lastpk_cells, IsTableKey}
use Rattle.pk_copy.specs.Marks.{IsOfCurrent, is_inside}
use Rattle.source_feed.specs.Planned.{FeedValue, IsFeed}
use Rattle.source_feed.specs.Prepared.{IsSameOn}
use Rattle.source_feed.specs.History.{picked, touches_in, passed_at, kept_of, kept_at}
use Rattle.source_feed.specs.SoundGroups.{sound_groups}
use Rattle.source_feed.specs.Touches.{PreparedValue, prepared}
use Rattle.stream_core.specs.declared.phase.Phase.TheVariants.{Running, CatchUp}
use Rattle.stream_core.specs.Standing.{phase_of}
use Rattle.board_laws.specs.Allowed.{last_position}
use Rattle.board_laws.specs.Cut.{cut_of}
use Rattle.board_laws.specs.Lawful.{standing_of, IsSoundState}
use Rattle.board_laws.specs.Meaning.{State}
use Rattle.board_laws.proofs.FeedGroups.{last_of, sound-is_read}
use Rattle.board_laws.proofs.History.{passed_at-take, read-cut}
use Rattle.board_laws.proofs.Lists.{take-take}
use Rattle.board_laws.proofs.Lookups.{Ties}
use Rattle.board_laws.specs.Extended.{marks_of_more, extended_state}
use Rattle.board_laws.specs.GoingOn.{GoesOn}
use Rattle.board_laws.specs.AddedLaws.{ExtendedStatesAreSound, PositionsStay, FeedsThatGoOnArentStopped}
use Rattle.board_laws.proofs.OldTables.{on, same_touches, passed_at-on, inside_old}

-- ---- the tables of an extended plan

module _ (old new : PlanValue) (more : IsExtended old new) where
  same_table : (t : ℕ) → t < length old.tables → slice_get old.tables t ≡ slice_get new.tables t
  same_table t less = ap (λ (tables : List TableValue). slice_get tables t) (sym more.tables) ∙ get_in_front (length old.tables) new.tables t less

  abbrev columns_in : Option TableValue → List FieldValue
  columns_in o = option_map_or (λ (table : TableValue). table.columns) o []

  abbrev key_in_table : Option TableValue → List ℕ
  key_in_table o = option_map_or (λ (table : TableValue). table.key) o []

  -- a key of an old table is one of the table that it is now
  pub still-key : (key : KeyValue) → IsTableKey old key → IsTableKey new key
  still-key key is =
      let same : slice_get old.tables key.table ≡ slice_get new.tables key.table = same_table key.table is.table in
      record {
        table = omega (arith, is.table, more.more);
        count = is.count ∙ ap (λ (o : Option TableValue). length (key_in_table o)) same;
        read = ap (λ (o : Option TableValue). key_in key.table (lastpk_cells (columns_in o) (key_in_table o) (lastpk_of key))) (sym same) ∙ is.read;
      }

-- ---- one stream

module _ (feed : FeedValue) (state : State) (sound : IsSoundState state) (whole : IsFeed feed) (more : IsExtended state.plan feed.plan) (goes : GoesOn feed state) where
  long : length (take state.applied (sound_groups feed)) ≡ state.applied
  long = length-take-le state.applied (sound_groups feed) goes.sound

  as_long : length (take state.applied state.list) ≡ state.applied
  as_long = length-take-le state.applied state.list sound.standing.applied

  pub left_to_copy : state.marks.done < length feed.plan.tables
  left_to_copy = omega (arith, sound.marks.within, sound.tables, more.more)

  current : (o : Option KeyValue) → IfSome o (IsOfCurrent state.marks) → IfSome o (IsOfCurrent (marks_of_more (length feed.plan.tables) state.marks))
  current None h = tt
  current (Some key) h = record { copying = left_to_copy; table = h.table }

  upto : (o : Option KeyValue) → IfSome o (IsTableKey state.plan) → IfSome o (IsTableKey feed.plan)
  upto None h = tt
  upto (Some key) h = still-key state.plan feed.plan more key h

  pub extended-sound : IsSoundState (extended_state feed state)
  extended-sound = record {
    plan = whole.plan;
    list = read-cut feed.plan (sound_groups feed) state.applied (sound-is_read feed whole);
    standing = record { applied = omega (arith, long); done = omega (arith, left_to_copy); snapshot = tt };
    marks = record { within = omega (arith, left_to_copy); current = current state.marks.upto sound.marks.current };
    tables = refl;
    upto = upto state.marks.upto sound.upto;
  }

  -- the applied groups touch the old tables alike
  alike : on (length state.plan.tables) (touches_in (take state.applied (sound_groups feed))) ≡ on (length state.plan.tables) (touches_in (take state.applied state.list))
  alike =
      same_touches (length state.plan.tables) (take state.applied (sound_groups feed)) (take state.applied state.list) (long ∙ sym as_long)
      (λ i x y p q.
      let inside : i < length (take state.applied (sound_groups feed)) = slice_get_within (take state.applied (sound_groups feed)) i x p in
      let same : IsSameOn (length state.plan.tables) y x
      = goes.same i y x (omega (arith, inside, long)) (slice_get-take state.applied state.list i y q) (slice_get-take state.applied (sound_groups feed) i x p) in
      sym same.touches)

  -- of an old table the same columns are kept
  kept_still : (key : KeyValue) → key.table < length state.plan.tables → kept_columns_of feed.plan key.table ≡ kept_columns_of state.plan key.table
  kept_still key below = ap (λ (o : Option TableValue). option_map_or (λ (table : TableValue). table.kept) o []) (sym (same_table state.plan feed.plan more key.table below))

  pub extended-cut : (ties : Ties) (key : KeyValue) → cut_of (extended_state feed state) key ≡ cut_of state key
  extended-cut ties key = by (is_inside state.marks key) refl
    where
      by : (b : Bool) → is_inside state.marks key ≡ b
          → cond b (kept_at feed.plan (take state.applied (sound_groups feed)) state.applied key) None ≡ cond b (kept_at state.plan state.list state.applied key) None
      by false e = refl
      by true e =
          let inside : key.table < state.marks.tables = inside_old state.marks sound.marks key e in
          ap (option_map (kept_of feed.plan key))
          (passed_at-take (sound_groups feed) state.applied key
          ∙ passed_at-on ties (length state.plan.tables) (sound_groups feed) state.list state.applied key (omega (arith, inside, sound.tables)) alike)
          ∙ ap (λ (places : List ℕ). option_map (picked places) (passed_at state.list state.applied key)) (kept_still key (omega (arith, inside, sound.tables)))

  pub catches_up : phase_of (standing_of (extended_state feed state)) ≡ CatchUp
  catches_up = ap (λ b. cond b Running CatchUp) (ne_eqb state.marks.done (length feed.plan.tables) (λ e. absurd (omega (arith, e, left_to_copy))))

pub sound-states : ExtendedStatesAreSound
sound-states feed state sound whole more goes = extended-sound feed state sound whole more goes

-- ---- where a stream stands

pub positions-stay : PositionsStay
positions-stay feed state within goes = ap last_position (take-take state.applied (sound_groups feed)) ∙ by state.applied within goes.sound goes.same
  where
    by : (n : ℕ) → n ≤ length state.list → n ≤ length (sound_groups feed)
        → ((i : ℕ) (old new : PreparedValue) → i < n → slice_get state.list i ≡ Some old → slice_get (sound_groups feed) i ≡ Some new → IsSameOn (length state.plan.tables) old new)
        → last_position (take n (sound_groups feed)) ≡ last_position (take n state.list)
    by zero within fits same = refl
    by (suc i) within fits same =
        let old : (group : PreparedValue) × (slice_get state.list i ≡ Some group) = place_of state.list i (omega (arith, within)) in
        let new : (group : PreparedValue) × (slice_get (sound_groups feed) i ≡ Some group) = place_of (sound_groups feed) i (omega (arith, fits)) in
        last_of (sound_groups feed) i new.0 new.1
        ∙ sym (same i old.0 new.0 (omega arith) old.1 new.1).position
        ∙ sym (last_of state.list i old.0 old.1)

-- ---- feeds that don't go on

front_short : {A E : Type 0} (xs : List (Result A E)) → length (ok_prefix xs) ≤ length xs
front_short [] = omega arith
front_short (Err e ∷ xs) = omega arith
front_short (Ok x ∷ xs) = let rest : length (ok_prefix xs) ≤ length xs = front_short xs in omega (arith, rest)

pub not-stopped : FeedsThatGoOnArentStopped
not-stopped feed state goes = (
  λ other. elim other [
    | inl fewer ↦ (
        let short : length (sound_groups feed) ≤ length (map (prepared feed.plan) feed.groups) = front_short (map (prepared feed.plan) feed.groups) in
        let long : length (map (prepared feed.plan) feed.groups) ≡ length feed.groups = length-map feed.groups (prepared feed.plan) in
        absurd (omega (arith, fewer, goes.sound, short, long)))
    | inr meets ↦ meets.other (goes.same meets.number meets.old meets.new meets.inside meets.here meets.there)
  ],
  λ fault meets. absurd (omega (arith, meets.inside, goes.sound)),
)
