-- A step that nothing is against leaves a sound state.
use Rattle.std.proofs.Common.{◌≡◌, ◌≢◌, ℕ, ◌+◌, ◌-◌, ◌<◌, ◌≤◌, ◌==◌, ◌&&◌, inl, inr, Bool, true, false, cond, not, List, [], ◌∷◌, ◌++◌, length, take, Option, Some, None, Err, slice_get, is_some, refl, ◌∙◌, arith}
use Rattle.std.proofs.lemmas.Bool.{false≢true, true≢false, eqb-false}
use Rattle.std.proofs.lemmas.List.{length-append, length-take-le}
use borrow.Author.Tests.{eqb-true, ltb-false, leb-false}
use Rattle.std.specs.Prelude.{nat_lt, nat_le, IfSome, IsOk}
use Rattle.std.specs.List.{AllByRecursion}
use Rattle.std.specs.Option.{option_map_or}
use Rattle.list_laws.proofs.Places.{slice_get-take}
use Rattle.stream_core.specs.Standing.{Standing, IsSound, IsOpenAt, is_open_at}
use Rattle.stream_core.specs.Rows.{first_standing, NoneStands}
use Rattle.stream_core.specs.StepTable.{row_of, decided}
use Rattle.pk_copy.specs.KeyValue.{KeyValue}
use Rattle.pk_copy.specs.Lastpk.{IsTableKey, KeysOfRowsAreTableKeys}
use Rattle.pk_copy.specs.Marks.{Marks, AreMarks, is_beyond, is_past, moved_to, next_table}
use Rattle.source_feed.specs.Prepared.{IsPrepared}
use Rattle.source_feed.specs.Touches.{PreparedValue}
use Rattle.source_feed.specs.History.{RowValue}
use Rattle.board_laws.specs.Meaning.{State}
use Rattle.board_laws.specs.Lawful.{standing_of, IsSoundState}
use Rattle.board_laws.specs.Event.{Event, offer, advance, open_at, copy_rows, close, restart, step_of, OnOffer}
use Rattle.board_laws.specs.KeptRows.{passed_rows}
use Rattle.board_laws.specs.Chunk.{rows_left, rows_taken, takes_all, marks_behind, copied_state}
use Rattle.board_laws.specs.StateAfter.{state_after}
use Rattle.board_laws.specs.Allowed.{IsAllowed, IsNext}
use Rattle.board_laws.proofs.Lookups.{Ties, all-filter, all-at}
use Rattle.board_laws.proofs.RowsUnder.{IsRowUnder, key-under, passed-under}
use Rattle.board_laws.proofs.History.{read-next, read-cut}
use Rattle.board_laws.proofs.Chunks.{and-left, and-right, last-past}

-- ---- the step table

-- where a row of the table answers, none of its refusals stands
none_stands : {A R : Type 0} (refusals : List (Bool × R)) (answer : A) → IsOk (first_standing refusals answer) → NoneStands refusals
none_stands [] answer h = tt
none_stands ((stands, refusal) ∷ later) answer h = by stands h (λ rest. none_stands later answer rest)
  where
    by : (b : Bool) → IsOk (cond b (Err refusal) (first_standing later answer)) → (IsOk (first_standing later answer) → NoneStands later) → (b ≡ false) × NoneStands later
    by true h rest = absurd (false≢true h)
    by false h rest = (refl, rest h)

abbrev pub Answers : State → Event → Type 0
Answers state event = IsOk (decided (standing_of state) (step_of event))

pub none_against : (state : State) (event : Event) → Answers state event → NoneStands (row_of (standing_of state) (step_of event)).refusals
none_against state event h = none_stands (row_of (standing_of state) (step_of event)).refusals (row_of (standing_of state) (step_of event)).otherwise h

not-false : (b : Bool) → not b ≡ false → b ≡ true
not-false true h = refl
not-false false h = absurd (true≢false h)

-- an open snapshot: a table is left to copy
copying_while_open : (state : State) → IsSound (standing_of state) → is_some state.snapshot ≡ true → state.marks.done < state.marks.tables
copying_while_open state sound open_one = by state.snapshot sound.snapshot open_one
  where
    by : (o : Option ℕ) → IfSome o (IsOpenAt (standing_of state)) → is_some o ≡ true → state.marks.done < state.marks.tables
    by None h e = absurd (false≢true e)
    by (Some m) h e = h.copying

-- rows are copied while a table is left
pub copying : (state : State) (c : ℕ) → IsSound (standing_of state) → Answers state (copy_rows c) → state.marks.done < state.marks.tables
copying state c sound h = copying_while_open state sound (not-false (is_some state.snapshot) (none_against state (copy_rows c) h).0)

-- a group is applied where one more is read
pub one_more : (state : State) → IsSound (standing_of state) → Answers state advance → state.applied < length state.list
one_more state sound h =
    let other : state.applied ≢ length state.list = eqb-false state.applied (length state.list) (none_against state advance h).1.0 in
    let most : state.applied ≤ length state.list = sound.applied in
    omega arith

-- ---- the numbers behind a step

same_while : (s t : Standing) → s.applied ≡ t.applied → s.read ≤ t.read → s.done ≡ t.done → s.tables ≡ t.tables → (o : Option ℕ) → IfSome o (IsOpenAt s) → IfSome o (IsOpenAt t)
same_while s t applied read done tables None h = tt
same_while s t applied read done tables (Some m) h = record { not_behind = omega (arith, h.not_behind); is_read = omega (arith, h.is_read); copying = omega (arith, h.copying) }

advanced : (s : Standing) (o : Option ℕ) → IfSome o (IsOpenAt s) → is_open_at s.applied o ≡ false → IfSome o (IsOpenAt (record { read = s.read; applied = s.applied + 1; tables = s.tables; done = s.done; snapshot = o }))
advanced s None h n = tt
advanced s (Some m) h n =
    let other : m ≢ s.applied = eqb-false m s.applied n in
    let least : s.applied ≤ m = h.not_behind in
    record { not_behind = omega arith; is_read = h.is_read; copying = h.copying }

-- ---- the marks behind a chunk

marks-next : (marks : Marks) → AreMarks marks → marks.done < marks.tables → AreMarks (next_table marks)
marks-next marks h copying = record { within = omega arith; current = tt }

marks-moved : (marks : Marks) (last : KeyValue) → AreMarks marks → marks.done < marks.tables → is_past marks last ≡ true → AreMarks (moved_to last marks)
marks-moved marks last h copying past = record {
  within = h.within;
  current = record {
    copying = copying;
    table = eqb-true last.table marks.done (and-left (last.table == marks.done) (is_beyond marks.upto last) (and-right (nat_lt marks.done marks.tables) (last.table == marks.done && is_beyond marks.upto last) past));
  };
}

module _ (state : State) (sound : IsSoundState state) where
  with_marks : (marks : Marks) (snapshot : Option ℕ) → AreMarks marks → marks.tables ≡ state.marks.tables → IfSome marks.upto (IsTableKey state.plan)
      → IfSome snapshot (IsOpenAt (record { read = length state.list; applied = state.applied; tables = marks.tables; done = marks.done; snapshot = snapshot }))
      → IsSoundState (record { plan = state.plan; list = state.list; applied = state.applied; marks = marks; snapshot = snapshot })
  with_marks marks snapshot are same key opened = record {
    plan = sound.plan;
    list = sound.list;
    standing = record { applied = sound.standing.applied; done = are.within; snapshot = opened };
    marks = are;
    tables = same ∙ sound.tables;
    upto = key;
  }

  -- the state behind a chunk
  sound-copied : Ties → KeysOfRowsAreTableKeys → (c : ℕ) → state.marks.done < state.marks.tables → IsSoundState (copied_state state c)
  sound-copied ties of_rows c copying = by (takes_all state c)
    where
      last-key : (last : KeyValue × RowValue) → slice_get (rows_taken state c) (length (rows_taken state c) - 1) ≡ Some last → IsTableKey state.plan last.0
      last-key last e =
          let under : AllByRecursion (IsRowUnder state.plan) (rows_left state) =
          all-filter (IsRowUnder state.plan) (λ row. is_past state.marks row.0) (passed_rows state.list state.applied) (passed-under ties state.plan state.list state.applied sound.list) in
          key-under of_rows state.plan last (all-at (IsRowUnder state.plan) (rows_left state) (length (rows_taken state c) - 1) last under (slice_get-take c (rows_left state) (length (rows_taken state c) - 1) last e))

      moved : (o : Option (KeyValue × RowValue)) → slice_get (rows_taken state c) (length (rows_taken state c) - 1) ≡ o
          → IsSoundState (record { plan = state.plan; list = state.list; applied = state.applied; marks = option_map_or (λ row. moved_to row.0 state.marks) o state.marks; snapshot = state.snapshot })
      moved None e = sound
      moved (Some last) e =
          with_marks (moved_to last.0 state.marks) state.snapshot (marks-moved state.marks last.0 sound.marks copying (last-past ties state c last e)) refl (last-key last e)
          (same_while (standing_of state) (record { read = length state.list; applied = state.applied; tables = state.marks.tables; done = state.marks.done; snapshot = state.snapshot }) refl (omega arith) refl refl state.snapshot sound.standing.snapshot)

      by : (b : Bool) → IsSoundState (cond b (record { plan = state.plan; list = state.list; applied = state.applied; marks = next_table state.marks; snapshot = None })
          (record { plan = state.plan; list = state.list; applied = state.applied; marks = marks_behind (rows_taken state c) state.marks; snapshot = state.snapshot }))
      by true = with_marks (next_table state.marks) None (marks-next state.marks sound.marks copying) refl tt tt
      by false = moved (slice_get (rows_taken state c) (length (rows_taken state c) - 1)) refl

  -- the state behind an offer
  sound-offered : (group : PreparedValue) → IsAllowed state (offer group) → IsPrepared group → IsSoundState (state_after state (offer group))
  sound-offered group allowed prepared = by (nat_le group.number (length state.list)) refl
    where
      next : nat_le group.number (length state.list) ≡ false → IsNext state.list group
      next e = elim allowed.place [ inl old ↦ absurd (let above : length state.list < group.number = leb-false group.number (length state.list) e in omega (arith, old.within)) | inr new ↦ new ]

      by : (b : Bool) → nat_le group.number (length state.list) ≡ b
          → IsSoundState (cond b state (record { plan = state.plan; list = state.list ++ group ∷ []; applied = state.applied; marks = state.marks; snapshot = state.snapshot }))
      by true e = sound
      by false e =
          let longer : length (state.list ++ group ∷ []) ≡ length state.list + 1 = length-append state.list (group ∷ []) in
          record {
            plan = sound.plan;
            list = read-next state.plan state.list group sound.list allowed.plan prepared (next e);
            standing = record {
              applied = omega (arith, longer, sound.standing.applied);
              done = sound.standing.done;
              snapshot = same_while (standing_of state) (record { read = length (state.list ++ group ∷ []); applied = state.applied; tables = state.marks.tables; done = state.marks.done; snapshot = state.snapshot })
                  refl (omega (arith, longer)) refl refl state.snapshot sound.standing.snapshot;
            };
            marks = sound.marks;
            tables = sound.tables;
            upto = sound.upto;
          }

-- the state behind any step
pub sound-after : (ties : Ties) (of_rows : KeysOfRowsAreTableKeys) (state : State) (event : Event) → IsSoundState state → IsAllowed state event → OnOffer IsPrepared event → IsSoundState (state_after state event)
sound-after ties of_rows state (offer group) sound allowed prepared = sound-offered state sound group allowed prepared
sound-after ties of_rows state advance sound allowed prepared = record {
  plan = sound.plan;
  list = sound.list;
  standing = record {
    applied = let more : state.applied < length state.list = one_more state sound.standing allowed.table in omega arith;
    done = sound.standing.done;
    snapshot = advanced (standing_of state) state.snapshot sound.standing.snapshot (none_against state advance allowed.table).0;
  };
  marks = sound.marks;
  tables = sound.tables;
  upto = sound.upto;
}
sound-after ties of_rows state (open_at m) sound allowed prepared =
    let none : NoneStands (row_of (standing_of state) (step_of (open_at m))).refusals = none_against state (open_at m) allowed.table in
    let left : state.marks.done ≢ state.marks.tables = eqb-false state.marks.done state.marks.tables none.0 in
    let most : state.marks.done ≤ state.marks.tables = sound.standing.done in
    record {
      plan = sound.plan;
      list = sound.list;
      standing = record {
        applied = sound.standing.applied;
        done = sound.standing.done;
        snapshot = record { not_behind = ltb-false m state.applied none.1.1.0; is_read = ltb-false (length state.list) m none.1.1.1.0; copying = omega arith };
      };
      marks = sound.marks;
      tables = sound.tables;
      upto = sound.upto;
    }
sound-after ties of_rows state (copy_rows c) sound allowed prepared = sound-copied state sound ties of_rows c (copying state c sound.standing allowed.table)
sound-after ties of_rows state close sound allowed prepared = record {
  plan = sound.plan;
  list = sound.list;
  standing = record { applied = sound.standing.applied; done = sound.standing.done; snapshot = tt };
  marks = sound.marks;
  tables = sound.tables;
  upto = sound.upto;
}
sound-after ties of_rows state restart sound allowed prepared =
    let most : state.applied ≤ length state.list = sound.standing.applied in
    let cut : length (take state.applied state.list) ≡ state.applied = length-take-le state.applied state.list most in
    record {
      plan = sound.plan;
      list = read-cut state.plan state.list state.applied sound.list;
      standing = record { applied = omega (arith, cut); done = sound.standing.done; snapshot = tt };
      marks = sound.marks;
      tables = sound.tables;
      upto = sound.upto;
    }
