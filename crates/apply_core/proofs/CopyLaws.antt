-- A chunk of rows: what is made of the rows that the image lends, and what a stream keeps behind it.
use Rattle.std.proofs.Common.{◌≡◌, ℕ, zero, suc, ◌+◌, ◌-◌, Bool, true, false, cond, List, [], ◌∷◌, length, map, take, drop, Option, Some, None, Vec, Global, slice_get, get_or, refl, sym, ap, subst, ◌∙◌, arith}
use Rattle.std.proofs.lemmas.List.{length-map, take-append-drop, take-take}
use Rattle.std.proofs.lemmas.Option.{slice_get-map, same_Some, get_or_from_slice_get}
use Rattle.std.specs.List.{AllByRecursion, filter, take-map}
use Rattle.std.specs.Prelude.{Err, IsTrue, IfSome, IsSomeAnd, MatchOption, nat_le}
use Rattle.std.specs.Option.{option_map, option_map_or}
use Rattle.filter_rule.specs.PlanValue.{PlanValue}
use Rattle.pk_copy.specs.KeyOrder.{key_cmp}
use Rattle.pk_copy.specs.KeyValue.{KeyValue}
use Rattle.pk_copy.specs.Marks.{Marks, is_past, moved_to, next_table}
use Rattle.stream_core.specs.Standing.{Standing}
use Rattle.target_tables.specs.Rising.{IsRising}
use Rattle.target_tables.specs.Touches.{last_at}
use Rattle.source_feed.specs.History.{RowValue, kept_of}
use Rattle.source_feed.specs.Image.{ImageRows, row_in, lent_row}
use Rattle.board_laws.specs.declared.answer.Copied.{Copied}
use Rattle.board_laws.specs.declared.refusal.Refusal.TheVariants.{NoStream, Memory}
use Rattle.board_laws.specs.Meaning.{State, Meaning}
use Rattle.board_laws.specs.Lawful.{IsSoundState}
use Rattle.board_laws.specs.Event.{copy_rows}
use Rattle.board_laws.specs.Chunk.{rows_left, rows_taken, takes_all, marks_behind}
use Rattle.board_laws.specs.KeptRows.{passed_rows, kept_row}
use Rattle.board_laws.specs.StateAfter.{state_after}
use Rattle.board_laws.specs.Touching.{touch_of, put_by}
use Rattle.board_laws.specs.Allowed.{IsAllowed}
use Rattle.board_laws.specs.Step.{IsRefusedFor, IsStep}
use Rattle.board_laws.specs.Laws.{StatesStaySound, OneMoreTells}
use Rattle.board_laws.proofs.KeptRowList.{lookup-kept}
use Rattle.board_laws.proofs.Lookups.{Ties, rising-left}
use Rattle.board_laws.proofs.Chunks.{left-rising, last-past}
use Rattle.board_laws.proofs.RowsUnder.{IsRowUnder, passed-under}
use Rattle.apply_core.specs.Private.Chunks.{last_key_of, IsMoveOf, IsTakenChunk, IsChunkFor}
use Rattle.apply_core.specs.Private.Changes.{IsOfTable}
use Rattle.apply_core.specs.Private.StreamState.{IsStream, IsStreamAt}
use Rattle.apply_core.specs.Private.StreamStep.{MayMake, ArePutsOf}
use Rattle.apply_core.specs.declared.taking.Chunk.{Chunk}
use Rattle.apply_core.specs.declared.taking.MarkMove.{MarkMove}
use denote.Ref.{Bor}

abbrev pub LentRows : Type 0
LentRows = List (Bor KeyValue × Bor RowValue)

-- ---- the chunk

-- the key of the last one of rows that are lent
pub last-lent : (rows : LentRows) (row : Bor KeyValue × Bor RowValue) (key : KeyValue) → Some row ≡ slice_get rows (length rows - 1) → key ≡ row.0.now → Some key ≡ last_key_of (map lent_row rows)
last-lent rows row key last is =
    ap Some is
    ∙ ap (λ (o : Option (Bor KeyValue × Bor RowValue)). option_map (λ (row : KeyValue × RowValue). row.0) (option_map lent_row o)) last
    ∙ sym (ap (option_map (λ row. row.0)) (slice_get-map lent_row rows (length rows - 1)))
    ∙ sym (ap (λ n. option_map (λ row. row.0) (slice_get (map lent_row rows) (n - 1))) (length-map rows lent_row))

-- without the row more these are the rows of the chunk
pub taken-lent : (state : State) (c : ℕ) (found : LentRows) → map lent_row found ≡ take (c + 1) (rows_left state) → map lent_row (take c found) ≡ rows_taken state c
taken-lent state c found e =
    sym (take-map lent_row c found)
    ∙ ap (take c) e
    ∙ take-take c (c + 1) (rows_left state) (omega arith)

pub taken-rising : Ties → (state : State) (c : ℕ) → IsRising key_cmp (rows_taken state c)
taken-rising ties state c =
    rising-left (rows_taken state c) (drop c (rows_left state))
    (subst (λ (rows : ImageRows). IsRising key_cmp rows) (sym (take-append-drop c (rows_left state))) (left-rising ties state))

-- whether the chunk is all that is left
pub all-told : OneMoreTells → (state : State) (c : ℕ) (found : LentRows) → map lent_row found ≡ take (c + 1) (rows_left state) → nat_le (length found) c ≡ takes_all state c
all-told tells state c found e =
    ap (λ n. nat_le n c) (sym (length-map found lent_row) ∙ ap length e) ∙ tells state c

-- the kept columns of rows put what the rows put, with its kept columns
put_by-kept : Ties → (plan : PlanValue) (rows : ImageRows) (key : KeyValue) → put_by (map (kept_row plan) rows) key ≡ option_map (option_map (kept_of plan key)) (put_by rows key)
put_by-kept ties plan rows key = ap (option_map Some) (lookup-kept ties plan key rows) ∙ by (row_in rows key)
  where
    by : (o : Option RowValue) → option_map {U = Option RowValue} Some (option_map (kept_of plan key) o) ≡ option_map (option_map (kept_of plan key)) (option_map {U = Option RowValue} Some o)
    by None = refl
    by (Some row) = refl

-- the rows of a chunk are of the plan's tables
of_table : (plan : PlanValue) (row : KeyValue × RowValue) → IsRowUnder plan row → IsOfTable plan row.0 row.1
of_table plan row h = (h.table, h.width)

all_of_tables : (plan : PlanValue) (rows : ImageRows) → AllByRecursion (IsRowUnder plan) rows → AllByRecursion (λ row. IsOfTable plan row.0 row.1) rows
all_of_tables plan [] h = tt
all_of_tables plan (row ∷ rows) h = (of_table plan row h.0, all_of_tables plan rows h.1)

all_within : (P : KeyValue × RowValue → Bool) (plan : PlanValue) (rows : ImageRows) → AllByRecursion (IsRowUnder plan) rows → AllByRecursion (IsRowUnder plan) (filter P rows)
all_within P plan [] h = tt
all_within P plan (row ∷ rows) h = by (P row) (all_within P plan rows h.1)
  where
    by : (b : Bool) → AllByRecursion (IsRowUnder plan) (filter P rows) → AllByRecursion (IsRowUnder plan) (cond b (row ∷ filter P rows) (filter P rows))
    by true rest = (h.0, rest)
    by false rest = rest

all_first : (plan : PlanValue) (c : ℕ) (rows : ImageRows) → AllByRecursion (IsRowUnder plan) rows → AllByRecursion (IsRowUnder plan) (take c rows)
all_first plan zero [] h = tt
all_first plan (suc c) [] h = tt
all_first plan zero (row ∷ rows) h = tt
all_first plan (suc c) (row ∷ rows) h = (h.0, all_first plan c rows h.1)

-- of a sound state the rows that pass and that a test takes are of the plan's tables
pub passed_of_tables : Ties → (state : State) → IsSoundState state → (P : KeyValue × RowValue → Bool) → AllByRecursion (λ row. IsOfTable state.plan row.0 row.1) (filter P (passed_rows state.list state.applied))
passed_of_tables ties state sound P =
    all_of_tables state.plan (filter P (passed_rows state.list state.applied))
    (all_within P state.plan (passed_rows state.list state.applied) (passed-under ties state.plan state.list state.applied sound.list))

pub taken_of_tables : Ties → (state : State) → IsSoundState state → (c : ℕ) → AllByRecursion (λ row. IsOfTable state.plan row.0 row.1) (rows_taken state c)
taken_of_tables ties state sound c =
    all_of_tables state.plan (rows_taken state c)
    (all_first state.plan c (rows_left state) (all_within (λ row. is_past state.marks row.0) state.plan (passed_rows state.list state.applied) (passed-under ties state.plan state.list state.applied sound.list)))

-- what a chunk answers
abbrev copied_of : ℕ → Bool → Copied
copied_of rows done = record { rows = rows; done = done }

-- what is made of the rows of the image is the chunk: of the first c, lent once for their puts and once for the last key
pub is-taken : Ties → OneMoreTells → (state : State) (c : ℕ) (found : LentRows) → map lent_row found ≡ take (c + 1) (rows_left state)
    → (rows first second : LentRows) → rows ≡ take c found → first ≡ rows → second ≡ rows
    → (puts : Vec (KeyValue × Option RowValue) Global) → ((key : KeyValue) → last_at key_cmp puts.items key ≡ put_by (map (kept_row state.plan) (map lent_row first)) key)
    → (all : ℕ) → all ≡ length found → (count : ℕ) → count ≡ length rows → (last : Option KeyValue) → last ≡ last_key_of (map lent_row second)
    → IsTakenChunk state c (record { puts = puts; step = record { copied = record { rows = count; done = nat_le all c }; last = last } })
is-taken ties tells state c found e rows first second cut one two puts put all of_found count of_rows last by_last =
    let taken : map lent_row rows ≡ rows_taken state c = ap (λ (xs : LentRows). map lent_row xs) cut ∙ taken-lent state c found e in
    let done : nat_le all c ≡ takes_all state c = ap (λ n. nat_le n c) of_found ∙ all-told tells state c found e in
    let rows_are : count ≡ length (rows_taken state c) = of_rows ∙ sym (length-map rows lent_row) ∙ ap length taken in
    record {
      puts = λ key.
          put key
          ∙ ap (λ (xs : ImageRows). put_by (map (kept_row state.plan) xs) key) (ap (λ (xs : LentRows). map lent_row xs) one ∙ taken)
          ∙ put_by-kept ties state.plan (rows_taken state c) key;
      step = record {
        copied = ap (λ (n : ℕ). copied_of n (nat_le all c)) rows_are ∙ ap (λ (b : Bool). copied_of (length (rows_taken state c)) b) done;
        last = by_last ∙ ap last_key_of (ap (λ (xs : LentRows). map lent_row xs) two ∙ taken);
      };
    }

-- ---- behind a chunk

-- what is said of the stream, if there is one, is said of the one that may make the step
pub move_here : (streams : List State) (s : ℕ) (c : ℕ) (step : MarkMove) (d : State) → MayMake streams s (copy_rows c) → IfSome (slice_get streams s) (λ state. IsMoveOf state c step)
    → IsMoveOf (get_or streams s d) c step
move_here streams s c step d may moves =
    subst (λ (state : State). IsMoveOf state c step) (sym (get_or_from_slice_get streams s may.state d may.stream))
    (subst (λ (o : Option State). IfSome o (λ state. IsMoveOf state c step)) may.stream moves)

module _ (old now : State) (is : old ≡ now) (c : ℕ) (step : MarkMove) (moves : IsMoveOf now c step) (key : KeyValue) (last : step.last ≡ Some key) where
  -- the row that the mark moves to
  last_row : (row : KeyValue × RowValue) × (slice_get (rows_taken now c) (length (rows_taken now c) - 1) ≡ Some row) × (key ≡ row.0)
  last_row = by (slice_get (rows_taken now c) (length (rows_taken now c) - 1)) refl (sym last ∙ moves.last)
    where
      by : (o : Option (KeyValue × RowValue)) → slice_get (rows_taken now c) (length (rows_taken now c) - 1) ≡ o → Some key ≡ option_map (λ row. row.0) o
          → (row : KeyValue × RowValue) × (slice_get (rows_taken now c) (length (rows_taken now c) - 1) ≡ Some row) × (key ≡ row.0)
      by None e g = cc
      by (Some row) e g = (row, e, same_Some key row.0 g)

  -- the chunk's last key is past the mark
  pub key-past : Ties → IsTrue (is_past old.marks key)
  key-past ties =
      subst (λ (s : State). is_past s.marks key ≡ true) (sym is)
      (subst (λ (k : KeyValue). is_past now.marks k ≡ true) (sym last_row.2) (last-past ties now c last_row.0 last_row.1))

  module _ (marks : Marks) (moved : marks ≡ moved_to key old.marks) (more : step.copied.done ≡ false) where
    abbrev pub after : State
    after = record { plan = old.plan; list = old.list; applied = old.applied; marks = marks; snapshot = old.snapshot }

    is_behind : marks ≡ marks_behind (rows_taken now c) now.marks
    is_behind =
        moved
        ∙ ap (λ (s : State). moved_to key s.marks) is
        ∙ ap (λ (k : KeyValue). moved_to k now.marks) last_row.2
        ∙ sym (ap (λ (o : Option (KeyValue × RowValue)). option_map_or (λ row. moved_to row.0 now.marks) o now.marks) last_row.1)

    more_left : takes_all now c ≡ false
    more_left = sym (ap (λ copied. copied.done) moves.copied) ∙ more

    moved-value : after ≡ state_after now (copy_rows c)
    moved-value =
        ap (λ (m : Marks). record { plan = old.plan; list = old.list; applied = old.applied; marks = m; snapshot = old.snapshot }) is_behind
        ∙ ap (λ (s : State). record { plan = s.plan; list = s.list; applied = s.applied; marks = marks_behind (rows_taken now c) now.marks; snapshot = s.snapshot }) is
        ∙ sym (ap (λ b. cond b (record { plan = now.plan; list = now.list; applied = now.applied; marks = next_table now.marks; snapshot = None })
        (record { plan = now.plan; list = now.list; applied = now.applied; marks = marks_behind (rows_taken now c) now.marks; snapshot = now.snapshot })) more_left)

    moved_stream : StatesStaySound → IsAllowed now (copy_rows c) → (imaged : ℕ) (image : ImageRows) → IsStream old imaged image → IsStream after imaged image
    moved_stream sound allowed imaged image inv = record {
      sound = subst (λ (s : State). IsSoundState s) (sym moved-value) (sound now (copy_rows c) (subst (λ (s : State). IsSoundState s) is inv.sound) allowed tt);
      kept = inv.kept;
      within = inv.within;
      opened = inv.opened;
    }

    pub moved-stream : StatesStaySound → IsAllowed now (copy_rows c) → (cursor : Standing) (imaged : ℕ) (image : ImageRows) → IsStreamAt old cursor imaged image → IsStreamAt after cursor imaged image
    moved-stream sound allowed cursor imaged image inv = record {
      stands = inv.stands ∙ ap (λ (m : Marks). record { read = length old.list; applied = old.applied; tables = m.tables; done = m.done; snapshot = old.snapshot }) (sym moved);
      stream = moved_stream sound allowed imaged image inv.stream;
    }

-- ---- a chunk that was taken before

module _ (items streams : List State) (is : items ≡ streams) (s c : ℕ) (taken : Chunk) (h : IsChunkFor streams s c taken) where
  there : slice_get items s ≡ Some h.state
  there = ap (λ (xs : List State). slice_get xs s) is ∙ h.stream

  pub chunk_may : MayMake items s (copy_rows c)
  chunk_may = record { state = h.state; stream = there; allowed = h.allowed }

  pub chunk_puts : ArePutsOf items s (copy_rows c) taken.puts.items
  chunk_puts = record {
    may = chunk_may;
    left = subst (λ (o : Option State). IfSome o (λ state. (key : KeyValue) → last_at key_cmp taken.puts.items key ≡ touch_of state (copy_rows c) key)) (sym there) h.chunk.puts;
  }

  -- a copy of the marks that are then, of the stream that there is
  pub chunk_marks : (marks : Marks) → IfSome (slice_get items s) (λ state. marks ≡ (state_after state (copy_rows c)).marks) → IsSomeAnd (slice_get items s) (λ state. marks ≡ (state_after state (copy_rows c)).marks)
  chunk_marks marks h =
      subst (λ (o : Option State). IsSomeAnd o (λ state. marks ≡ (state_after state (copy_rows c)).marks)) (sym there)
      (subst (λ (o : Option State). IfSome o (λ state. marks ≡ (state_after state (copy_rows c)).marks)) there h)

  pub chunk_moves : IfSome (slice_get items s) (λ state. IsMoveOf state c taken.step)
  chunk_moves = subst (λ (o : Option State). IfSome o (λ state. IsMoveOf state c taken.step)) (sym there) h.chunk.step

-- one that may be copied, and wants memory
pub chunk_wants : (old : Meaning) (s c : ℕ) (chunk : Chunk) → IsChunkFor old.streams s c chunk → IsStep old s (copy_rows c) (Err Memory) old
chunk_wants old s c chunk h = (subst (λ (o : Option State). MatchOption o (Memory ≡ NoStream) (λ state. IsRefusedFor old s state (copy_rows c) Memory)) (sym h.stream) (h.allowed, refl), refl)
