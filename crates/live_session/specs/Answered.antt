-- What each request is answered, and what it leaves (this profile).
use Rattle.std.specs.Prelude.{◌≡◌, ◌⊎◌, ℕ, ◌-◌, ◌^◌, List, [], length, map, Bool, Option, None, Some, MatchOption, IsSomeAnd, Result, Ok, Err, slice_get}
use Rattle.std.specs.Option.{unwrap_or}
use Rattle.filter_rule.specs.PlanValue.{PlanValue, table_of_name}
use Rattle.pk_copy.specs.KeyOrder.{key_cmp}
use Rattle.pk_copy.specs.KeyValue.{KeyValue}
use Rattle.target_tables.specs.Contents.{value_at}
use Rattle.board_laws.specs.Meaning.{Meaning, TargetRows}
use Rattle.board_laws.specs.declared.step_refusal.StepRefusal.{StepRefusal}
use Rattle.checkpoint_laws.specs.Written.{checkpoint_of}
use Rattle.printing.specs.Printing.{Prints, Written}
use Rattle.change_laws.specs.Changes.{LeadOn, changes_in}
use Rattle.change_laws.specs.Since.{HasMoved}
use Rattle.change_laws.specs.declared.changed_keys.ChangedKeys.{ChangedKeys}
use Rattle.live_core.specs.Live.{LiveValue, AreCounted, HaveEndedAs, IsToldExactly, told_rows}
use Rattle.worker_rounds.specs.Rounds.{ApplyUpTo, AreAnswers}
use Rattle.live_json.specs.Answers.{StreamValue, TableCounts, ok_line, refused_line, more_data, state_data, changes_data, told_data, page_data, standing_data, counts_data, saved_data, nothing_data}
use Rattle.live_requests.specs.Named.{IsKeyText}
use Rattle.live_requests.specs.Requests as asked
use Rattle.live_requests.specs.Requests.{Asked}
use Rattle.live_session.specs.Counts.{AreAllCounts}
use Rattle.live_session.specs.Growths.{HaveCome, HaveGrown}
use Rattle.live_session.specs.Pages.{page_of}
use Rattle.live_session.specs.Saves.{saved_then}
use Rattle.live_session.specs.Sessions.{KeptSession, SessionValue, AreTold, first_plan}
use Rattle.live_session.specs.Stops.{known_refusal, number_of_save}
use Rattle.live_session.specs.declared.arrivals.SaveFault.{SaveFault}
use Rattle.live_session.specs.declared.seat.Seat.{Seat}

-- the line of a refusal of which only the number is told, with what it means
abbrev pub refusal_line : ℕ → List ℕ
refusal_line number = refused_line (known_refusal number)

-- ---- more

-- what each stream answered is noted in its seat
abbrev pub noted : Result Bool StepRefusal → Option StepRefusal
noted (Ok all) = None
noted (Err refusal) = Some refusal

pub record AreNoted (answers : List (Result Bool StepRefusal)) (seats : List Seat) : Type 0 where
  pub count : length seats ≡ length answers
  pub each : (s : ℕ) (answer : Result Bool StepRefusal) (seat : Seat) → slice_get answers s ≡ Some answer → slice_get seats s ≡ Some seat → seat.step ≡ noted answer

-- nothing but the last steps has changed in the seats
abbrev pub unstepped : Seat → Seat
unstepped seat = record seat { step = None }

abbrev pub AreStepped : List Seat → List Seat → Type 0
AreStepped befores afters = map unstepped afters ≡ map unstepped befores

-- up to how many groups each stream applies: where none are said, more than any feed has
abbrev pub most_asked : Option ℕ → ℕ
most_asked groups = unwrap_or groups (2 ^ 32 - 1)

-- The feeds have grown by so many bytes, and then the streams have taken a list of steps that read groups and apply them, up
-- to so many groups each. Nothing was told.
pub record HasGone (most bytes : ℕ) (old new : LiveValue) : Type 0 where
  pub between : LiveValue
  pub come : HaveCome bytes old between
  pub feeds : new.fed.feeds ≡ between.fed.feeds
  pub known : new.bytes ≡ between.bytes
  pub told : new.told ≡ between.told
  pub moved : HasMoved between.fed.feeds between.fed.board new.fed.board
  pub up_to : ApplyUpTo most between.fed.board new.fed.board

-- The feeds have grown, each by what its seat says, and each stream has gone on: it has applied all groups of its feed, or so
-- many more, or was stopped by the refusal that is noted. Told are how many bytes and changes there are, and where the streams
-- stand.
pub record IsMore (most : ℕ) (old new : SessionValue) (text : List ℕ) : Type 0 where
  pub bytes : ℕ
  pub gone : HasGone most bytes old.live new.live
  pub grown : HaveGrown old.seats new.seats old.live new.live
  pub answers : List (Result Bool StepRefusal)
  pub answered : AreAnswers most gone.between.fed.feeds gone.between.fed.board answers new.live.fed.board
  pub ended : HaveEndedAs answers new.live.fed.feeds new.live.fed.board
  pub noted : AreNoted answers new.seats
  pub changes : ℕ
  pub counted : AreCounted changes new.live.told new.live.fed.board
  pub streams : List StreamValue
  pub stand : AreTold new streams
  pub line : text ≡ ok_line (more_data bytes changes streams)

-- ---- what is told of a board

pub record IsState (session : SessionValue) (text : List ℕ) : Type 0 where
  pub streams : List StreamValue
  pub stand : AreTold session streams
  pub line : text ≡ ok_line (state_data streams)

-- told is then the board as it stands, and nothing else has changed
pub record HasTold (old new : SessionValue) : Type 0 where
  pub fed : new.live.fed ≡ old.live.fed
  pub bytes : new.live.bytes ≡ old.live.bytes
  pub seats : new.seats ≡ old.seats
  pub told : new.live.told ≡ Some old.live.fed.board

-- what changed since the board that was told: who makes the changes to its rows has the rows of this one
pub record IsChanges (session : SessionValue) (text : List ℕ) : Type 0 where
  pub plan : PlanValue
  pub first : first_plan session.live ≡ Some plan
  pub changed : ChangedKeys
  pub lead : LeadOn (told_rows session.live.told) (changes_in session.live.fed.board.rows changed) session.live.fed.board.rows
  pub exact : IsToldExactly session.live.told session.live.fed.board changed
  pub streams : List StreamValue
  pub stand : AreTold session streams
  pub line : text ≡ ok_line (changes_data plan.tables (changes_in session.live.fed.board.rows changed) streams)

-- how many these are
pub record IsToldCount (session : SessionValue) (text : List ℕ) : Type 0 where
  pub changes : ℕ
  pub counted : AreCounted changes session.live.told session.live.fed.board
  pub streams : List StreamValue
  pub stand : AreTold session streams
  pub line : text ≡ ok_line (told_data changes streams)

-- ---- rows

-- what a key's text names is answered, or 126 where it names none
abbrev pub IsKeyed : PlanValue → ℕ → List ℕ → (KeyValue → List ℕ) → List ℕ → Type 0
IsKeyed plan t said answer text = ((key : KeyValue) × IsKeyText plan t said key × (text ≡ answer key)) ⊎ (((key : KeyValue) → ¬ IsKeyText plan t said key) × (text ≡ refusal_line 126))

abbrev pub page_line : TargetRows → ℕ → KeyValue → List ℕ
page_line rows most from = ok_line (page_data (page_of rows from most))

-- from the key that is said on, or from the first
abbrev pub IsPage : PlanValue → TargetRows → ℕ → ℕ → Option (List ℕ) → List ℕ → Type 0
IsPage plan rows t most None text = text ≡ page_line rows most (record { table = t; parts = [] })
IsPage plan rows t most (Some said) text = IsKeyed plan t said (page_line rows most) text

-- 125 where there is no such table
abbrev pub IsRows : TargetRows → List ℕ → ℕ → Option (List ℕ) → List ℕ → PlanValue → Type 0
IsRows rows table most from text plan = MatchOption (table_of_name plan table) (text ≡ refusal_line 125) (λ t. IsPage plan rows t most from text)

abbrev pub row_line : TargetRows → KeyValue → List ℕ
row_line rows key = ok_line (standing_data (value_at key_cmp rows key))

abbrev pub IsRow : TargetRows → List ℕ → List ℕ → List ℕ → PlanValue → Type 0
IsRow rows table said text plan = MatchOption (table_of_name plan table) (text ≡ refusal_line 125) (λ t. IsKeyed plan t said (row_line rows) text)

pub record IsCounts (rows : TargetRows) (streams : ℕ) (text : List ℕ) (plan : PlanValue) : Type 0 where
  pub all : List TableCounts
  pub counted : AreAllCounts rows plan.tables streams all
  pub line : text ≡ ok_line (counts_data all)

-- ---- save

-- how many bytes a checkpoint has that was kept, or why it wasn't
abbrev pub kept_line : ℕ → Result (Unit {0}) SaveFault → List ℕ
kept_line size (Ok done) = ok_line (saved_data size)
kept_line size (Err fault) = refusal_line (number_of_save fault)

-- the board's checkpoint was to be kept, and what was answered to that is told
pub record IsSaved (board : Meaning) (old new : Option (List (List ℕ))) (text : List ℕ) : Type 0 where
  pub answer : Result (Unit {0}) SaveFault
  pub kept : new ≡ saved_then (checkpoint_of board) answer old
  pub line : text ≡ kept_line (length (checkpoint_of board)) answer

-- ---- all

-- what a request is answered, and what it leaves: but for `save` what is kept stays
abbrev pub IsAnsweredAs : Asked → KeptSession → List ℕ → KeptSession → Type 0
IsAnsweredAs (asked.more groups) old text new = (new.saved ≡ old.saved) × IsMore (most_asked groups) old.session new.session text
IsAnsweredAs asked.state old text new = (new ≡ old) × IsState old.session text
IsAnsweredAs asked.changes old text new = (new.saved ≡ old.saved) × HasTold old.session new.session × IsChanges old.session text
IsAnsweredAs asked.told old text new = (new.saved ≡ old.saved) × HasTold old.session new.session × IsToldCount old.session text
IsAnsweredAs (asked.rows table most from) old text new = (new ≡ old) × IsSomeAnd (first_plan old.session.live) (IsRows old.session.live.fed.board.rows table most from text)
IsAnsweredAs (asked.row table key) old text new = (new ≡ old) × IsSomeAnd (first_plan old.session.live) (IsRow old.session.live.fed.board.rows table key text)
IsAnsweredAs asked.counts old text new = (new ≡ old) × IsSomeAnd (first_plan old.session.live) (IsCounts old.session.live.fed.board.rows (length old.session.live.fed.board.streams) text)
IsAnsweredAs asked.save old text new = (new.session ≡ old.session) × IsSaved old.session.live.fed.board old.saved new.saved text
IsAnsweredAs asked.last old text new = (new ≡ old) × (text ≡ ok_line nothing_data)

-- want of memory leaves all as it was, but for what `more` has done
abbrev pub IsLeft : Asked → KeptSession → KeptSession → Type 0
IsLeft (asked.more groups) old new = (new.saved ≡ old.saved) × ((bytes : ℕ) × HasGone (most_asked groups) bytes old.session.live new.session.live)
IsLeft request old new = new ≡ old

-- A request is answered so, or 72; and 124 is the answer to a line that is none.
abbrev pub IsAnswer : Option Asked → KeptSession → List ℕ → KeptSession → Type 0
IsAnswer None old text new = (new ≡ old) × (text ≡ refusal_line 124)
IsAnswer (Some request) old text new = IsAnsweredAs request old text new ⊎ (IsLeft request old new × (text ≡ refusal_line 72))

-- ---- what a call that answers leaves on its output

-- a text of this kind was printed, or there was want of memory and nothing was
abbrev pub Answers : {X E F : Type 0} → (List ℕ → Type 0) → Result (Result X E) F → Written → Written → Type 0
Answers Is (Ok printed) old new = (text : List ℕ) × Is text × Prints printed old new text
Answers Is (Err _) old new = new ≡ old
