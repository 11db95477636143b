-- A cut of whole rows, of which a stream's rows are the kept columns.
use Rattle.std.proofs.Common.{◌≡◌, Bool, true, false, cond, Option, Some, None, refl, ap}
use Rattle.std.specs.Prelude.{unwrap_or, if◌then◌else◌}
use Rattle.std.specs.Option.{option_map}
use Rattle.pk_copy.specs.KeyValue.{KeyValue}
use Rattle.pk_copy.specs.Marks.{is_inside}
use Rattle.source_feed.specs.History.{RowValue, KeptRow, passed_at, kept_of}
use Rattle.board_laws.specs.Meaning.{State}
use Rattle.board_laws.specs.Cut.{cut_of}

-- the whole row of a stream's cut at a key
abbrev pub passed_cut : State → KeyValue → Option RowValue
passed_cut state key = if is_inside state.marks key then passed_at state.list state.applied key else None

inside-kept : (f : RowValue → KeptRow) (b : Bool) (row : Option RowValue) → cond b (option_map f row) None ≡ option_map f (cond b row None)
inside-kept f true row = refl
inside-kept f false row = refl

pub cut-passed : (state : State) (key : KeyValue) → cut_of state key ≡ option_map (kept_of state.plan key) (passed_cut state key)
cut-passed state key = inside-kept (kept_of state.plan key) (is_inside state.marks key) (passed_at state.list state.applied key)

pub mapped : {A B : Type 0} (f : A → B) (touch : Option (Option A)) (old : Option A) → option_map f (unwrap_or touch old) ≡ unwrap_or (option_map (option_map f) touch) (option_map f old)
mapped f None old = refl
mapped f (Some row) old = refl

-- nothing is kept of no row
pub none-kept : (f : RowValue → KeptRow) (row : Option RowValue) → row ≡ None → option_map f row ≡ None
none-kept f row none = ap (option_map f) none
