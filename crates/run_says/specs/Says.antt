-- What a feed says under a plan: which keys its changes touch, and what they leave there. A plan is that of
-- filter_rule/specs/PlanValue.antt, a touch that of source_feed/specs/Touches.antt.
use Rattle.std.specs.Prelude.{◌≡◌, ℕ, List, [], ◌∷◌, ◌++◌, Bool, true, false, Option, Some, None, IfSome, MatchOption}
use Rattle.std.specs.List.{AllByRecursion}
use Rattle.std.specs.Option.{option_to_list}
use Rattle.row_view.specs.Row.{RowValue}
use Rattle.vevent.specs.EventValue.{EventValue, Field}
use Rattle.vindex.specs.NumberText.{number_of_text}
use Rattle.filter_rule.specs.PlanValue.{PlanValue, table_of_name, decision_at, columns_of, key_columns_of, column_at}
use Rattle.filter_rule.specs.TypeNumbers.{is_whole_number}
use Rattle.filter_rule.specs.WellFormed.{type_at}
use Rattle.pk_copy.specs.KeyValue.{Part, number, bytes, KeyValue}
use Rattle.source_feed.specs.GroupValue.{Position, TableChangeValue}
use Rattle.source_feed.specs.Groups.{Block}
use Rattle.source_feed.specs.Planned.{source_of}
use Rattle.source_feed.specs.SourceValue.{table_in_source}
use Rattle.source_feed.specs.Touches.{TouchValue}
use Rattle.run_says.specs.Wire.{EachIs, HaveTogether}
use Rattle.run_says.specs.Messages.{HasEvents}
use Rattle.run_says.specs.Positions.{IsPositionText}
use Rattle.run_says.specs.Transactions.{AreBlocks, AreChanges}
use Rattle.run_says.specs.Filter.{Answers}

-- a part of a key: of a column of whole numbers its number, of another its bytes; NULL gives none
abbrev pub IsPart : ℕ → Option (List ℕ) → Part → Type 0
IsPart type value (number n) = (text : List ℕ) × (value ≡ Some text) × (is_whole_number type ≡ true) × (number_of_text text ≡ Some n)
IsPart type value (bytes b) = (value ≡ Some b) × (is_whole_number type ≡ false)

-- a row of table t has this key: the parts of its key columns, in key order
abbrev pub HasKey : PlanValue → ℕ → RowValue → KeyValue → Type 0
HasKey plan t row key = (key.table ≡ t) × EachIs (λ place part. IsPart (type_at (columns_of plan t) place) (column_at row place) part) (key_columns_of plan t) key.parts

-- a row before a change leaves nothing at its key
abbrev pub AreOfBefore : PlanValue → ℕ → Option RowValue → List TouchValue → Type 0
AreOfBefore plan t None touches = touches ≡ []
AreOfBefore plan t (Some row) touches = (key : KeyValue) × HasKey plan t row key × (touches ≡ (key, None) ∷ [])

-- a row after it stands at its key, with the filter's answer
abbrev pub AreOfAfter : PlanValue → ℕ → Option RowValue → List TouchValue → Type 0
AreOfAfter plan t None touches = touches ≡ []
AreOfAfter plan t (Some row) touches = (key : KeyValue) × (passes : Bool) × HasKey plan t row key × Answers (decision_at plan t) row passes × (touches ≡ (key, Some (record { row = row; passes = passes })) ∷ [])

-- a change of a planned table: first the row before it, then the row after it; changes of other tables touch nothing
abbrev pub AreOfChange : PlanValue → TableChangeValue → List TouchValue → Type 0
AreOfChange plan change touches = MatchOption (table_of_name plan change.table) (touches ≡ [])
    (λ t. (removed put : List TouchValue) × AreOfBefore plan t change.before removed × AreOfAfter plan t change.after put × (touches ≡ removed ++ put))

-- a FIELD of a planned table has the plan's columns
abbrev pub Agrees : PlanValue → EventValue → Type 0
Agrees plan (Field name columns) = IfSome (table_of_name plan (table_in_source (source_of plan) name)) (λ t. columns ≡ columns_of plan t)
Agrees plan event = Unit {0}

-- The feed's events are whole transactions, whose changes make the touches, repeats aside, up to the position whose text is
-- given, if one is.
pub record SaysTouches (plan : PlanValue) (until : Option (List ℕ)) (feed : List ℕ) (touches : List TouchValue) : Type 0 where
  pub events : List EventValue
  pub has : HasEvents feed events
  pub columns : AllByRecursion (Agrees plan) events
  pub blocks : List Block
  pub grouped : AreBlocks (source_of plan) events blocks
  pub end : Option Position
  pub ends : EachIs IsPositionText (option_to_list until) (option_to_list end)
  pub changes : List TableChangeValue
  pub fresh : AreChanges end [] blocks changes
  pub made : HaveTogether (AreOfChange plan) changes touches
