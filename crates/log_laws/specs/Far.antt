-- What a feed's events have to say where logs are told so far (this profile).
use Rattle.std.specs.Prelude.{◌≡◌, ℕ, true, false, List, [], ◌∷◌, map, Some, None}
use Rattle.gtid_set.specs.declared.interval.Interval.{Interval}
use Rattle.gtid_set.specs.Position.{IsCanonical, IsWithin}
use Rattle.source_feed.specs.PastEvents.{PastEvents, is_open, last_field}
use Rattle.source_feed.specs.Groups.{seen, first_fault}
use Rattle.log_places.specs.Place.{Rises}
use Rattle.log_course.specs.Course.{PlacedValue}
use Rattle.log_feed.specs.declared.table.Stage.{Stage}
use Rattle.log_feed.specs.declared.table.Stage.TheVariants.{Filled}
use Rattle.log_feed.specs.Table.{TableValue, field_of, table_of, stage_at}
use Rattle.log_laws.specs.Source.{SourceTables, source_of}
use Rattle.log_laws.specs.Transcript.{Far}

-- a feed's events say the columns of each table that had rows
abbrev pub SaysColumns : SourceTables → PastEvents → List Stage → Type 0
SaysColumns s past stages =
    (name : List ℕ) (place : ℕ) (table : TableValue) → table_of name s.tables ≡ Some (place, table) → stage_at stages place ≡ Filled
    → last_field (source_of s) past table.name ≡ Some (map field_of table.columns)

-- These events, the latest first, tell logs so far: none has a fault, no transaction is open, the columns of tables with rows
-- are said, and all positions together lie within the one that was reached, and are it just where that is said.
pub record TellsSoFar (s : SourceTables) (past : PastEvents) (far : Far) : Type 0 where
  pub faultless : first_fault (source_of s) past ≡ None
  pub outside : is_open past ≡ false
  pub columns : SaysColumns s past far.stages
  pub reached : IsCanonical far.reached
  pub positions : IsCanonical (seen (source_of s) past)
  pub within : IsWithin (seen (source_of s) past) far.reached
  pub said : far.said ≡ true → seen (source_of s) past ≡ far.reached
  pub unsaid : far.said ≡ false → ¬ IsWithin far.reached (seen (source_of s) past)

-- each transaction has a position with all of the one before it, and more
abbrev pub AreRising : List Interval → List PlacedValue → Type 0
AreRising reached [] = Unit {0}
AreRising reached (g ∷ groups) = Rises reached g.position × AreRising g.position groups
