-- What the types of this crate are, apart from where their texts lie, and what a call's answer means.
use Rattle.std.specs.Prelude.{◌≡◌, Option, Some, None, Result, Ok, Err, option_map, IsSome}
use Rattle.filter_text.specs.Lexemes.{Lexeme, word, name, quoted, mark}
use Rattle.filter_text.specs.FilterText.{RowsSaid, every_row, in_own_range, in_range_of, FilterMeaning}
use Rattle.filter_text.specs.RuleScope.{TablesSaid, every_table, one_table}
use Rattle.filter_text.specs.declared.token.Token.{Token}
use Rattle.filter_text.specs.declared.token.Token.TheVariants.{Word, Name, Quoted, Mark}
use Rattle.filter_text.specs.declared.filter.Filter.{Filter}
use Rattle.filter_text.specs.declared.filter.Rows.{Rows}
use Rattle.filter_text.specs.declared.filter.Rows.TheVariants.{EveryRow, OwnVindex, Named}
use Rattle.filter_text.specs.declared.scope.Scope.{Scope}
use Rattle.filter_text.specs.declared.scope.Scope.TheVariants.{EveryTable, OneTable}
use Rattle.filter_text.specs.declared.fault.FilterFault.{FilterFault}
use Rattle.filter_text.specs.declared.fault.FilterFault.TheVariants.{BadForm, Memory}

abbrev pub lexeme : Token → Lexeme
lexeme (Word w) = word w.now
lexeme (Name n) = name n.now
lexeme (Quoted q) = quoted q.now
lexeme (Mark m) = mark m

abbrev pub rows_said : Rows → RowsSaid
rows_said EveryRow = every_row
rows_said (OwnVindex range) = in_own_range range
rows_said (Named column vindex range) = in_range_of column.now vindex range

-- what a filter that was read says
abbrev pub meaning : Filter → FilterMeaning
meaning filter = record { table = option_map (λ t. t.now) filter.table; columns = filter.columns; rows = rows_said filter.rows }

abbrev pub scope_said : Scope → TablesSaid
scope_said EveryTable = every_table
scope_said (OneTable table) = one_table table.now

-- What a call answered, seen by `view`, is what the definition reads; a bad form is one that it doesn't
-- read, and memory is wanting for one that it reads.
abbrev pub Reads : {X Y : Type 0} → (X → Y) → Result X FilterFault → Option Y → Type 0
Reads view (Ok x) read = read ≡ Some (view x)
Reads view (Err BadForm) read = read ≡ None
Reads view (Err Memory) read = IsSome read
