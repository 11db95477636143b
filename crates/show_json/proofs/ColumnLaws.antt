-- What is told of the columns of tables.
use Rattle.std.proofs.Common.{◌≡◌, ◌∙◌, ℕ, Bool, true, false, List, cond, refl, sym, ap, Option, Some}
use Rattle.std.specs.Prelude.{if◌then◌else◌, option_map}
use Rattle.std.specs.Cmp.Lexicographic.{same_text}
use Rattle.std.specs.Str.{bytes_eq}
use Rattle.row_view.specs.FieldValue.{FieldValue}
use Rattle.show_json.specs.Columns.{ToldColumns, told_with}
use Rattle.show_json.specs.Private.Kept.{told_by}
use Rattle.show_json.specs.declared.columns.KeptColumns.{KeptColumns}

same-name : (table name : List ℕ) → bytes_eq table name ≡ true → table ≡ name
same-name table name e = same_text table name (sym e)

-- a FIELD that says nothing new
pub told-still : (table name : List ℕ) (columns : List FieldValue) (told : List ℕ → Option ToldColumns) → told table ≡ Some (told_with (told table) columns)
    → told name ≡ (if bytes_eq table name then Some (told_with (told name) columns) else told name)
told-still table name columns told is = by (bytes_eq table name) refl
  where
    by : (b : Bool) → bytes_eq table name ≡ b → told name ≡ (if bytes_eq table name then Some (told_with (told name) columns) else told name)
    by true same = let e = same-name table name same in rw same (ap told (sym e) ∙ is ∙ ap (λ n. Some (told_with (told n) columns)) e)
    by false same = rw same refl

-- one that is kept
pub told-kept : (table name : List ℕ) (columns : List FieldValue) (kept : KeptColumns) (old : List ℕ → Option KeptColumns) (new : Option KeptColumns)
    → told_by kept ≡ told_with (option_map told_by (old table)) columns → new ≡ cond (bytes_eq table name) (Some kept) (old name)
    → option_map told_by new ≡ (if bytes_eq table name then Some (told_with (option_map told_by (old name)) columns) else option_map told_by (old name))
told-kept table name columns kept old new is after = ap (option_map told_by) after ∙ by (bytes_eq table name) refl
  where
    by : (b : Bool) → bytes_eq table name ≡ b
        → option_map told_by (cond (bytes_eq table name) (Some kept) (old name)) ≡ (if bytes_eq table name then Some (told_with (option_map told_by (old name)) columns) else option_map told_by (old name))
    by true same = rw same (ap Some (is ∙ ap (λ n. told_with (option_map told_by (old n)) columns) (same-name table name same)))
    by false same = rw same refl
