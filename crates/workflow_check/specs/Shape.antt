-- Where a workflow file hasn't the shape of a document: the first value, in the order in which they are read, that
-- isn't of its kind (this profile).
use Rattle.std.specs.Prelude.{ℕ, ◌+◌, ◌^◌, nat_lt, Bool, List, [], ◌∷◌, ◌++◌, is_some, map, codes, Option, None, Some, option_and_then, option_map, if◌then◌else◌}
use Rattle.std.specs.List.{list_any}
use Rattle.std.specs.Option.{option_map_or, option_or}
use Rattle.std.specs.Str.{bytes_eq}
use Rattle.serde_json.specs.Data.{Data}
use Rattle.serde_json.specs.Find.{get, as_str, as_array, as_number, as_u64}
use Rattle.vindex.specs.KeyspaceId.{vindex_of_name}
use Rattle.filter_rule.specs.Document.{listed, is_name, in_32_bits}
use Rattle.filter_rule.specs.TypeNumbers.{type_of_name}
use Rattle.workflow_check.specs.Json.{items_in, text_said, text_at}
use Rattle.workflow_check.specs.Told.{ToldValue, told_here, told_within, item_step, quoted}

-- ---- members and items

-- told of a member by the step to it, which is to be there
abbrev pub told_in : (Data → Option ToldValue) → List ℕ → Option Data → Option ToldValue
told_in tells step None = told_within step (told_here (codes "missing"))
told_in tells step (Some d) = told_within step (tells d)

-- told of a member, if it is there
abbrev pub told_if : (Data → Option ToldValue) → List ℕ → Option Data → Option ToldValue
told_if tells step None = None
told_if tells step (Some d) = told_within step (tells d)

-- the first that is told of items, from one on
abbrev pub told_from : (Data → Option ToldValue) → ℕ → List Data → Option ToldValue
told_from tells i [] = None
told_from tells i (d ∷ ds) = option_or (told_within (item_step i) (tells d)) (told_from tells (i + 1) ds)

-- the first of some names, from one on, that stands before it, behind these
abbrev pub second_from : ℕ → List (List ℕ) → List (List ℕ) → Option ToldValue
second_from i before [] = None
second_from i before (name ∷ names) = if list_any (bytes_eq name) before then told_within (item_step i) (told_here (quoted (codes "a second") name)) else second_from (i + 1) (before ++ name ∷ []) names

-- told of a list's items
abbrev pub told_of_list : (List Data → Option ToldValue) → Option (List Data) → Option ToldValue
told_of_list tells None = told_here (codes "no list")
told_of_list tells (Some ds) = tells ds

abbrev pub values_in : Data → Option (List Data)
values_in d = option_map listed (as_array d)

-- told of each, and then of the names
abbrev pub told_of_items : (Data → Option ToldValue) → (Data → List ℕ) → List Data → Option ToldValue
told_of_items tells named ds = option_or (told_from tells 0 ds) (second_from 0 [] (map named ds))

abbrev pub list_told : (Data → Option ToldValue) → (Data → List ℕ) → Data → Option ToldValue
list_told tells named d = told_of_list (told_of_items tells named) (values_in d)

-- ---- kinds of values

abbrev pub text_told : Data → Option ToldValue
text_told d = if is_some (as_str d) then None else told_here (codes "no text")

abbrev pub told_of_name : Option (List ℕ) → Option ToldValue
told_of_name None = told_here (codes "no text")
told_of_name (Some name) = if is_name name then None else told_here (codes "no name of 1 to 256 bytes without control characters")

abbrev pub name_told : Data → Option ToldValue
name_told d = told_of_name (as_str d)

-- a type by its name, or else by its number
abbrev pub told_of_type : Option (List ℕ) → Option ℕ → Option ToldValue
told_of_type (Some name) number = if is_some (type_of_name name) then None else told_here (quoted (codes "no type") name)
told_of_type None None = told_here (codes "no type")
told_of_type None (Some number) = if nat_lt number (2 ^ 32) then None else told_here (codes "no type")

abbrev pub type_told : Data → Option ToldValue
type_told d = told_of_type (as_str d) (option_and_then as_u64 (as_number d))

abbrev pub told_of_vindex : Option (List ℕ) → Option ToldValue
told_of_vindex None = told_here (codes "no text")
told_of_vindex (Some name) = if is_some (vindex_of_name name) then None else told_here (quoted (codes "no vindex") name)

abbrev pub vindex_name_told : Data → Option ToldValue
vindex_name_told d = told_of_vindex (as_str d)

-- a list of two
abbrev pub told_of_pair : (Data → Option ToldValue) → (Data → Option ToldValue) → List Data → Option ToldValue
told_of_pair first second (a ∷ b ∷ []) = option_or (told_within (item_step 0) (first a)) (told_within (item_step 1) (second b))
told_of_pair first second _ = told_here (codes "no list of two")

abbrev pub column_told : Data → Option ToldValue
column_told d = told_of_list (told_of_pair name_told type_told) (values_in d)

abbrev pub vindex_told : Data → Option ToldValue
vindex_told d = told_of_list (told_of_pair name_told vindex_name_told) (values_in d)

-- ---- objects

abbrev pub rule_told : Data → Option ToldValue
rule_told d = option_or (told_in text_told (codes ".match") (get (codes "match") d)) (told_if text_told (codes ".filter") (get (codes "filter") d))

-- rules may be equal
abbrev pub rules_told : Data → Option ToldValue
rules_told d = told_of_list (told_from rule_told 0) (values_in d)

abbrev pub filter_told : Data → Option ToldValue
filter_told d = told_in rules_told (codes ".rules") (get (codes "rules") d)

abbrev pub stream_told : Data → Option ToldValue
stream_told d = option_or (told_in text_told (codes ".shard") (get (codes "shard") d)) (told_in filter_told (codes ".filter") (get (codes "filter") d))

-- a column's name
abbrev pub column_name_text : List Data → List ℕ
column_name_text [] = []
column_name_text (d ∷ ds) = text_said d

abbrev pub column_name : Data → List ℕ
column_name d = column_name_text (items_in d)

abbrev pub columns_told : Data → Option ToldValue
columns_told d = list_told column_told column_name d

abbrev pub key_told : Data → Option ToldValue
key_told d = list_told name_told text_said d

abbrev pub table_lists_told : Data → Option ToldValue
table_lists_told d = option_or (told_in columns_told (codes ".columns") (get (codes "columns") d)) (told_in key_told (codes ".key") (get (codes "key") d))

abbrev pub table_told : Data → Option ToldValue
table_told d = option_or (told_in name_told (codes ".name") (get (codes "name") d)) (option_or (told_if vindex_told (codes ".vindex") (get (codes "vindex") d)) (table_lists_told d))

abbrev pub tables_told : Data → Option ToldValue
tables_told d = list_told table_told (text_at (codes "name")) d

abbrev pub streams_told : Data → Option ToldValue
streams_told d = list_told stream_told (text_at (codes "shard")) d

abbrev pub file_lists_told : Data → Option ToldValue
file_lists_told d = option_or (told_in tables_told (codes "tables") (get (codes "tables") d)) (told_in streams_told (codes "streams") (get (codes "streams") d))

-- the whole file
abbrev pub shape_told : Data → Option ToldValue
shape_told d = option_or (told_in text_told (codes "keyspace") (get (codes "keyspace") d)) (file_lists_told d)
