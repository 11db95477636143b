-- The members of a workflow file that aren't read (this profile): an object's members of any other name than those
-- that an object in its place has.
use Rattle.std.specs.Prelude.{ℕ, ◌+◌, ◌||◌, Bool, List, [], ◌∷◌, ◌++◌, codes, Option, None, Some, if◌then◌else◌}
use Rattle.std.specs.Option.{option_map_or}
use Rattle.std.specs.Str.{bytes_eq}
use Rattle.serde_json.specs.Data.{Data, Members, no_members, member}
use Rattle.serde_json.specs.Find.{get, as_object}
use Rattle.workflow_check.specs.Json.{items_at}
use Rattle.workflow_check.specs.Notes.{NoteValue, item_place}
use Rattle.workflow_check.specs.declared.ignored.Object.{Object}
use Rattle.workflow_check.specs.declared.ignored.Object.TheVariants.{File, Table, Stream, Filter, Rule}
use Rattle.workflow_check.specs.declared.note.Flaw.TheVariants.{Ignored}

-- the members that are read
abbrev pub has_meaning : Object → List ℕ → Bool
has_meaning File key = bytes_eq key (codes "keyspace") || bytes_eq key (codes "tables") || bytes_eq key (codes "streams") || bytes_eq key (codes "vindexes")
has_meaning Table key = bytes_eq key (codes "name") || bytes_eq key (codes "columns") || bytes_eq key (codes "key") || bytes_eq key (codes "vindex")
has_meaning Stream key = bytes_eq key (codes "shard") || bytes_eq key (codes "filter")
has_meaning Filter key = bytes_eq key (codes "rules")
has_meaning Rule key = bytes_eq key (codes "match") || bytes_eq key (codes "filter")

abbrev pub ignored_at : List ℕ → NoteValue
ignored_at place = record { place = place; flaw = Ignored; table = [] }

-- a member, if it is another
abbrev pub other_member : Object → List ℕ → List ℕ → List NoteValue
other_member object path key = if has_meaning object key then [] else ignored_at (path ++ key) ∷ []

-- the others of some members, behind a path
abbrev pub others_of : Object → List ℕ → Members → List NoteValue
others_of object path no_members = []
others_of object path (member key d ms) = other_member object path key ++ others_of object path ms

-- those of a value, if it is an object
abbrev pub others_in : Object → List ℕ → Data → List NoteValue
others_in object path d = option_map_or (others_of object path) (as_object d) []

-- the path of a member of an item
abbrev pub in_item : List ℕ → ℕ → List ℕ
in_item list i = item_place list i ++ codes "."

-- ---- each object in its place

-- the rules of the list at a path, from one on
abbrev pub rules_ignored : List ℕ → ℕ → List Data → List NoteValue
rules_ignored list j [] = []
rules_ignored list j (d ∷ ds) = others_in Rule (in_item list j) d ++ rules_ignored list (j + 1) ds

-- a stream's filter, behind the stream's path
abbrev pub filter_others : List ℕ → Data → List NoteValue
filter_others path d = others_in Filter (path ++ codes "filter.") d ++ rules_ignored (path ++ codes "filter.rules") 0 (items_at (codes "rules") d)

abbrev pub filter_ignored : List ℕ → Option Data → List NoteValue
filter_ignored path None = []
filter_ignored path (Some d) = filter_others path d

abbrev pub stream_ignored : List ℕ → Data → List NoteValue
stream_ignored path d = others_in Stream path d ++ filter_ignored path (get (codes "filter") d)

-- the streams from one on
abbrev pub streams_ignored : ℕ → List Data → List NoteValue
streams_ignored i [] = []
streams_ignored i (d ∷ ds) = stream_ignored (in_item (codes "streams") i) d ++ streams_ignored (i + 1) ds

-- the tables from one on
abbrev pub tables_ignored : ℕ → List Data → List NoteValue
tables_ignored i [] = []
tables_ignored i (d ∷ ds) = others_in Table (in_item (codes "tables") i) d ++ tables_ignored (i + 1) ds

-- the whole file
abbrev pub ignored_in : Data → List NoteValue
ignored_in d = others_in File [] d ++ (tables_ignored 0 (items_at (codes "tables") d) ++ streams_ignored 0 (items_at (codes "streams") d))
