-- Of what is told of a file what is a fault, and what may well be so.
use Rattle.std.proofs.Common.{◌≡◌, ℕ, ◌+◌, Bool, true, false, cond, List, [], ◌∷◌, ◌++◌, Option, Some, None, refl}
use Rattle.std.specs.Prelude.{codes, is_some}
use Rattle.std.specs.List.{AllByRecursion}
use Rattle.std.specs.Option.{option_map_or}
use Rattle.list_laws.proofs.Fronts.{All-append}
use Rattle.serde_json.specs.Data.{Data, Members, no_members, member}
use Rattle.serde_json.specs.Find.{get, as_object}
use Rattle.filter_rule.specs.Document.{RuleSaid}
use Rattle.workflow_check.specs.Ignored.{has_meaning, ignored_at, other_member, others_of, others_in, in_item, rules_ignored, filter_others, filter_ignored, stream_ignored, streams_ignored, tables_ignored, ignored_in}
use Rattle.workflow_check.specs.Json.{items_at}
use Rattle.workflow_check.specs.Notes.{NoteValue, may_stand, item_place}
use Rattle.workflow_check.specs.Ranges.{undecided_at, undecided_by, undecided_in, is_untiled, untiled_at, untiled_in}
use Rattle.workflow_check.specs.Rules.{rules_in, first_rule, has_match, unmatched_at, unmatched_from, unmatched_in}
use Rattle.workflow_check.specs.declared.ignored.Object.{Object}
use Rattle.workflow_check.specs.declared.ignored.Object.TheVariants.{File, Table, Stream, Filter, Rule}

abbrev pub IsFault : NoteValue → Type 0
IsFault note = may_stand note.flaw ≡ false

abbrev pub MayStand : NoteValue → Type 0
MayStand note = may_stand note.flaw ≡ true

abbrev pub AreFaults : List NoteValue → Type 0
AreFaults notes = AllByRecursion IsFault notes

abbrev pub AllMayStand : List NoteValue → Type 0
AllMayStand notes = AllByRecursion MayStand notes

both : (xs ys : List NoteValue) → AreFaults xs → AreFaults ys → AreFaults (xs ++ ys)
both xs ys h k = All-append IsFault xs ys h k

unless : (b : Bool) (note : NoteValue) → IsFault note → AreFaults (cond b [] (note ∷ []))
unless true note is = tt
unless false note is = (is, tt)

where_true : (b : Bool) (note : NoteValue) → IsFault note → AreFaults (cond b (note ∷ []) [])
where_true true note is = (is, tt)
where_true false note is = tt

stand_unless : (b : Bool) (note : NoteValue) → MayStand note → AllMayStand (cond b [] (note ∷ []))
stand_unless true note is = tt
stand_unless false note is = (is, tt)

-- ---- members that aren't read

of_members : (object : Object) (path : List ℕ) (ms : Members) → AreFaults (others_of object path ms)
of_members object path no_members = tt
of_members object path (member key d ms) =
    both (other_member object path key) (others_of object path ms) (unless (has_meaning object key) (ignored_at (path ++ key)) refl) (of_members object path ms)

of_value : (object : Object) (path : List ℕ) (d : Data) → AreFaults (others_in object path d)
of_value object path d = by (as_object d)
  where
    by : (o : Option Members) → AreFaults (option_map_or (others_of object path) o [])
    by None = tt
    by (Some ms) = of_members object path ms

of_rules : (list : List ℕ) (j : ℕ) (ds : List Data) → AreFaults (rules_ignored list j ds)
of_rules list j [] = tt
of_rules list j (d ∷ ds) = both (others_in Rule (in_item list j) d) (rules_ignored list (j + 1) ds) (of_value Rule (in_item list j) d) (of_rules list (j + 1) ds)

of_filter : (path : List ℕ) (o : Option Data) → AreFaults (filter_ignored path o)
of_filter path None = tt
of_filter path (Some d) =
    both (others_in Filter (path ++ codes "filter.") d) (rules_ignored (path ++ codes "filter.rules") 0 (items_at (codes "rules") d))
    (of_value Filter (path ++ codes "filter.") d) (of_rules (path ++ codes "filter.rules") 0 (items_at (codes "rules") d))

of_streams : (i : ℕ) (ds : List Data) → AreFaults (streams_ignored i ds)
of_streams i [] = tt
of_streams i (d ∷ ds) =
    let path = in_item (codes "streams") i in
    both (stream_ignored path d) (streams_ignored (i + 1) ds)
    (both (others_in Stream path d) (filter_ignored path (get (codes "filter") d)) (of_value Stream path d) (of_filter path (get (codes "filter") d)))
    (of_streams (i + 1) ds)

of_tables : (i : ℕ) (ds : List Data) → AreFaults (tables_ignored i ds)
of_tables i [] = tt
of_tables i (d ∷ ds) =
    let path = in_item (codes "tables") i in
    both (others_in Table path d) (tables_ignored (i + 1) ds) (of_value Table path d) (of_tables (i + 1) ds)

pub ignored-faults : (d : Data) → AreFaults (ignored_in d)
ignored-faults d =
    let tables = tables_ignored 0 (items_at (codes "tables") d) in
    let streams = streams_ignored 0 (items_at (codes "streams") d) in
    both (others_in File [] d) (tables ++ streams) (of_value File [] d) (both tables streams (of_tables 0 (items_at (codes "tables") d)) (of_streams 0 (items_at (codes "streams") d)))

-- ---- rules, tables and ranges

unmatched_one : (tables : List (List ℕ)) (list : List ℕ) (j : ℕ) (rules : List RuleSaid) → AreFaults (unmatched_from tables list j rules)
unmatched_one tables list j [] = tt
unmatched_one tables list j (rule ∷ rules) =
    let note = unmatched_at (item_place list j) in
    both (cond (has_match tables rule) [] (note ∷ [])) (unmatched_from tables list (j + 1) rules) (unless (has_match tables rule) note refl) (unmatched_one tables list (j + 1) rules)

pub unmatched-faults : (tables : List (List ℕ)) (i : ℕ) (streams : List Data) → AreFaults (unmatched_in tables i streams)
unmatched-faults tables i [] = tt
unmatched-faults tables i (stream ∷ streams) =
    let list = in_item (codes "streams") i ++ codes "filter.rules" in
    both (unmatched_from tables list 0 (rules_in stream)) (unmatched_in tables (i + 1) streams) (unmatched_one tables list 0 (rules_in stream)) (unmatched-faults tables (i + 1) streams)

pub untiled-faults : (streams : List Data) (i : ℕ) (tables : List Data) → AreFaults (untiled_in streams i tables)
untiled-faults streams i [] = tt
untiled-faults streams i (table ∷ tables) =
    let note = untiled_at (item_place (codes "tables") i) in
    both (cond (is_untiled table streams) (note ∷ []) []) (untiled_in streams (i + 1) tables) (where_true (is_untiled table streams) note refl) (untiled-faults streams (i + 1) tables)

undecided_one : (rules : List RuleSaid) (place : List ℕ) (tables : List (List ℕ)) → AllMayStand (undecided_by rules place tables)
undecided_one rules place [] = tt
undecided_one rules place (table ∷ tables) =
    let note = undecided_at place table in
    let test = is_some (first_rule rules table) in
    All-append MayStand (cond test [] (note ∷ [])) (undecided_by rules place tables) (stand_unless test note refl) (undecided_one rules place tables)

pub undecided-stand : (tables : List (List ℕ)) (i : ℕ) (streams : List Data) → AllMayStand (undecided_in tables i streams)
undecided-stand tables i [] = tt
undecided-stand tables i (stream ∷ streams) =
    let place = item_place (codes "streams") i in
    All-append MayStand (undecided_by (rules_in stream) place tables) (undecided_in tables (i + 1) streams) (undecided_one (rules_in stream) place tables) (undecided-stand tables (i + 1) streams)
