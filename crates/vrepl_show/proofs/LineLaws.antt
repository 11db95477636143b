-- The lines of groups, where columns have the same names.
use Rattle.std.proofs.Common.{◌≡◌, ◌∙◌, ℕ, List, [], ◌∷◌, ◌++◌, map, refl, ap, ap₂}
use Rattle.std.specs.Prelude.{codes, Result}
use Rattle.gtid_set.specs.Printed.{printed_position}
use Rattle.row_view.specs.FieldValue.{FieldValue}
use Rattle.serde_json.specs.Data.{Data, array, number, string, object, no_members, member, unsigned}
use Rattle.serde_json.specs.View.{items_of}
use Rattle.list_laws.specs.Outcome as outcome
use Rattle.source_feed.specs.FaultNumber as feed
use Rattle.source_feed.specs.GroupValue.{TableChangeValue, GroupValue}
use Rattle.source_feed.specs.declared.fault.FeedFault.{FeedFault}
use Rattle.source_feed.specs.declared.fault.FeedFault.TheVariants as fault
use Rattle.show_json.specs.Text.{NamedTables, change_data, group_data, json_line, json_text_of}
use Rattle.show_json.specs.Values.{side_data}
use Rattle.vrepl_main.specs.Reasons.{RefusesInputs}
use Rattle.vrepl_main.specs.RefusalOf.{refusal_of_feed}
use Rattle.vrepl_show.specs.ShowJson.{json_groups}

same-change : (one other : NamedTables) → ((table : List ℕ) → one table ≡ other table) → (change : TableChangeValue) → change_data one change ≡ change_data other change
same-change one other same change =
    ap (λ (columns : List FieldValue). object (member (codes "after") (side_data columns change.after) (member (codes "before") (side_data columns change.before) (member (codes "table") (string change.table) no_members)))) (same change.table)

same-changes : (one other : NamedTables) → ((table : List ℕ) → one table ≡ other table) → (changes : List TableChangeValue) → map (change_data one) changes ≡ map (change_data other) changes
same-changes one other same [] = refl
same-changes one other same (change ∷ changes) = ap₂ (λ (x : Data) (xs : List Data). x ∷ xs) (same-change one other same change) (same-changes one other same changes)

same-group : (one other : NamedTables) → ((table : List ℕ) → one table ≡ other table) → (group : GroupValue) → group_data one group ≡ group_data other group
same-group one other same group =
    ap (λ (changes : List Data). object (member (codes "changes") (array (items_of changes)) (member (codes "group") (number (unsigned group.number)) (member (codes "position") (string (printed_position group.position)) no_members))))
    (same-changes one other same group.changes)

pub same-lines : (one other : NamedTables) → ((table : List ℕ) → one table ≡ other table) → (groups : List GroupValue) → json_text_of one groups ≡ json_text_of other groups
same-lines one other same [] = refl
same-lines one other same (group ∷ groups) = ap₂ (λ (x xs : List ℕ). x ++ xs) (ap json_line (same-group one other same group)) (same-lines one other same groups)

-- a feed that is refused has no lines
pub refuses-lines : (tables : NamedTables) (given : FeedFault) (reading : Result (List GroupValue) FeedFault) → outcome.Refuses feed.meant_of given reading → RefusesInputs (refusal_of_feed given) (json_groups tables reading)
refuses-lines tables fault.Memory reading is = tt
refuses-lines tables other reading is = ap (json_groups tables) is
