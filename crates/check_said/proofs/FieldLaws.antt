-- Columns that a FIELD hasn't.
use Rattle.std.proofs.Common.{◌≡◌, ap, ◌∙◌, ℕ, ◌<◌, List, [], length, drop, Some, None}
use Rattle.std.proofs.lemmas.List.{drop_more}
use Rattle.row_view.specs.FieldValue.{FieldValue}
use Rattle.check_said.specs.Differing.{first_differing}

pub missing : (place : ℕ) (columns : List FieldValue) (fields : List FieldValue) → place < length columns → fields ≡ [] → first_differing place (drop place columns) fields ≡ Some (place, None)
missing place columns fields lt none =
    let other : FieldValue = record { name = []; type_number = 0 } in
    ap (λ (fs : List FieldValue). first_differing place (drop place columns) fs) none
    ∙ ap (λ (cs : List FieldValue). first_differing place cs []) (drop_more columns place other lt)
