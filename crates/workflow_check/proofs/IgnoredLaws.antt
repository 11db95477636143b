-- The members of an object, one after another.
use Rattle.std.proofs.Common.{◌≡◌, ℕ, List, ◌∷◌, ◌++◌, string_bytes, ap, sym, ◌∙◌, append_assoc}
use Rattle.serde_json.specs.View.{members_view}
use Rattle.serde_json.proofs.Views.{Entry}
use Rattle.workflow_check.specs.Ignored.{other_member, others_of}
use Rattle.workflow_check.specs.Notes.{NoteValue}
use Rattle.workflow_check.specs.declared.ignored.Object.{Object}

-- one more
pub others-more : (object : Object) (path key : List ℕ) (es left : List Entry) (e : Entry) (before after whole : List NoteValue)
    → es ≡ e ∷ left → key ≡ string_bytes e.0 → after ≡ before ++ other_member object path key
    → before ++ others_of object path (members_view es) ≡ whole → after ++ others_of object path (members_view left) ≡ whole
others-more object path key es left e before after whole front named pushed h =
    ap (λ (ns : List NoteValue). ns ++ others_of object path (members_view left)) pushed
    ∙ append_assoc before (other_member object path key) (others_of object path (members_view left))
    ∙ ap (λ k. before ++ (other_member object path k ++ others_of object path (members_view left))) named
    ∙ ap (λ (xs : List Entry). before ++ others_of object path (members_view xs)) (sym front)
    ∙ h
