-- Equality of rows, and the rows of a map under one stream.
use Rattle.std.proofs.Common.{◌≡◌, ◌↔◌, ◌==◌, ℕ, Bool, true, false, cond, List, Option, Some, None, refl, ap, sym, ◌∙◌}
use Rattle.std.specs.Prelude.{IfSome, IsTrue}
use Rattle.std.specs.Bool.{Decides}
use Rattle.std.specs.Option.{option_map}
use Rattle.std.specs.Ordering.{eq_by_cmp}
use Rattle.std.proofs.lemmas.Map.Made.{lookup-map_values}
use Rattle.vdiff.proofs.ReportLaws.{row_eq-Decides}
use Rattle.pk_copy.specs.KeyOrder.{key_cmp}
use Rattle.pk_copy.specs.KeyValue.{KeyValue}
use Rattle.target_tables.specs.Contents.{value_at}
use Rattle.target_tables.specs.Touches.{last_at, touched, IsTouched}
use Rattle.vdiff.specs.Report.{row_eq}
use Rattle.source_feed.specs.History.{RowValue}
use Rattle.feed_check.specs.Replay.{left_at}
use Rattle.feed_check.specs.Private.Replayed.{Entries, rows_of, AreOwn, row_in}

both : {P : Type 0} (r q : Bool) → (IsTrue r ↔ P) → Decides q P → r ≡ q
both true true h d = refl
both false false h d = refl
both true false h d = let no : false ≡ true = d.1 (h.0 refl) in cc
both false true h d = let no : false ≡ true = h.1 (d.0 refl) in cc

-- what answers so is the test
pub same_rows : (a b : RowValue) (r : Bool) → (IsTrue r ↔ (a ≡ b)) → r ≡ row_eq a b
same_rows a b r h = both r (row_eq a b) h (row_eq-Decides a b)

-- ---- one key of the rows

pub row_in-rows_of : {R : Type 0} (entries : Entries R) (k : KeyValue) → row_in (rows_of entries) k ≡ option_map (λ there. there.1) (value_at key_cmp entries k)
row_in-rows_of entries k = lookup-map_values (λ there. there.1) (eq_by_cmp key_cmp k) entries

touched-own : {R : Type 0} (t : Option (Option R)) (there : Option (ℕ × R)) → IfSome there (λ x. x.0 ≡ 0)
    → option_map (λ x. x.1) (touched 0 t there) ≡ left_at t (option_map (λ x. x.1) there)
touched-own None there own = refl
touched-own (Some (Some row)) there own = refl
touched-own (Some None) None own = refl
touched-own {R} (Some None) (Some there) own = ap (λ n. option_map (λ (x : ℕ × R). x.1) (cond (n == 0) None (Some there))) own

-- what touches leave at each key
pub rows_after : {R : Type 0} (old new : Entries R) (touches : List (KeyValue × Option R)) (before : List (KeyValue × R)) → rows_of old ≡ before
    → AreOwn old → IsTouched key_cmp old 0 (last_at key_cmp touches) new
    → (k : KeyValue) → row_in (rows_of new) k ≡ left_at (last_at key_cmp touches k) (row_in before k)
rows_after {R} old new touches before seen own h k =
    row_in-rows_of new k
    ∙ ap (λ (v : Option (ℕ × R)). option_map (λ x. x.1) v) (h k)
    ∙ touched-own (last_at key_cmp touches k) (value_at key_cmp old k) (own k)
    ∙ ap (λ (v : Option R). left_at (last_at key_cmp touches k) v) (sym (row_in-rows_of old k))
    ∙ ap (λ (rows : List (KeyValue × R)). left_at (last_at key_cmp touches k) (row_in rows k)) seen

-- a row that was found is the one that stands
pub row_found : {R : Type 0} (entries : Entries R) (before : List (KeyValue × R)) (k : KeyValue) (found : Option R) → rows_of entries ≡ before
    → found ≡ option_map (λ there. there.1) (value_at key_cmp entries k) → found ≡ row_in before k
row_found {R} entries before k found seen e = e ∙ sym (row_in-rows_of entries k) ∙ ap (λ (rows : List (KeyValue × R)). row_in rows k) seen
