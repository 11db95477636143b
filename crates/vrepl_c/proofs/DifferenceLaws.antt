-- The bytes of the first differences, one behind the other.
use Rattle.std.proofs.Common.{◌≡◌, ◌∙◌, ℕ, ◌+◌, ◌<◌, List, [], ◌∷◌, ◌++◌, refl, sym, ap, append_assoc, append-nil}
use Rattle.std.proofs.lemmas.List.Concat.{flat_map-append}
use Rattle.filter_rule.specs.PlanTable.{TableValue}
use Rattle.pk_copy.specs.KeyOrder.{key_cmp}
use Rattle.target_tables.specs.Rising.{IsRising}
use Rattle.dump.specs.DumpRowsValue.{DumpRowsValue}
use Rattle.vdiff.specs.Differences.{Difference}
use Rattle.vdiff.specs.Found.{IsNextDifference}
use Rattle.vdiff.proofs.DifferenceLaws.{AreFoundTo, found_more, found_none}
use Rattle.vrepl_c.specs.Dumps.{difference_bytes, differences_bytes}

-- so many are found and their bytes added
pub record AreAddedTo (tables : List TableValue) (n i : ℕ) (source target left right : DumpRowsValue) (old now : List ℕ) : Type 0 where
  pub found : List Difference
  pub are_found : AreFoundTo n i source target left right found
  pub added : now ≡ old ++ differences_bytes tables found

pub adding_none : (tables : List TableValue) (n : ℕ) (source target : DumpRowsValue) (now : List ℕ) → IsRising key_cmp source → IsRising key_cmp target → AreAddedTo tables n 0 source target source target now now
adding_none tables n source target now rising rises = record { found = []; are_found = found_none n source target rising rises; added = sym (append-nil now) }

-- the bytes of one more
one_more : (tables : List TableValue) (found : List Difference) (least : Difference) → differences_bytes tables (found ++ least ∷ []) ≡ differences_bytes tables found ++ difference_bytes tables least
one_more tables found least = flat_map-append (difference_bytes tables) found (least ∷ []) ∙ ap (λ (l : List ℕ). differences_bytes tables found ++ l) (append-nil (difference_bytes tables least))

pub adding_more : (tables : List TableValue) (n i : ℕ) (source target left right : DumpRowsValue) (old now new : List ℕ) (least : Difference) (lefts rights : DumpRowsValue) → AreAddedTo tables n i source target left right old now
    → i < n → IsNextDifference left right least lefts rights → new ≡ now ++ difference_bytes tables least → AreAddedTo tables n (i + 1) source target lefts rights old new
adding_more tables n i source target left right old now new least lefts rights so_far lt next is = record {
  found = so_far.found ++ least ∷ [];
  are_found = found_more n i source target left right so_far.found least lefts rights lt so_far.are_found next;
  added = is ∙ ap (λ (l : List ℕ). l ++ difference_bytes tables least) so_far.added ∙ append_assoc old (differences_bytes tables so_far.found) (difference_bytes tables least) ∙ ap (λ (l : List ℕ). old ++ l) (sym (one_more tables so_far.found least));
}
