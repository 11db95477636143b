-- The parts of a key, walked from the front.
use Rattle.std.proofs.Common.{◌≡◌, ◌∙◌, ap, ℕ, ◌+◌, ◌<◌, List, [], ◌∷◌, ◌++◌, ◌≤◌, refl, arith, length, length-drop, take, drop, get_or, map}
use Rattle.std.proofs.lemmas.List.{drop_more, take_all}
use Rattle.std.specs.Prelude.{◌-◌}
use Rattle.std.proofs.lemmas.List.Concat.{flat_map-cons}
use Rattle.pk_copy.specs.KeyValue.{Part}
use Rattle.pk_copy.specs.PartValue.{part_value}
use Rattle.pk_copy.specs.declared.part.KeyPart.{KeyPart}
use Rattle.dump.specs.KeyText.{part_cell, more_parts, parts_text}

-- the first of the parts that are left
pub first_part : (xs : List KeyPart) (k : ℕ) (default : KeyPart) → k < length xs
    → more_parts (map part_value (drop k xs)) ≡ (44 ∷ part_cell (part_value (get_or xs k default))) ++ more_parts (map part_value (drop (k + 1) xs))
first_part xs k default lt =
    ap (λ (ys : List KeyPart). more_parts (map part_value ys)) (drop_more xs k default lt)
    ∙ flat_map-cons (λ (part : Part). 44 ∷ part_cell part) (part_value (get_or xs k default)) (map part_value (drop (k + 1) xs))

-- the first part and those behind it
behind_first : (xs : List KeyPart) (default : KeyPart) → 1 ≤ length xs
    → parts_text (map part_value xs) ≡ part_cell (part_value (get_or xs 0 default)) ++ more_parts (map part_value (drop 1 xs))
behind_first [] default le = absurd (omega arith)
behind_first (x ∷ xs) default le = refl

pub parts_split : (xs : List KeyPart) (default : KeyPart) → 1 ≤ length xs
    → parts_text (map part_value xs) ≡ part_cell (part_value (get_or xs 0 default)) ++ more_parts (map part_value (take (length xs - 1) (drop 1 xs)))
parts_split xs default le =
    let whole : take (length xs - 1) (drop 1 xs) ≡ drop 1 xs = take_all (length xs - 1) (drop 1 xs) (omega (arith, length-drop 1 xs)) in
    rw whole (behind_first xs default le)
