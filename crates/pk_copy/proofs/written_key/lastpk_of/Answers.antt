use Rattle.std.proofs.Common.{◌≡◌, ℕ, List, [], ◌∷◌, map, Option, Some, refl, sym, ap, ◌∙◌}
use Rattle.pk_copy.specs.KeyValue.{Part}
use Rattle.pk_copy.specs.Lastpk.{part_text}
use Rattle.pk_copy.specs.PartTextValue.{text_value}
use Rattle.pk_copy.proofs.written_key.lastpk_of.Goals as goal

some_each : {A : Type 0} (f : A → List ℕ) (xs : List A) → map (λ x. Some (f x)) xs ≡ map (λ (t : List ℕ). Some t) (map f xs)
some_each f [] = refl
some_each f (x ∷ xs) = ap (λ (rest : List (Option (List ℕ))). Some (f x) ∷ rest) (some_each f xs)

pub returns-in-Some : goal.returns-in-Some
returns-in-Some c =
    let texts = c.in_ok-texts.texts.items in
    let parts = c.args.key.now.parts in
    let held : map text_value texts ≡ map part_text parts = c.in_ok-texts.ensures ∙ ap (λ (ps : List Part). map part_text ps) c.parts.ensures.parts in
    let columns = rw c.as_slice.ensures.value at c.in_ok-columns.ensures in
    let row = rw (c.in-Some.is, c.as_slice-2.ensures.value) at c.in_ok-made.ensures.row in
    row ∙ columns ∙ some_each text_value texts ∙ ap (λ (ts : List (List ℕ)). map (λ (t : List ℕ). Some t) ts) held ∙ sym (some_each part_text parts)
