-- Statements, one behind another.
use Rattle.std.proofs.Common.{◌≡◌, ◌∙◌, ℕ, List, ◌∷◌, ◌++◌, map, sym, ap, append_assoc}
use Rattle.std.specs.List.{flat_map}

-- the text of one item more
pub pushed_more : {X Y : Type 0} (f : Y → List ℕ) (g : X → Y) (x : X) (left others : List X) (old now whole : List ℕ) → left ≡ x ∷ others → now ≡ old ++ f (g x) → old ++ flat_map f (map g left) ≡ whole → now ++ flat_map f (map g others) ≡ whole
pushed_more f g x left others old now whole is pushed so_far =
    let split : old ++ (f (g x) ++ flat_map f (map g others)) ≡ whole = sym (ap (λ l. old ++ flat_map f (map g l)) is) ∙ so_far in
    ap (λ (l : List ℕ). l ++ flat_map f (map g others)) pushed ∙ append_assoc old (f (g x)) (flat_map f (map g others)) ∙ split
