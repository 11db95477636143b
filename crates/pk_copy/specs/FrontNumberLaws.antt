-- A key's front as one number keeps the order of keys.
use Rattle.std.specs.Prelude.{◌≡◌, ℕ, ◌<◌, ◌≤◌, ◌^◌, List, [], ◌∷◌, pos, negsuc}
use Rattle.std.proofs.Common.{inl, inr, true, false, ltb, eqb, refl, sym, ap, ◌∙◌}
use Rattle.std.proofs.lemmas.Bool.{true≢false, cond-true, lt-ltb}
use Rattle.std.proofs.lemmas.Cmp.{tied_itself}
use Rattle.std.specs.Cmp.{nat_cmp_total}
use Rattle.std.specs.Ordering.{nat_cmp, ordering_then}
use Rattle.std.specs.declared.cmp.Ordering.{Ordering}
use Rattle.std.specs.declared.cmp.Ordering.TheVariants.{Less, Equal}
use Rattle.key_front.specs.Front.{KeepsTheOrder}
use Rattle.key_front.proofs.ByteWords.{text_below, text_less}
use Rattle.key_front.proofs.LeadLaws.{parts_less, ComesFirst, none_below, natural_below, negative_below, natural_less, negative_less, upto_three}
use Rattle.pk_copy.specs.KeyValue.{Part, number, bytes, KeyValue}
use Rattle.pk_copy.specs.KeyFront.{kind_of}
use Rattle.pk_copy.specs.KeyOrder.{parts_cmp, key_cmp}
use Rattle.pk_copy.specs.FrontNumber.{head_number, front_number}

kinds_few : (parts : List Part) → kind_of parts ≤ 3
kinds_few [] = upto_three 0 refl
kinds_few (number (negsuc below) ∷ parts) = upto_three 1 refl
kinds_few (number (pos value) ∷ parts) = upto_three 2 refl
kinds_few (bytes text ∷ parts) = upto_three 3 refl

heads_below : (parts : List Part) → head_number parts < 2 ^ 54
heads_below [] = none_below
heads_below (number (negsuc below) ∷ parts) = negative_below below
heads_below (number (pos value) ∷ parts) = natural_below value
heads_below (bytes text ∷ parts) = text_below text

first_less : (o next : Ordering) → o ≡ Less → ordering_then o next ≡ Less
first_less o next less = ap (λ (first : Ordering). ordering_then first next) less

first_ties : (o next : Ordering) → o ≡ Equal → next ≡ Less → ordering_then o next ≡ Less
first_ties o next tie less = ap (λ (first : Ordering). ordering_then first next) tie ∙ less

-- a number that is not less
never : {X : Type 0} (a b : ℕ) → a < b → ltb a b ≡ false → X
never a b less not = absurd (true≢false (sym (lt-ltb a b less) ∙ not))

-- numbers that are not equal
differ : {X : Type 0} (a b : ℕ) → a ≡ b → eqb a a ≡ true → eqb a b ≡ false → X
differ a b same is not = absurd (true≢false (sym is ∙ ap (λ (n : ℕ). eqb a n) same ∙ not))

-- a lesser kind comes first
kinds_in_order : (xs ys : List Part) → kind_of xs < kind_of ys → parts_cmp xs ys ≡ Less
kinds_in_order [] [] less = never 0 0 less refl
kinds_in_order [] (y ∷ ys) less = refl
kinds_in_order (number (negsuc a) ∷ xs) [] less = never 1 0 less refl
kinds_in_order (number (negsuc a) ∷ xs) (number (negsuc b) ∷ ys) less = never 1 1 less refl
kinds_in_order (number (negsuc a) ∷ xs) (number (pos b) ∷ ys) less = refl
kinds_in_order (number (negsuc a) ∷ xs) (bytes b ∷ ys) less = refl
kinds_in_order (number (pos a) ∷ xs) [] less = never 2 0 less refl
kinds_in_order (number (pos a) ∷ xs) (number (negsuc b) ∷ ys) less = never 2 1 less refl
kinds_in_order (number (pos a) ∷ xs) (number (pos b) ∷ ys) less = never 2 2 less refl
kinds_in_order (number (pos a) ∷ xs) (bytes b ∷ ys) less = refl
kinds_in_order (bytes a ∷ xs) [] less = never 3 0 less refl
kinds_in_order (bytes a ∷ xs) (number (negsuc b) ∷ ys) less = never 3 1 less refl
kinds_in_order (bytes a ∷ xs) (number (pos b) ∷ ys) less = never 3 2 less refl
kinds_in_order (bytes a ∷ xs) (bytes b ∷ ys) less = never 3 3 less refl

-- of one kind the one with the lesser number comes first
heads_in_order : (xs ys : List Part) → kind_of xs ≡ kind_of ys → head_number xs < head_number ys → parts_cmp xs ys ≡ Less
heads_in_order [] [] same less = never 0 0 less refl
heads_in_order [] (y ∷ ys) same less = refl
heads_in_order (number (negsuc a) ∷ xs) [] same less = differ 1 0 same refl refl
heads_in_order (number (negsuc a) ∷ xs) (number (negsuc b) ∷ ys) same less = first_less _ _ (negative_less a b less)
heads_in_order (number (negsuc a) ∷ xs) (number (pos b) ∷ ys) same less = refl
heads_in_order (number (negsuc a) ∷ xs) (bytes b ∷ ys) same less = refl
heads_in_order (number (pos a) ∷ xs) [] same less = differ 2 0 same refl refl
heads_in_order (number (pos a) ∷ xs) (number (negsuc b) ∷ ys) same less = differ 2 1 same refl refl
heads_in_order (number (pos a) ∷ xs) (number (pos b) ∷ ys) same less = first_less _ _ (natural_less a b less)
heads_in_order (number (pos a) ∷ xs) (bytes b ∷ ys) same less = refl
heads_in_order (bytes a ∷ xs) [] same less = differ 3 0 same refl refl
heads_in_order (bytes a ∷ xs) (number (negsuc b) ∷ ys) same less = differ 3 1 same refl refl
heads_in_order (bytes a ∷ xs) (number (pos b) ∷ ys) same less = differ 3 2 same refl refl
heads_in_order (bytes a ∷ xs) (bytes b ∷ ys) same less = first_less _ _ (text_less a b less)

behind_tables : (x y : KeyValue) → ComesFirst x.table y.table (kind_of x.parts) (kind_of y.parts) (head_number x.parts) (head_number y.parts) → key_cmp x y ≡ Less
behind_tables x y (inl lesser) = first_less _ _ (cond-true (ltb x.table y.table) _ _ (lt-ltb x.table y.table lesser))
behind_tables x y (inr (same, inl kinds)) =
    first_ties _ _ (ap (λ (n : ℕ). nat_cmp x.table n) (sym same) ∙ tied_itself nat_cmp_total x.table) (kinds_in_order x.parts y.parts kinds)
behind_tables x y (inr (same, inr (kinds, heads))) =
    first_ties _ _ (ap (λ (n : ℕ). nat_cmp x.table n) (sym same) ∙ tied_itself nat_cmp_total x.table) (heads_in_order x.parts y.parts kinds heads)

pub front_numbers_in_order : KeepsTheOrder key_cmp front_number
front_numbers_in_order x y less =
    behind_tables x y
    (parts_less x.table y.table (kind_of x.parts) (kind_of y.parts) (head_number x.parts) (head_number y.parts)
    (kinds_few x.parts) (kinds_few y.parts) (heads_below x.parts) (heads_below y.parts) less)
