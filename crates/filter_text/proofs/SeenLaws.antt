-- Columns that were seen, and those that are left.
use Rattle.std.proofs.Common.{◌≡◌, ℕ, List, [], ◌∷◌, Bool, true, false, cond, refl, sym, ap, ap₂, ◌∙◌}
use denote.Ref.{Bor}
use Rattle.std.specs.Cmp.Lexicographic.{slice_cmp}
use Rattle.std.specs.List.{list_any}
use Rattle.std.specs.Ordering.{nat_cmp, is_eq}
use Rattle.std.specs.Prelude.{not, ◌||◌}
use Rattle.std.specs.Str.{bytes_eq}
use Rattle.std.proofs.lemmas.Map.Text.{is_eq-slice_cmp}
use Rattle.std.proofs.lemmas.Slice.Eq.{bytes_eq-Decides}
use Rattle.filter_text.specs.ColumnList.{has_column, has_twice}

-- whether the keys of a tree have a name
abbrev pub has_key : List (Bor (List ℕ)) → List ℕ → Bool
has_key keys name = list_any (λ key. is_eq (slice_cmp nat_cmp name key.now)) keys

-- whether one of the columns was seen
abbrev pub has_seen : List (Bor (List ℕ)) → List (List ℕ) → Bool
has_seen keys [] = false
has_seen keys (column ∷ columns) = has_key keys column || has_seen keys columns

pub none_seen : (columns : List (List ℕ)) → has_seen [] columns ≡ false
none_seen [] = refl
none_seen (column ∷ columns) = none_seen columns

equal : (b c : Bool) → (b ≡ true → c ≡ true) → (c ≡ true → b ≡ true) → b ≡ c
equal true c f g = sym (f refl)
equal false true f g = g refl
equal false false f g = refl

turned : (s t : List ℕ) → bytes_eq s t ≡ true → bytes_eq t s ≡ true
turned s t e = (bytes_eq-Decides t s).1 (sym ((bytes_eq-Decides s t).0 e))

either_way : (s t : List ℕ) → bytes_eq s t ≡ bytes_eq t s
either_way s t = equal (bytes_eq s t) (bytes_eq t s) (turned s t) (turned t s)

one_more : (b c d e : Bool) → (cond b true c || (d || e)) ≡ ((c || d) || (b || e))
one_more true true d e = refl
one_more true false true e = refl
one_more true false false e = refl
one_more false true d e = refl
one_more false false true true = refl
one_more false false true false = refl
one_more false false false true = refl
one_more false false false false = refl

-- the keys have one name more
abbrev pub HasMore : List (Bor (List ℕ)) → List (Bor (List ℕ)) → Bor (List ℕ) → Type 0
HasMore keys grown one = (q : Bor (List ℕ)) → has_key grown q.now ≡ cond (is_eq (slice_cmp nat_cmp one.now q.now)) true (has_key keys q.now)

-- behind it, a column was seen that was seen before or has the name
seen_more : (keys grown : List (Bor (List ℕ))) (one : Bor (List ℕ)) → HasMore keys grown one → (columns : List (List ℕ)) → has_seen grown columns ≡ (has_seen keys columns || has_column one.now columns)
seen_more keys grown one more [] = refl
seen_more keys grown one more (column ∷ columns) =
    let here : has_key grown column ≡ cond (bytes_eq column one.now) true (has_key keys column) =
    more (record { ref_ptr = one.ref_ptr; now = column }) ∙ ap (λ b. cond b true (has_key keys column)) (is_eq-slice_cmp one.now column ∙ either_way one.now column) in
    ap₂ (λ b c. b || c) here (seen_more keys grown one more columns) ∙ one_more (bytes_eq column one.now) (has_key keys column) (has_seen keys columns) (has_column one.now columns)

parted : (a b c d : Bool) → a ≡ false → ((a || b) || (c || d)) ≡ ((b || c) || d)
parted true b c d e = cc
parted false true c d e = refl
parted false false c d e = refl

not_is : (b c : Bool) → c ≡ not b → c ≡ true → b ≡ false
not_is true c e h = cc
not_is false c e h = refl

is_not : (b c : Bool) → c ≡ not b → c ≡ false → b ≡ true
is_not true c e h = refl
is_not false c e h = cc

pub seen_turn : (keys grown : List (Bor (List ℕ))) (one : Bor (List ℕ)) (is_new whole : Bool) (columns left : List (List ℕ)) → columns ≡ one.now ∷ left → is_new ≡ not (has_key keys one.now) → is_new ≡ true
    → HasMore keys grown one → whole ≡ (has_seen keys columns || has_twice columns) → whole ≡ (has_seen grown left || has_twice left)
seen_turn keys grown one is_new whole columns left is new so more so_far =
    let none : has_key keys one.now ≡ false = not_is (has_key keys one.now) is_new new so in
    so_far ∙ ap (λ cs. has_seen keys cs || has_twice cs) is
    ∙ parted (has_key keys one.now) (has_seen keys left) (has_column one.now left) (has_twice left) none
    ∙ ap (λ b. b || has_twice left) (sym (seen_more keys grown one more left))

pub seen_twice : (keys : List (Bor (List ℕ))) (one : Bor (List ℕ)) (is_new whole : Bool) (columns left : List (List ℕ)) → columns ≡ one.now ∷ left → is_new ≡ not (has_key keys one.now) → is_new ≡ false
    → whole ≡ (has_seen keys columns || has_twice columns) → true ≡ whole
seen_twice keys one is_new whole columns left is new so so_far =
    let some : has_key keys one.now ≡ true = is_not (has_key keys one.now) is_new new so in
    sym (so_far ∙ ap (λ cs. has_seen keys cs || has_twice cs) is ∙ ap (λ b. (b || has_seen keys left) || (has_column one.now left || has_twice left)) some)

pub seen_first : (keys : List (Bor (List ℕ))) (columns left : List (List ℕ)) → keys ≡ [] → left ≡ columns → has_twice columns ≡ (has_seen keys left || has_twice left)
seen_first keys columns left none same = sym (ap (λ ks. has_seen ks left || has_twice left) none ∙ ap (λ b. b || has_twice left) (none_seen left) ∙ ap has_twice same)
