-- Making the changes of a group one after another.
use Rattle.std.proofs.Common.{◌≡◌, ℕ, ◌+◌, ◌-◌, ◌<◌, ◌≤◌, Bool, true, false, cond, List, [], ◌∷◌, ◌++◌, Option, Some, None, Ordering, length, take, get_or, refl, sym, ap, ◌∙◌, add_assoc, arith}
use Rattle.std.proofs.lemmas.List.{take-take, take-set, take_more}
use Rattle.std.specs.List.{swap_remove}
use Rattle.std.proofs.lemmas.Cmp.{tied_back, tied_itself}
use Rattle.std.specs.declared.cmp.Ordering.TheVariants.{Less, Equal, Greater}
use Rattle.std.specs.Cmp.{IsTotalOrder}
use Rattle.std.specs.Option.{option_or}
use Rattle.std.specs.Ordering.{is_eq, eq_by_cmp, flip_args}
use Rattle.list_laws.proofs.Choices.{or_none}
use Rattle.target_tables.specs.Rising.{IsRising, AreAbove}
use Rattle.target_tables.specs.Contents.{value_at}
use Rattle.target_tables.specs.Touches.{change_at, touched, is_new, new_keys, IsTouched, IsChanged}
use Rattle.target_tables.specs.Private.Runs.{Leads}
use Rattle.target_tables.proofs.Order.{before_middle, ordered_left}
use Rattle.target_tables.proofs.Values.{lookup-append, none_above, isnt_key}

pub new_keys-push : {K R : Type 0} (cmp : K → K → Ordering) (entries : List (K × (ℕ × R))) (xs : List (K × Option R)) (x : K × Option R)
    → new_keys cmp entries (xs ++ x ∷ []) ≡ new_keys cmp entries xs + cond (is_new x.1 (value_at cmp entries x.0)) 1 0
new_keys-push cmp entries [] x = omega arith
new_keys-push cmp entries (y ∷ xs) x =
    ap (λ n. cond (is_new y.1 (value_at cmp entries y.0)) 1 0 + n) (new_keys-push cmp entries xs x)
    ∙ sym (add_assoc (cond (is_new y.1 (value_at cmp entries y.0)) 1 0) (new_keys cmp entries xs) (cond (is_new x.1 (value_at cmp entries x.0)) 1 0))

bit_most : (b : Bool) → cond b 1 0 ≤ 1
bit_most true = omega arith
bit_most false = omega arith

-- at most each change puts a row at a new key
pub new_keys-most : {K R : Type 0} (cmp : K → K → Ordering) (entries : List (K × (ℕ × R))) (xs : List (K × Option R)) → new_keys cmp entries xs ≤ length xs
new_keys-most cmp entries [] = omega arith
new_keys-most cmp entries (x ∷ xs) =
    let one : cond (is_new x.1 (value_at cmp entries x.0)) 1 0 ≤ 1 = bit_most (is_new x.1 (value_at cmp entries x.0)) in
    let later : new_keys cmp entries xs ≤ length xs = new_keys-most cmp entries xs in
    omega arith

-- what stands before an element stays where the last one takes the element's place
pub take_swapped : {X : Type 0} (xs : List X) (i : ℕ) (d : X) → i < length xs → take i (swap_remove xs i d) ≡ take i xs
take_swapped xs i d h = take-take i (length xs - 1) _ (omega arith) ∙ take-set xs i _

-- the last of the first n elements
pub taken_apart : {X : Type 0} (xs : List X) (n : ℕ) (x : X) → 0 < n → n ≤ length xs → x ≡ get_or xs (n - 1) x → take n xs ≡ take (n - 1) xs ++ x ∷ []
taken_apart xs n x some most is =
    ap (λ m. take m xs) (let one : n ≡ n - 1 + 1 = omega arith in one) ∙ take_more xs (n - 1) x (omega arith) ∙ ap (λ y. take (n - 1) xs ++ y ∷ []) (sym is)

module _ {K R : Type 0} {cmp : K → K → Ordering} (o : IsTotalOrder cmp) where
  -- before the first change
  pub leads_at_first : (old : List (K × (ℕ × R))) (stream : ℕ) (all : List (K × Option R)) → IsRising (flip_args cmp) all → Leads cmp old stream all all old
  leads_at_first old stream all falling = record { falling = falling; same = λ k. refl }

  -- behind the last one
  pub leads_to_all : (old : List (K × (ℕ × R))) (stream : ℕ) (all : List (K × Option R)) (now : List (K × (ℕ × R))) → Leads cmp old stream all [] now → IsTouched cmp old stream (change_at cmp all) now
  leads_to_all old stream all now h k = h.same k

  module _ (stream : ℕ) (left : List (K × Option R)) (x : K × Option R) (now next : List (K × (ℕ × R))) (falling : IsRising (flip_args cmp) (left ++ x ∷ [])) (changed : IsChanged cmp now stream x next) where
    greater : AreAbove cmp x.0 left
    greater = before_middle (λ a b. flip_args cmp a b ≡ Less) left x [] falling

    other : (k : K) → eq_by_cmp cmp x.0 k ≡ false → touched stream (change_at cmp left k) (value_at cmp next k) ≡ touched stream (change_at cmp (left ++ x ∷ []) k) (value_at cmp now k)
    other k differs =
        let v : value_at cmp next k ≡ value_at cmp now k = changed k ∙ ap (λ b. cond b (touched stream (Some x.1) (value_at cmp now k)) (value_at cmp now k)) differs in
        let c : change_at cmp (left ++ x ∷ []) k ≡ change_at cmp left k =
        lookup-append (eq_by_cmp cmp k) left (x ∷ [])
        ∙ ap (λ b. option_or (change_at cmp left k) (cond b (Some x.1) None)) (isnt_key o x.0 k x.0 (tied_itself o x.0) differs)
        ∙ or_none (change_at cmp left k) in
        ap (λ (w : Option (ℕ × R)). touched stream (change_at cmp left k) w) v ∙ ap (λ (w : Option (Option R)). touched stream w (value_at cmp now k)) (sym c)

    same_there : (k : K) (r : Ordering) → cmp x.0 k ≡ r → touched stream (change_at cmp left k) (value_at cmp next k) ≡ touched stream (change_at cmp (left ++ x ∷ []) k) (value_at cmp now k)
    same_there k Less e = other k (ap is_eq e)
    same_there k Equal e =
        let none : change_at cmp left k ≡ None = none_above o x.0 k left e greater in
        let v : value_at cmp next k ≡ touched stream (Some x.1) (value_at cmp now k) = changed k ∙ ap (λ b. cond b (touched stream (Some x.1) (value_at cmp now k)) (value_at cmp now k)) (ap is_eq e) in
        let c : change_at cmp (left ++ x ∷ []) k ≡ Some x.1 =
        lookup-append (eq_by_cmp cmp k) left (x ∷ [])
        ∙ ap (λ (w : Option (Option R)). option_or w (change_at cmp (x ∷ []) k)) none
        ∙ ap (λ b. cond b (Some x.1) None) (ap is_eq (tied_back o x.0 k e)) in
        ap (λ (w : Option (Option R)). touched stream w (value_at cmp next k)) none ∙ v ∙ ap (λ (w : Option (Option R)). touched stream w (value_at cmp now k)) (sym c)
    same_there k Greater e = other k (ap is_eq e)

    -- one change more is made
    pub leads_on : (old : List (K × (ℕ × R))) (all : List (K × Option R)) → Leads cmp old stream all (left ++ x ∷ []) now → Leads cmp old stream all left next
    leads_on old all h = record {
      falling = ordered_left (λ a b. flip_args cmp a b ≡ Less) left (x ∷ []) falling;
      same = λ k. same_there k (cmp x.0 k) refl ∙ h.same k;
    }

    -- the keys of the others stand as they stood
    new_elsewhere : (others : List (K × Option R)) → AreAbove cmp x.0 others → new_keys cmp next others ≡ new_keys cmp now others
    new_elsewhere [] h = refl
    new_elsewhere (y ∷ others) h =
        let v : value_at cmp next y.0 ≡ value_at cmp now y.0 = changed y.0 ∙ ap (λ b. cond b (touched stream (Some x.1) (value_at cmp now y.0)) (value_at cmp now y.0)) (ap is_eq h.0) in
        ap (λ (w : Option (ℕ × R)). cond (is_new y.1 w) 1 0 + new_keys cmp next others) v
        ∙ ap (λ n. cond (is_new y.1 (value_at cmp now y.0)) 1 0 + n) (new_elsewhere others h.1)

    -- how many new keys are left
    pub new_left : new_keys cmp now (left ++ x ∷ []) ≡ new_keys cmp next left + cond (is_new x.1 (value_at cmp now x.0)) 1 0
    new_left = new_keys-push cmp now left x ∙ ap (λ n. n + cond (is_new x.1 (value_at cmp now x.0)) 1 0) (sym (new_elsewhere left greater))
