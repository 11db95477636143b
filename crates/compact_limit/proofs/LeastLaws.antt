-- The least of a number and of the places of some items, an item more; and that there is but one.
use Rattle.std.proofs.Common.{◌≡◌, ◌⊎◌, ℕ, ◌<◌, ◌≤◌, List, [], ◌∷◌, ◌++◌, refl, sym, ap, subst, ◌∙◌, inl, inr, arith}
use Rattle.std.proofs.lemmas.List.{append_assoc}
use Rattle.std.specs.List.{AllByRecursion}
use Rattle.list_laws.proofs.Fronts.{All-append, each}
use Rattle.compact_limit.specs.Least.{StandsBehind, OneStandsAt, IsLeast, StopsAtFirst}

-- ---- an item more

-- what stands behind a number stands behind each lesser one
behind_less : {A : Type 0} (At : A → ℕ → Type 0) (number next : ℕ) → next ≤ number → (item : A) → StandsBehind At number item → StandsBehind At next item
behind_less At number next le item (place, stands, inl none) = (place, stands, inl none)
behind_less At number next le item (place, stands, inr behind) = (place, stands, inr (omega (arith, le, behind)))

-- what stands among some stands among more
one_among : {A : Type 0} (At : A → ℕ → Type 0) (items : List A) (item : A) (number : ℕ) → OneStandsAt At items number → OneStandsAt At (items ++ item ∷ []) number
one_among At items item number one = record {
  some = one.some;
  before = one.before;
  item = one.item;
  behind = one.behind ++ item ∷ [];
  among = ap (λ xs. xs ++ item ∷ []) one.among ∙ append_assoc one.before (one.item ∷ one.behind) (item ∷ []);
  stands = one.stands;
}

last_among : {A : Type 0} (At : A → ℕ → Type 0) (items : List A) (item : A) (number : ℕ) → 0 < number → At item number → OneStandsAt At (items ++ item ∷ []) number
last_among At items item number some stands = record { some = some; before = items; item = item; behind = []; among = refl; stands = stands }

reached_more : {A : Type 0} (At : A → ℕ → Type 0) (most : ℕ) (items : List A) (item : A) (number other next : ℕ)
    → (number ≡ most) ⊎ OneStandsAt At items number → At item other → (next ≡ number) ⊎ ((0 < other) × (next ≡ other)) → (next ≡ most) ⊎ OneStandsAt At (items ++ item ∷ []) next
reached_more At most items item number other next (inl is) stands (inl same) = inl (same ∙ is)
reached_more At most items item number other next (inr one) stands (inl same) = inr (subst (OneStandsAt At (items ++ item ∷ [])) (sym same) (one_among At items item number one))
reached_more At most items item number other next reached stands (inr lesser) = inr (subst (OneStandsAt At (items ++ item ∷ [])) (sym lesser.1) (last_among At items item other lesser.0 stands))

pub least_none : {A : Type 0} (At : A → ℕ → Type 0) (most : ℕ) → IsLeast At most [] most
least_none At most = record { up_to = omega arith; behind = tt; reached = inl refl }

pub least_more : {A : Type 0} (At : A → ℕ → Type 0) (most : ℕ) (items : List A) (item : A) (number other next : ℕ) → IsLeast At most items number → At item other
    → next ≤ number → (other ≡ 0) ⊎ (next ≤ other) → (next ≡ number) ⊎ ((0 < other) × (next ≡ other)) → IsLeast At most (items ++ item ∷ []) next
least_more At most items item number other next least stands le behind lesser = record {
  up_to = omega (arith, le, least.up_to);
  behind = All-append (StandsBehind At next) items (item ∷ []) (each (StandsBehind At number) (StandsBehind At next) (behind_less At number next le) items least.behind) ((other, stands, behind), tt);
  reached = reached_more At most items item number other next least.reached stands lesser;
}

-- ---- the first item without a place

placed : {A : Type 0} (At : A → ℕ → Type 0) (number : ℕ) (item : A) → StandsBehind At number item → (place : ℕ) × At item place
placed At number item stands = (stands.0, stands.1)

pub stops_at_first : {A F : Type 0} (At : A → ℕ → Type 0) (IsRefused : A → F → Type 0) (most : ℕ) (before : List A) (item : A) (behind items : List A) (number : ℕ) (fault : F)
    → items ≡ before ++ item ∷ behind → IsLeast At most before number → IsRefused item fault → StopsAtFirst At IsRefused items fault
stops_at_first At IsRefused most before item behind items number fault among least refused = record {
  before = before;
  item = item;
  behind = behind;
  among = among;
  stand = each (StandsBehind At number) (λ x. (place : ℕ) × At x place) (placed At number) before least.behind;
  refused = refused;
}

-- ---- one alone

-- an item between others has what each has
at_between : {A : Type 0} (P : A → Type 0) (items before : List A) (item : A) (behind : List A) → items ≡ before ++ item ∷ behind → AllByRecursion P items → P item
at_between {A = A} P items before item behind among all = in_front before (subst (AllByRecursion P) among all) where
  in_front : (front : List A) → AllByRecursion P (front ++ item ∷ behind) → P item
  in_front [] h = h.0
  in_front (x ∷ front) h = in_front front h.1

-- each item has one place at most
abbrev HasOnePlace : {A : Type 0} → (A → ℕ → Type 0) → Type 0
HasOnePlace {A} At = (item : A) (a b : ℕ) → At item a → At item b → a ≡ b

up_to_place : {A : Type 0} (At : A → ℕ → Type 0) → HasOnePlace At → (number other : ℕ) (item : A) → 0 < other → At item other → StandsBehind At number item → number ≤ other
up_to_place At one number other item some stands (place, at, inl none) = let same : place ≡ other = one item place other at stands in absurd (omega (arith, some, same, none))
up_to_place At one number other item some stands (place, at, inr behind) = let same : place ≡ other = one item place other at stands in omega (arith, same, behind)

up_to : {A : Type 0} (At : A → ℕ → Type 0) → HasOnePlace At → (most : ℕ) (items : List A) (n m : ℕ) → IsLeast At most items n → IsLeast At most items m → (m ≡ most) ⊎ OneStandsAt At items m → n ≤ m
up_to At one most items n m least other (inl is) = let le : n ≤ most = least.up_to in omega (arith, le, is)
up_to At one most items n m least other (inr at) = up_to_place At one n m at.item at.some at.stands (at_between (StandsBehind At n) items at.before at.item at.behind at.among least.behind)

pub one_least : {A : Type 0} (At : A → ℕ → Type 0) → HasOnePlace At → (most : ℕ) (items : List A) (n m : ℕ) → IsLeast At most items n → IsLeast At most items m → n ≡ m
one_least At one most items n m least other =
    let le : n ≤ m = up_to At one most items n m least other other.reached in
    let ge : m ≤ n = up_to At one most items m n other least least.reached in
    omega (arith, le, ge)

-- where there is a least, no item is without a place
pub none_stops : {A F P : Type 0} (At : A → ℕ → Type 0) (IsRefused : A → F → Type 0) → ((item : A) (place : ℕ) (fault : F) → At item place → ¬ IsRefused item fault)
    → (most : ℕ) (items : List A) (number : ℕ) (fault : F) → IsLeast At most items number → StopsAtFirst At IsRefused items fault → P
none_stops At IsRefused clash most items number fault least stops =
    let at : StandsBehind At number stops.item = at_between (StandsBehind At number) items stops.before stops.item stops.behind stops.among least.behind in
    absurd (clash stops.item at.0 fault at.1 stops.refused)
