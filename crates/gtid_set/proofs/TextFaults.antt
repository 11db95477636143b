-- Which faults a text has: its length alone is TooLarge, what stands before a slash is Flavor, and none is want of memory.
use Rattle.std.proofs.Common.{◌≡◌, ◌<◌, ◌≤◌, ℕ, Bool, true, false, eqb, ltb, refl, sym, ◌∙◌, ap, subst, inl, inr, ◌⊎◌, List, [], ◌∷◌, length, take, drop, Option, Some, None, Result, Ok, Err, ◌==◌, ◌&&◌, nat_le, codes}
use Rattle.std.specs.Result.{IfErr}
use Rattle.std.specs.Cmp.Lexicographic.{pointwise}
use Rattle.std.proofs.lemmas.Bool.{cases_Bool, cond-true, cond-false, ltb-true, ltb-false, lt-ltb, le-ltb}
use Rattle.list_laws.specs.Outcome.{◌>>=◌}
use Rattle.gtid_set.specs.declared.interval.Interval.{Interval}
use Rattle.gtid_set.specs.declared.fault.GtidFault.{GtidFault}
use Rattle.gtid_set.specs.declared.fault.GtidFault.TheVariants.{TooLarge, Flavor, BadUuid, Syntax, BadNumber, Memory}
use Rattle.gtid_set.specs.Position.{last_number}
use Rattle.gtid_set.specs.Blank.{trimmed, cut, parts_between}
use Rattle.gtid_set.specs.Digits.{decimal_of, uuid_of}
use Rattle.gtid_set.specs.Inner.Kept.{RefusedBy}
use Rattle.gtid_set.specs.Text.{all_of, number_from, upper_from, intervals_of_piece, intervals_behind, intervals_for, intervals_of_part, behind_flavor, without_flavor, intervals_of_text, within_limit, text_limit, set_of, set_of_text, position_of_text}

-- the faults of a part
abbrev pub OfPart : GtidFault → Type 0
OfPart BadUuid = Unit {0}
OfPart Syntax = Unit {0}
OfPart BadNumber = Unit {0}
OfPart fault = ⊥

-- the faults of a text within the limit
abbrev pub OfText : GtidFault → Type 0
OfText Flavor = Unit {0}
OfText fault = OfPart fault

-- the faults of a text
abbrev pub OfAny : GtidFault → Type 0
OfAny TooLarge = Unit {0}
OfAny fault = OfText fault

faults_then : {A B : Type 0} (P : GtidFault → Type 0) (r : Result A GtidFault) (f : A → Result B GtidFault) → IfErr r P → ((x : A) → IfErr (f x) P) → IfErr (r >>= f) P
faults_then P (Ok x) f a b = b x
faults_then P (Err e) f a b = a

faults_weaker : {A : Type 0} (P Q : GtidFault → Type 0) (r : Result A GtidFault) → ((e : GtidFault) → P e → Q e) → IfErr r P → IfErr r Q
faults_weaker P Q (Ok x) w a = tt
faults_weaker P Q (Err e) w a = w e a

number_faults : (low : ℕ) (o : Option ℕ) → IfErr (number_from low o) OfPart
number_faults low None = tt
number_faults low (Some n) = by_test (nat_le low n && nat_le n last_number) refl
  where
    by_test : (t : Bool) → (nat_le low n && nat_le n last_number) ≡ t → IfErr (number_from low (Some n)) OfPart
    by_test true e = rw e tt
    by_test false e = rw e tt

upper_faults : (first : ℕ) (o : Option (List ℕ)) → IfErr (upper_from first o) OfPart
upper_faults first None = tt
upper_faults first (Some text) = number_faults 0 (decimal_of text)

piece_faults : (uuid : ℕ) (piece : List ℕ) → IfErr (intervals_of_piece uuid piece) OfPart
unfolding intervals_of_piece
piece_faults uuid piece =
    faults_then OfPart (number_from 1 (decimal_of (cut 45 piece).0)) _ (number_faults 1 (decimal_of (cut 45 piece).0)) (λ first.
    faults_then OfPart (upper_from first (cut 45 piece).1) _ (upper_faults first (cut 45 piece).1) (λ last. tt))

all_faults : {A : Type 0} (P : GtidFault → Type 0) (step : A → Result (List Interval) GtidFault) → ((a : A) → IfErr (step a) P) → (list : List A) → IfErr (all_of step list) P
all_faults P step one [] = tt
all_faults P step one (a ∷ list) = faults_then P (step a) _ (one a) (λ front. faults_then P (all_of step list) _ (all_faults P step one list) (λ rest. tt))

behind_faults : (uuid : ℕ) (text : List ℕ) → IfErr (intervals_behind uuid text) OfPart
behind_faults uuid [] = tt
behind_faults uuid (b ∷ text) = by_test (eqb b 58) refl
  where
    by_test : (t : Bool) → eqb b 58 ≡ t → IfErr (intervals_behind uuid (b ∷ text)) OfPart
    by_test true e = rw e (all_faults OfPart (intervals_of_piece uuid) (piece_faults uuid) (parts_between 58 text))
    by_test false e = rw e tt

for_faults : (o : Option ℕ) (text : List ℕ) → IfErr (intervals_for o text) OfPart
for_faults None text = tt
for_faults (Some uuid) text = behind_faults uuid text

part_faults : (part : List ℕ) → IfErr (intervals_of_part part) OfPart
unfolding intervals_of_part
part_faults [] = tt
part_faults (b ∷ part) = for_faults (uuid_of (take 36 (b ∷ part))) (drop 36 (b ∷ part))

part_text : (e : GtidFault) → OfPart e → OfText e
part_text TooLarge a = a
part_text Flavor a = tt
part_text BadUuid a = tt
part_text Syntax a = tt
part_text BadNumber a = tt
part_text Memory a = a

pub parts_faults : (parts : List (List ℕ)) → IfErr (all_of (λ part. intervals_of_part (trimmed part)) parts) OfPart
parts_faults parts = all_faults OfPart (λ part. intervals_of_part (trimmed part)) (λ part. part_faults (trimmed part)) parts

flavor_faults : (text flavor : List ℕ) (o : Option (List ℕ)) → IfErr (behind_flavor text flavor o) OfText
flavor_faults text flavor None = tt
flavor_faults text flavor (Some rest) = by_test (pointwise ◌==◌ flavor (codes "MySQL56")) refl
  where
    by_test : (t : Bool) → pointwise ◌==◌ flavor (codes "MySQL56") ≡ t → IfErr (behind_flavor text flavor (Some rest)) OfText
    by_test true e = rw e tt
    by_test false e = rw e tt

pub text_faults : (text : List ℕ) → IfErr (intervals_of_text text) OfText
unfolding intervals_of_text
text_faults text =
    faults_then OfText (without_flavor (trimmed text)) _ (flavor_faults (trimmed text) (cut 47 (trimmed text)).0 (cut 47 (trimmed text)).1) (λ parts.
    faults_weaker OfPart OfText (all_of (λ part. intervals_of_part (trimmed part)) (parts_between 44 parts)) part_text (parts_faults (parts_between 44 parts)))

text_any : (e : GtidFault) → OfText e → OfAny e
text_any TooLarge a = tt
text_any Flavor a = tt
text_any BadUuid a = tt
text_any Syntax a = tt
text_any BadNumber a = tt
text_any Memory a = a

within_faults : (text : List ℕ) → IfErr (within_limit text) OfAny
unfolding within_limit
within_faults text = by_test (ltb text_limit (length text)) refl
  where
    by_test : (t : Bool) → ltb text_limit (length text) ≡ t → IfErr (within_limit text) OfAny
    by_test true e = rw e tt
    by_test false e = rw e (faults_weaker OfText OfAny (intervals_of_text text) text_any (text_faults text))

-- a text's own fault refuses it
pub own_fault : (text : List ℕ) (e : GtidFault) → within_limit text ≡ Err e → RefusedBy e (within_limit text)
own_fault text TooLarge h = h
own_fault text Flavor h = h
own_fault text BadUuid h = h
own_fault text Syntax h = h
own_fault text BadNumber h = h
own_fault text Memory h = absurd (subst (λ (r : Result (List Interval) GtidFault). IfErr r OfAny) h (within_faults text))

-- ---- the two faults of a text as a whole

either : {A B : Type 0} (r : Result A GtidFault) (f : A → Result B GtidFault) (e : GtidFault) → ◌≡◌ {A = Result B GtidFault} (r >>= f) (Err e) → (◌≡◌ {A = Result A GtidFault} r (Err e)) ⊎ ((x : A) × (◌≡◌ {A = Result B GtidFault} (f x) (Err e)))
either (Ok x) f e h = inr (x, h)
either (Err d) f e h = inl cc

set_faults : (text : List ℕ) → IfErr (set_of_text text) OfText
set_faults text = faults_then OfText (intervals_of_text text) _ (text_faults text) (λ l. tt)

pub too_large : (text : List ℕ) → position_of_text text ≡ Err TooLarge → text_limit < length text
unfolding position_of_text
too_large text e =
    elim (cases_Bool (ltb text_limit (length text))) [
      | inl t ↦ ltb-true text_limit (length text) t
      | inr f ↦ absurd (subst (λ (r : Result (List Interval) GtidFault). IfErr r OfText) (sym (cond-false (ltb text_limit (length text)) _ _ f) ∙ e) (set_faults text))
    ]

pub at_large : (text : List ℕ) → text_limit < length text → position_of_text text ≡ Err TooLarge
unfolding position_of_text
at_large text lt = cond-true (ltb text_limit (length text)) _ _ (lt-ltb text_limit (length text) lt)

abbrev IsFlavored : List ℕ → Type 0
IsFlavored text = (length text ≤ text_limit) × (without_flavor (trimmed text) ≡ Err Flavor)

flavor_of : (text : List ℕ) → intervals_of_text text ≡ Err Flavor → without_flavor (trimmed text) ≡ Err Flavor
unfolding intervals_of_text
flavor_of text e =
    elim (either (without_flavor (trimmed text)) (λ parts. all_of (λ part. intervals_of_part (trimmed part)) (parts_between 44 parts)) Flavor e) [
      | inl here ↦ here
      | inr there ↦ absurd (subst (λ (r : Result (List Interval) GtidFault). IfErr r OfPart) there.1 (parts_faults (parts_between 44 there.0)))
    ]

pub flavor_is : (text : List ℕ) → position_of_text text ≡ Err Flavor → IsFlavored text
unfolding position_of_text
flavor_is text e =
    elim (cases_Bool (ltb text_limit (length text))) [
      | inl t ↦ absurd (different (sym (cond-true (ltb text_limit (length text)) _ _ t) ∙ e))
      | inr f ↦
          let read : set_of_text text ≡ Err Flavor = sym (cond-false (ltb text_limit (length text)) _ _ f) ∙ e in (
            ltb-false text_limit (length text) f,
            elim (either (intervals_of_text text) (λ l. Ok (set_of l)) Flavor read) [
              | inl here ↦ flavor_of text here
              | inr there ↦ absurd (no_fault there.0 there.1)
            ],
          )
    ]
  where
    different : ◌≡◌ {A = Result (List Interval) GtidFault} (Err TooLarge) (Err Flavor) → ⊥
    different e = cc

    no_fault : (l : List Interval) → ◌≡◌ {A = Result (List Interval) GtidFault} (Ok (set_of l)) (Err Flavor) → ⊥
    no_fault l e = cc

pub is_flavor : (text : List ℕ) → IsFlavored text → position_of_text text ≡ Err Flavor
unfolding position_of_text intervals_of_text
is_flavor text h =
    cond-false (ltb text_limit (length text)) _ _ (le-ltb text_limit (length text) h.0)
    ∙ ap (λ (r : Result (List ℕ) GtidFault). (r >>= λ parts. all_of (λ part. intervals_of_part (trimmed part)) (parts_between 44 parts)) >>= λ l. Ok (set_of l)) h.1
