-- A part: nothing, or a uuid and the intervals behind it.
use Rattle.std.proofs.Common.{◌≡◌, ℕ, ◌+◌, ◌<◌, eqb, refl, sym, ◌∙◌, ap, subst, arith, add-one, drop-cons, List, [], ◌∷◌, length, get_or, take, drop, Option, Some, None, Result, Ok, Err}
use Rattle.std.proofs.lemmas.Bool.{cond-true, cond-false, eq-eqb, ne_eqb, and_left}
use Rattle.std.proofs.lemmas.List.{length-take, length-drop, append-nil}
use Rattle.gtid_set.specs.declared.interval.Interval.{Interval}
use Rattle.gtid_set.specs.declared.fault.GtidFault.{GtidFault}
use Rattle.gtid_set.specs.declared.fault.GtidFault.TheVariants.{BadUuid, Syntax}
use Rattle.gtid_set.specs.declared.named.Named.{Named}
use Rattle.gtid_set.specs.Inner.Kept.{ReadsIntervals}
use Rattle.gtid_set.specs.Blank.{parts_between}
use Rattle.gtid_set.specs.Digits.{is_hyphenated, uuid_of}
use Rattle.gtid_set.specs.Text.{all_of, put_before, intervals_of_piece, intervals_behind, intervals_for, intervals_of_part}

pub part-is : (part : List ℕ) → 0 < length part → intervals_of_part part ≡ intervals_for (uuid_of (take 36 part)) (drop 36 part)
unfolding intervals_of_part
part-is [] lt = absurd (omega arith)
part-is (b ∷ part) lt = refl

uuid-short : (text : List ℕ) → (length text ≡ 36 → ⊥) → uuid_of text ≡ None
unfolding uuid_of
uuid-short text ne = cond-false (is_hyphenated text) _ _ (and_left (eqb (length text) 36) _ (ne_eqb (length text) 36 ne))

pub part-short : (front : List Interval) (part : List ℕ) → 0 < length part → length part < 36 → put_before front (intervals_of_part part) ≡ Err BadUuid
part-short front part some short =
    ap (put_before front) (part-is part some ∙ ap (λ (o : Option ℕ). intervals_for o (drop 36 part)) (uuid-short (take 36 part) (λ e. omega (arith, e, length-take 36 part))))

pub part-no_uuid : (front : List Interval) (part : List ℕ) → 0 < length part → uuid_of (take 36 part) ≡ None → put_before front (intervals_of_part part) ≡ Err BadUuid
part-no_uuid front part some none = ap (put_before front) (part-is part some ∙ ap (λ (o : Option ℕ). intervals_for o (drop 36 part)) none)

behind-short : (uuid : ℕ) (rest : List ℕ) → length rest ≡ 0 → intervals_behind uuid rest ≡ Err Syntax
behind-short uuid [] e = refl
behind-short uuid (b ∷ rest) e = absurd (omega arith)

pub part-ends : (front : List Interval) (part : List ℕ) (uuid : ℕ) → length part ≡ 36 → uuid_of (take 36 part) ≡ Some uuid → put_before front (intervals_of_part part) ≡ Err Syntax
part-ends front part uuid len e =
    ap (put_before front) (part-is part (omega arith) ∙ ap (λ (o : Option ℕ). intervals_for o (drop 36 part)) e ∙ behind-short uuid (drop 36 part) (omega (arith, length-drop 36 part)))

byte_front : (s : List ℕ) (k : ℕ) → k < length s → drop k s ≡ get_or s k 0 ∷ drop (k + 1) s
byte_front s k lt = rw add-one (drop-cons s k 0 lt)

part-from : (part : List ℕ) (uuid : ℕ) → 36 < length part → uuid_of (take 36 part) ≡ Some uuid → intervals_of_part part ≡ intervals_behind uuid (get_or part 36 0 ∷ drop 37 part)
part-from part uuid lt e = part-is part (omega arith) ∙ ap (λ (o : Option ℕ). intervals_for o (drop 36 part)) e ∙ ap (intervals_behind uuid) (byte_front part 36 lt)

pub part-no_colon : (front : List Interval) (part : List ℕ) (uuid : ℕ) → 36 < length part → uuid_of (take 36 part) ≡ Some uuid → (get_or part 36 0 ≡ 58 → ⊥) → put_before front (intervals_of_part part) ≡ Err Syntax
part-no_colon front part uuid lt e ne = ap (put_before front) (part-from part uuid lt e ∙ cond-false (eqb (get_or part 36 0) 58) _ _ (ne_eqb (get_or part 36 0) 58 ne))

part-colon : (front : List Interval) (part : List ℕ) (uuid : ℕ) → 36 < length part → uuid_of (take 36 part) ≡ Some uuid → get_or part 36 0 ≡ 58
    → put_before front (intervals_of_part part) ≡ put_before front (all_of (intervals_of_piece uuid) (parts_between 58 (drop 37 part)))
part-colon front part uuid lt e colon = ap (put_before front) (part-from part uuid lt e ∙ cond-true (eqb (get_or part 36 0) 58) _ _ (eq-eqb (get_or part 36 0) 58 colon))

pub part-nothing : (front : List Interval) (part : List ℕ) → length part ≡ 0 → put_before front (intervals_of_part part) ≡ Ok front
unfolding intervals_of_part
part-nothing front [] e = ap (λ (l : List Interval). Ok l) (append-nil front)
part-nothing front (b ∷ part) e = absurd (omega arith)

-- what the rest of a text gives is what the part gives
pub reads-part : (r : Result (Unit {0}) GtidFault) (named : Named) (front : List Interval) (part : List ℕ) (uuid : ℕ) → 36 < length part → uuid_of (take 36 part) ≡ Some uuid → get_or part 36 0 ≡ 58
    → ReadsIntervals r named (put_before front (all_of (intervals_of_piece uuid) (parts_between 58 (drop 37 part)))) → ReadsIntervals r named (put_before front (intervals_of_part part))
reads-part r named front part uuid lt e colon h = subst (λ (x : Result (List Interval) GtidFault). ReadsIntervals r named x) (sym (part-colon front part uuid lt e colon)) h
