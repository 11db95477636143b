-- What a position text is read as, it says.
use Rattle.std.proofs.Common.{◌≡◌, ℕ, Bool, true, false, cond, eqb, List, [], ◌∷◌, ◌++◌, take, drop, Option, Some, None, Result, Ok, Err, refl, sym, ap, subst, ◌∙◌, ◌⊎◌, inl, inr, arith, append_assoc}
use Rattle.std.specs.Prelude.{IsTrue, nat_le, ◌||◌, ◌&&◌, codes, ◌==◌}
use Rattle.std.specs.List.{AllByRecursion}
use Rattle.std.specs.Cmp.Lexicographic.{pointwise, same_text}
use Rattle.std.proofs.lemmas.Bool.{eqb-true}
use Rattle.std.proofs.lemmas.Bool.Decides.{nat_tests}
use Rattle.std.proofs.lemmas.List.Folds.{list_any-append}
use Rattle.std.proofs.lemmas.List.{take-append-drop}
use Rattle.list_laws.specs.Outcome.{◌>>=◌}
use Rattle.gtid_set.specs.declared.interval.Interval.{Interval}
use Rattle.gtid_set.specs.declared.fault.GtidFault.{GtidFault}
use Rattle.gtid_set.specs.declared.fault.GtidFault.TheVariants.{Flavor, Syntax, BadNumber}
use Rattle.gtid_set.specs.Position.{holds, has, SamePairs, last_number, union_of}
use Rattle.gtid_set.specs.Blank.{is_blank, trimmed_front, unless_blank, trimmed_end, trimmed, cut, with_first, parts_between}
use Rattle.gtid_set.specs.Digits.{decimal_of, uuid_of}
use Rattle.gtid_set.specs.Text.{all_of, number_from, upper_from, interval_list, intervals_of_piece, intervals_behind, intervals_for, intervals_of_part, behind_flavor, without_flavor, intervals_of_text, within_limit, set_of, position_of_text}
use Rattle.gtid_set.proofs.Parsed.{position-is, named-within}
use Rattle.gtid_set.proofs.TextIntervals.{each-named}
use Rattle.gtid_set.proofs.Joined.{has-union_of}
use Rattle.proto_wire.proofs.FieldLaws.{bind_ok}
use Rattle.run_says.proofs.DigitLaws.{decimal_is, uuid_is}
use Rattle.run_says.specs.Wire.{EachIs, HaveTogether}
use Rattle.run_says.specs.Positions.{IsPadded, each_behind, SaysInterval, SaysPart, IsPositionText}

abbrev read_ok : {A : Type 0} → A → Result A GtidFault
read_ok x = Ok x

ok_is : {A : Type 0} (x y : A) → read_ok x ≡ Ok y → x ≡ y
ok_is x y e = cc

-- ---- blanks

abbrev AreBlank : List ℕ → Type 0
AreBlank bytes = AllByRecursion (λ b. IsTrue (is_blank b)) bytes

-- blanks in front
abbrev HasFront : List ℕ → List ℕ → Type 0
HasFront text rest = (before : List ℕ) × (text ≡ before ++ rest) × AreBlank before

front_step : (b : ℕ) (t : Bool) (text : List ℕ) → is_blank b ≡ t → HasFront text (trimmed_front text) → HasFront (b ∷ text) (cond t (trimmed_front text) (b ∷ text))
front_step b false text is h = ([], refl, tt)
front_step b true text is (before, e, blank) = (b ∷ before, ap (λ xs. b ∷ xs) e, (is, blank))

front_is : (text : List ℕ) → HasFront text (trimmed_front text)
front_is [] = ([], refl, tt)
front_is (b ∷ text) = front_step b (is_blank b) text refl (front_is text)

-- blanks behind
abbrev HasEnd : List ℕ → List ℕ → Type 0
HasEnd text rest = (behind : List ℕ) × (text ≡ rest ++ behind) × AreBlank behind

last_step : (b : ℕ) (t : Bool) (behind : List ℕ) → is_blank b ≡ t → AreBlank behind → HasEnd (b ∷ behind) (cond t [] (b ∷ []))
last_step b false behind is h = (behind, refl, h)
last_step b true behind is h = (b ∷ behind, refl, (is, h))

end_step : (b : ℕ) (text rest : List ℕ) → HasEnd text rest → HasEnd (b ∷ text) (unless_blank b rest)
end_step b text [] (behind, e, blank) = subst (λ (xs : List ℕ). HasEnd (b ∷ xs) (cond (is_blank b) [] (b ∷ []))) (sym e) (last_step b (is_blank b) behind refl blank)
end_step b text (c ∷ rest) (behind, e, blank) = (behind, ap (λ xs. b ∷ xs) e, blank)

end_is : (text : List ℕ) → HasEnd text (trimmed_end text)
end_is [] = ([], refl, tt)
end_is (b ∷ text) = end_step b text (trimmed_end text) (end_is text)

both_blank : (xs ys : List ℕ) → AreBlank xs → AreBlank ys → AreBlank (xs ++ ys)
both_blank [] ys h k = k
both_blank (x ∷ xs) ys (one, others) k = (one, both_blank xs ys others k)

padded_is : (text : List ℕ) → IsPadded text (trimmed text)
padded_is text =
    let front = front_is text in
    let end = end_is (trimmed_front text) in
    (front.0, end.0, front.1 ∙ ap (λ xs. front.0 ++ xs) end.1 ∙ sym (append_assoc front.0 (trimmed text) end.0), both_blank front.0 end.0 front.2 end.2)

-- ---- separators

-- a text by its first separator
abbrev IsCut : ℕ → List ℕ → List ℕ × Option (List ℕ) → Type 0
IsCut c text (front, None) = text ≡ front
IsCut c text (front, Some rest) = text ≡ front ++ c ∷ rest

cut_more : (c b : ℕ) (text : List ℕ) (p : List ℕ × Option (List ℕ)) → IsCut c text p → IsCut c (b ∷ text) (b ∷ p.0, p.1)
cut_more c b text (front, None) e = ap (λ xs. b ∷ xs) e
cut_more c b text (front, Some rest) e = ap (λ xs. b ∷ xs) e

cut_step : (c b : ℕ) (t : Bool) (text : List ℕ) (p : List ℕ × Option (List ℕ)) → t ≡ eqb b c → IsCut c text p → IsCut c (b ∷ text) (cond t ([], Some text) (b ∷ p.0, p.1))
cut_step c b true text p is h = let same : b ≡ c = eqb-true b c (sym is) in ap (λ x. x ∷ text) same
cut_step c b false text p is h = cut_more c b text p h

cut_is : (c : ℕ) (text : List ℕ) → IsCut c text (cut c text)
cut_is c [] = refl
cut_is c (b ∷ text) = cut_step c b (eqb b c) text (cut c text) refl (cut_is c text)

behind_first : (c b : ℕ) (text : List ℕ) (parts : List (List ℕ)) → c ∷ text ≡ each_behind c parts → c ∷ b ∷ text ≡ each_behind c (with_first b parts)
behind_first c b text [] e = absurd cc
behind_first c b text (part ∷ parts) e = let rest : text ≡ part ++ each_behind c parts = cc in ap (λ xs. c ∷ b ∷ xs) rest

parts_step : (c b : ℕ) (t : Bool) (text : List ℕ) (parts : List (List ℕ)) → t ≡ eqb b c → c ∷ text ≡ each_behind c parts → c ∷ b ∷ text ≡ each_behind c (cond t ([] ∷ parts) (with_first b parts))
parts_step c b true text parts is e = let same : b ≡ c = eqb-true b c (sym is) in ap (λ x. c ∷ x ∷ text) same ∙ ap (λ xs. c ∷ xs) e
parts_step c b false text parts is e = behind_first c b text parts e

parts_are : (c : ℕ) (text : List ℕ) → c ∷ text ≡ each_behind c (parts_between c text)
parts_are c [] = refl
parts_are c (b ∷ text) = parts_step c b (eqb b c) text (parts_between c text) refl (parts_are c text)

some_step : (b : ℕ) (t : Bool) (parts : List (List ℕ)) → cond t ([] ∷ parts) (with_first b parts) ≡ [] → ⊥
some_step b true parts e = cc
some_step b false [] e = cc
some_step b false (part ∷ parts) e = cc

parts_some : (c : ℕ) (text : List ℕ) → parts_between c text ≡ [] → ⊥
parts_some c [] e = cc
parts_some c (b ∷ text) e = some_step b (eqb b c) (parts_between c text) e

-- ---- intervals

number_if : (n : ℕ) (t : Bool) (x : ℕ) → cond t (Ok n) (Err BadNumber) ≡ Ok x → n ≡ x
number_if n true x e = ok_is n x e
number_if n false x e = absurd cc

number_is : (low : ℕ) (o : Option ℕ) (n : ℕ) → number_from low o ≡ Ok n → o ≡ Some n
number_is low None n e = absurd cc
number_is low (Some m) n e = ap Some (number_if m (nat_le low m && nat_le m last_number) n e)

upper_says : (uuid : ℕ) (piece : List ℕ) (p : List ℕ × Option (List ℕ)) (first last : ℕ) → IsCut 45 piece p → decimal_of p.0 ≡ Some first → upper_from first p.1 ≡ Ok last
    → SaysInterval uuid piece (record { uuid = uuid; first = first; last = last })
upper_says uuid piece (front, None) first last is low e = (refl, inl (decimal_is piece first (ap decimal_of is ∙ low), sym (ok_is first last e)))
upper_says uuid piece (front, Some rest) first last is low e = (refl, inr (front, rest, is, decimal_is front first low, decimal_is rest last (number_is 0 (decimal_of rest) last e)))

-- an interval that ends before it begins has no number
empty_holds : (uuid first last u n : ℕ) → nat_le first last ≡ false → holds (record { uuid = uuid; first = first; last = last }) u n ≡ false
empty_holds uuid first last u n e = grind (arith, nat_tests)

list_has : (uuid first last : ℕ) (t : Bool) → nat_le first last ≡ t → SamePairs (cond t (record { uuid = uuid; first = first; last = last } ∷ []) []) (record { uuid = uuid; first = first; last = last } ∷ [])
list_has uuid first last true e = λ u n. refl
list_has uuid first last false e = λ u n. ap (λ b. b || false) (sym (empty_holds uuid first last u n e))

record PieceSays (uuid : ℕ) (piece : List ℕ) (list : List Interval) : Type 0 where
  one : Interval
  says : SaysInterval uuid piece one
  same : SamePairs list (one ∷ [])

piece_says : (uuid : ℕ) (piece : List ℕ) (list : List Interval) → intervals_of_piece uuid piece ≡ Ok list → PieceSays uuid piece list
unfolding intervals_of_piece
piece_says uuid piece list e =
    let f = bind_ok (number_from 1 (decimal_of (cut 45 piece).0)) (λ first. upper_from first (cut 45 piece).1 >>= λ last. Ok (interval_list uuid first last)) list e in
    let l = bind_ok (upper_from f.0 (cut 45 piece).1) (λ last. Ok (interval_list uuid f.0 last)) list f.2 in
    let is : interval_list uuid f.0 l.0 ≡ list = ok_is (interval_list uuid f.0 l.0) list l.2 in
    record {
      one = record { uuid = uuid; first = f.0; last = l.0 };
      says = upper_says uuid piece (cut 45 piece) f.0 l.0 (cut_is 45 piece) (number_is 1 (decimal_of (cut 45 piece).0) f.0 f.1) l.1;
      same = subst (λ (xs : List Interval). SamePairs xs (record { uuid = uuid; first = f.0; last = l.0 } ∷ [])) is (list_has uuid f.0 l.0 (nat_le f.0 l.0) refl);
    }

same_append : (a b c d : List Interval) → SamePairs a b → SamePairs c d → SamePairs (a ++ c) (b ++ d)
same_append a b c d h k u n =
    list_any-append (λ i. holds i u n) a c ∙ ap (λ x. x || has c u n) (h u n) ∙ ap (λ x. has b u n || x) (k u n) ∙ sym (list_any-append (λ i. holds i u n) b d)

-- what step's lists name together
record PiecesSay (uuid : ℕ) (pieces : List (List ℕ)) (list : List Interval) : Type 0 where
  intervals : List Interval
  each : EachIs (SaysInterval uuid) pieces intervals
  same : SamePairs list intervals

pieces_say : (uuid : ℕ) (pieces : List (List ℕ)) (list : List Interval) → all_of (intervals_of_piece uuid) pieces ≡ Ok list → PiecesSay uuid pieces list
pieces_say uuid [] list e = record { intervals = []; each = tt; same = subst (λ (xs : List Interval). SamePairs xs []) (ok_is [] list e) (λ u n. refl) }
pieces_say uuid (piece ∷ pieces) list e =
    let front = bind_ok (intervals_of_piece uuid piece) (λ front. all_of (intervals_of_piece uuid) pieces >>= λ behind. Ok (front ++ behind)) list e in
    let behind = bind_ok (all_of (intervals_of_piece uuid) pieces) (λ behind. Ok (front.0 ++ behind)) list front.2 in
    let one = piece_says uuid piece front.0 front.1 in
    let others = pieces_say uuid pieces behind.0 behind.1 in
    record {
      intervals = one.one ∷ others.intervals;
      each = (one.says, others.each);
      same = subst (λ (xs : List Interval). SamePairs xs (one.one ∷ others.intervals)) (ok_is (front.0 ++ behind.0) list behind.2) (same_append front.0 (one.one ∷ []) behind.0 others.intervals one.same others.same);
    }

-- ---- parts

record PartSays (text : List ℕ) (list : List Interval) : Type 0 where
  intervals : List Interval
  says : SaysPart text intervals
  same : SamePairs list intervals

colon_says : (text part name rest : List ℕ) (uuid : ℕ) (list : List Interval) → IsPadded text part → part ≡ name ++ rest → uuid_of name ≡ Some uuid → intervals_behind uuid rest ≡ Ok list → PartSays text list
colon_says text part name [] uuid list padded split is e = absurd cc
colon_says text part name (b ∷ rest) uuid list padded split is e = at_colon (eqb b 58) refl e
  where
    at_colon : (t : Bool) → eqb b 58 ≡ t → cond t (all_of (intervals_of_piece uuid) (parts_between 58 rest)) (Err Syntax) ≡ Ok list → PartSays text list
    at_colon true same h =
        let pieces = pieces_say uuid (parts_between 58 rest) list h in
        let colon : b ≡ 58 = eqb-true b 58 same in
        record {
          intervals = pieces.intervals;
          says = (part, padded, inr (name, uuid, parts_between 58 rest, split ∙ ap (λ x. name ++ x ∷ rest) colon ∙ ap (λ xs. name ++ xs) (parts_are 58 rest), uuid_is name uuid is, parts_some 58 rest, pieces.each));
          same = pieces.same;
        }
    at_colon false same h = absurd cc

uuid_says : (text part name rest : List ℕ) (o : Option ℕ) (list : List Interval) → IsPadded text part → part ≡ name ++ rest → uuid_of name ≡ o → intervals_for o rest ≡ Ok list → PartSays text list
uuid_says text part name rest None list padded split is e = absurd cc
uuid_says text part name rest (Some uuid) list padded split is e = colon_says text part name rest uuid list padded split is e

part_says : (text part : List ℕ) (list : List Interval) → IsPadded text part → intervals_of_part part ≡ Ok list → PartSays text list
unfolding intervals_of_part
part_says text [] list padded e = record {
  intervals = [];
  says = ([], padded, inl (refl, refl));
  same = subst (λ (xs : List Interval). SamePairs xs []) (ok_is [] list e) (λ u n. refl);
}
part_says text (b ∷ part) list padded e = uuid_says text (b ∷ part) (take 36 (b ∷ part)) (drop 36 (b ∷ part)) (uuid_of (take 36 (b ∷ part))) list padded (sym (take-append-drop 36 (b ∷ part))) refl e

record PartsSay (parts : List (List ℕ)) (list : List Interval) : Type 0 where
  intervals : List Interval
  say : HaveTogether SaysPart parts intervals
  same : SamePairs list intervals

abbrev of_part : List ℕ → Result (List Interval) GtidFault
of_part part = intervals_of_part (trimmed part)

parts_say : (parts : List (List ℕ)) (list : List Interval) → all_of of_part parts ≡ Ok list → PartsSay parts list
parts_say [] list e = record { intervals = []; say = refl; same = subst (λ (xs : List Interval). SamePairs xs []) (ok_is [] list e) (λ u n. refl) }
parts_say (part ∷ parts) list e =
    let front = bind_ok (of_part part) (λ front. all_of of_part parts >>= λ behind. Ok (front ++ behind)) list e in
    let behind = bind_ok (all_of of_part parts) (λ behind. Ok (front.0 ++ behind)) list front.2 in
    let one = part_says part (trimmed part) front.0 (padded_is part) front.1 in
    let others = parts_say parts behind.0 behind.1 in
    record {
      intervals = one.intervals ++ others.intervals;
      say = (one.intervals, others.intervals, one.says, others.say, refl);
      same = subst (λ (xs : List Interval). SamePairs xs (one.intervals ++ others.intervals)) (ok_is (front.0 ++ behind.0) list behind.2) (same_append front.0 one.intervals behind.0 others.intervals one.same others.same);
    }

-- ---- the text

flavor_if : (text trim flavor rest named : List ℕ) (t : Bool) → IsPadded text trim → trim ≡ flavor ++ 47 ∷ rest → t ≡ pointwise ◌==◌ flavor (codes "MySQL56") → cond t (Ok rest) (Err Flavor) ≡ Ok named
    → IsPadded text named ⊎ IsPadded text (codes "MySQL56/" ++ named)
flavor_if text trim flavor rest named true padded is same e =
    let name : flavor ≡ codes "MySQL56" = same_text flavor (codes "MySQL56") same in
    let whole : trim ≡ codes "MySQL56/" ++ named = is ∙ ap (λ xs. xs ++ 47 ∷ rest) name ∙ ap (λ xs. codes "MySQL56/" ++ xs) (ok_is rest named e) in
    inr (subst (IsPadded text) whole padded)
flavor_if text trim flavor rest named false padded is same e = absurd cc

flavor_says : (text trim named : List ℕ) (p : List ℕ × Option (List ℕ)) → IsPadded text trim → IsCut 47 trim p → behind_flavor trim p.0 p.1 ≡ Ok named → IsPadded text named ⊎ IsPadded text (codes "MySQL56/" ++ named)
flavor_says text trim named (front, None) padded is e = inl (subst (IsPadded text) (ok_is trim named e) padded)
flavor_says text trim named (front, Some rest) padded is e = flavor_if text trim front rest named (pointwise ◌==◌ front (codes "MySQL56")) padded is refl e

intervals_say : (text : List ℕ) (set list : List Interval) → intervals_of_text text ≡ Ok list → SamePairs set list → IsPositionText text set
unfolding intervals_of_text
intervals_say text set list e same =
    let named = bind_ok (without_flavor (trimmed text)) (λ parts. all_of of_part (parts_between 44 parts)) list e in
    let parts = parts_say (parts_between 44 named.0) list named.2 in
    record {
      named = named.0;
      padded = flavor_says text (trimmed text) named.0 (cut 47 (trimmed text)) (padded_is text) (cut_is 47 (trimmed text)) named.1;
      parts = parts_between 44 named.0;
      between = parts_are 44 named.0;
      intervals = parts.intervals;
      say = parts.say;
      pairs = λ u n. same u n ∙ parts.same u n;
    }

pub position_says : (text : List ℕ) (set : List Interval) → position_of_text text ≡ Ok set → IsPositionText text set
position_says text set e =
    let named = bind_ok (within_limit text) (λ l. Ok (set_of l)) set (sym (position-is text) ∙ e) in
    let list = named.0 in
    let all : intervals_of_text text ≡ Ok list = named-within text list named.1 in
    let is : union_of [] list ≡ set = ok_is (set_of list) set named.2 in
    intervals_say text set list all (λ u n. ap (λ (xs : List Interval). has xs u n) (sym is) ∙ has-union_of [] list u n tt (each-named text list all))
