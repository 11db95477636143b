-- A printed set is read as the set.
use Rattle.std.proofs.Common.{◌≡◌, ℕ, ◌^◌, ◌<◌, ◌≤◌, ◌==◌, ◌&&◌, ◌||◌, nat_le, ltb, Bool, true, false, eqb, refl, sym, ◌∙◌, ap, subst, arith, inl, inr, if◌then◌else◌, List, [], ◌∷◌, ◌++◌, append_assoc, append-nil, length, length-append, map, take, drop, Option, Some, None, Result, Ok, IsTrue, codes}
use Rattle.std.specs.List.{AllByRecursion}
use Rattle.std.specs.List.Sorted.{IsStrictlySortedBy}
use Rattle.std.specs.declared.cmp.Ordering.TheVariants.{Less}
use Rattle.std.specs.Ordering.{nat_cmp}
use Rattle.std.specs.Cmp.Lexicographic.{slice_cmp}
use Rattle.std.specs.Fmt.{decimal}
use Rattle.std.proofs.lemmas.Bool.{cases_Bool, cond-true, cond-false, eqb-true, eqb-false, le-leb, and_from, or_left, le-ltb}
use Rattle.std.proofs.lemmas.Bool.Decides.{nat_tests}
use Rattle.std.proofs.lemmas.List.{take_at, drop_at}
use Rattle.gtid_set.specs.declared.interval.Interval.{Interval}
use Rattle.gtid_set.specs.declared.fault.GtidFault.{GtidFault}
use Rattle.list_laws.specs.Outcome.{◌>>=◌}
use Rattle.gtid_set.specs.Position.{ends_before, IsInterval, IsCanonical, last_number}
use Rattle.gtid_set.specs.Blank.{is_blank, trimmed, cut, parts_between}
use Rattle.gtid_set.specs.Digits.{decimal_of, uuid_of}
use Rattle.gtid_set.specs.Printed.{uuid_text, span_text, numbers_text, interval_text, printed_behind, printed_position, printed_uuids}
use Rattle.gtid_set.specs.Text.{all_of, number_from, upper_from, interval_list, intervals_of_piece, intervals_behind, intervals_for, intervals_of_part, behind_flavor, without_flavor, intervals_of_text, within_limit, text_limit, set_of, position_of_text}
use Rattle.gtid_set.proofs.Joined.{canonical-intervals, union-canonical, has-union_of}
use Rattle.gtid_set.proofs.Same.{equal_sets}
use Rattle.gtid_set.proofs.TextIntervals.{Each, ok_is}
use Rattle.gtid_set.proofs.PartLaws.{part-is}
use Rattle.gtid_set.proofs.Parsed.{position-is}
use Rattle.gtid_set.proofs.ReadBack.{is_plain, AllPlain, plain-append, decimal-is, decimal-read, uuid-reads, uuid-plain, uuid-length}
use Rattle.gtid_set.proofs.UuidOrder.{uuid_text-less}
use Rattle.gtid_set.proofs.ReadParts.{AllNot, all-weaker, all-append, cut-none, cut-first, parts-none, parts-first, parts-push, trimmed-full, all_of-one, all_of-front, all_of-push}

-- ---- the numbers of an interval

in_bounds : (low n : ℕ) → low ≤ n → n ≤ last_number → number_from low (Some n) ≡ Ok n
in_bounds low n small large = cond-true (nat_le low n && nat_le n last_number) _ _ (and_from (nat_le low n) (nat_le n last_number) (le-leb low n small) (le-leb n last_number large))

list-is : (u m n : ℕ) → m ≤ n → interval_list u m n ≡ record { uuid = u; first = m; last = n } ∷ []
list-is u m n le = cond-true (nat_le m n) _ _ (le-leb m n le)

-- reading an interval's text, cut at its hyphen
piece-from : (u : ℕ) (piece : List ℕ) (front : List ℕ) (rest : Option (List ℕ)) (m n : ℕ) → ◌≡◌ {A = List ℕ × Option (List ℕ)} (cut 45 piece) (front, rest)
    → number_from 1 (decimal_of front) ≡ Ok m → upper_from m rest ≡ Ok n → m ≤ n → intervals_of_piece u piece ≡ Ok (record { uuid = u; first = m; last = n } ∷ [])
unfolding intervals_of_piece
piece-from u piece front rest m n e f g le =
    ap (λ (p : List ℕ × Option (List ℕ)). number_from 1 (decimal_of p.0) >>= λ first. upper_from first p.1 >>= λ last. Ok (interval_list u first last)) e
    ∙ ap (λ (r : Result ℕ GtidFault). r >>= λ first. upper_from first rest >>= λ last. Ok (interval_list u first last)) f
    ∙ ap (λ (r : Result ℕ GtidFault). r >>= λ last. Ok (interval_list u m last)) g
    ∙ ap (λ (l : List Interval). Ok l) (list-is u m n le)

number-reads : (low n : ℕ) → low ≤ n → n ≤ last_number → number_from low (decimal_of (decimal n)) ≡ Ok n
number-reads low n small large = ap (number_from low) (decimal-read n (decimal n) (decimal-is n (omega arith))) ∙ in_bounds low n small large

pub span-reads : (u m n : ℕ) → 1 ≤ m → m ≤ n → n ≤ last_number → intervals_of_piece u (span_text m n) ≡ Ok (record { uuid = u; first = m; last = n } ∷ [])
span-reads u m n one le large =
    let dm = decimal-is m (omega arith) in
    elim (cases_Bool (m == n)) [
      | inl t ↦
          let same : m ≡ n = eqb-true m n t in
          ap (intervals_of_piece u) (cond-true (m == n) (decimal m) (decimal m ++ 45 ∷ decimal n) t)
          ∙ piece-from u (decimal m) (decimal m) None m m (cut-none 45 (decimal m) dm.no_hyphen) (number-reads 1 m one (omega arith)) refl (omega arith)
          ∙ ap (λ (l : ℕ). Ok (record { uuid = u; first = m; last = l } ∷ [])) same
      | inr f ↦
          ap (intervals_of_piece u) (cond-false (m == n) (decimal m) (decimal m ++ 45 ∷ decimal n) f)
          ∙ piece-from u (decimal m ++ 45 ∷ decimal n) (decimal m) (Some (decimal n)) m n (cut-first 45 (decimal m) (decimal n) dm.no_hyphen) (number-reads 1 m one (omega arith)) (number-reads 0 n (omega arith) large) le
    ]

pub span-plain : (m n : ℕ) → m ≤ n → n ≤ last_number → AllPlain (span_text m n)
span-plain m n le large =
    elim (cases_Bool (m == n)) [
      | inl t ↦ rw t ((decimal-is m (omega arith)).plain)
      | inr f ↦ rw f (plain-append (decimal m) (45 ∷ decimal n) ((decimal-is m (omega arith)).plain) (refl, (decimal-is n (omega arith)).plain))
    ]

-- ---- bytes of a part, and of a text

abbrev is_inner : ℕ → Bool
is_inner b = is_plain b || b == 58

abbrev AllInner : List ℕ → Type 0
AllInner text = AllByRecursion (λ b. IsTrue (is_inner b)) text

plain_inner : (b : ℕ) → is_plain b ≡ true → is_inner b ≡ true
plain_inner b e = or_left (is_plain b) (b == 58) e

inner_no_comma : (b : ℕ) → is_inner b ≡ true → eqb b 44 ≡ false
inner_no_comma b e = grind (arith, nat_tests)

inner_full : (b : ℕ) → is_inner b ≡ true → is_blank b ≡ false
inner_full b e = grind (arith, nat_tests)

plain_no_colon : (b : ℕ) → is_plain b ≡ true → eqb b 58 ≡ false
plain_no_colon b e = grind (arith, nat_tests)

abbrev is_outer : ℕ → Bool
is_outer b = is_inner b || b == 44

abbrev AllOuter : List ℕ → Type 0
AllOuter text = AllByRecursion (λ b. IsTrue (is_outer b)) text

outer_no_slash : (b : ℕ) → is_outer b ≡ true → eqb b 47 ≡ false
outer_no_slash b e = grind (arith, nat_tests)

outer_full : (b : ℕ) → is_outer b ≡ true → is_blank b ≡ false
outer_full b e = grind (arith, nat_tests)

inner_outer : (b : ℕ) → is_inner b ≡ true → is_outer b ≡ true
inner_outer b e = or_left (is_inner b) (b == 44) e

-- a part's text: a uuid, a colon and its intervals
abbrev part_text : ℕ → List ℕ → List ℕ
part_text u q = uuid_text u ++ 58 ∷ q

part-inner : (u : ℕ) (q : List ℕ) → AllInner q → AllInner (part_text u q)
part-inner u q p = all-append (λ b. IsTrue (is_inner b)) (uuid_text u) (58 ∷ q) (all-weaker (λ b. IsTrue (is_plain b)) (λ b. IsTrue (is_inner b)) plain_inner (uuid_text u) (uuid-plain u)) (refl, p)

part-reads : (u : ℕ) (q : List ℕ) → u < 2 ^ 128 → intervals_of_part (part_text u q) ≡ all_of (intervals_of_piece u) (parts_between 58 q)
part-reads u q small =
    let len = uuid-length u in
    part-is (part_text u q) (omega (arith, length-append (uuid_text u) (58 ∷ q), len))
    ∙ ap (λ (t : List ℕ). intervals_for (uuid_of t) (drop 36 (part_text u q))) (take_at (uuid_text u) (58 ∷ q) 36 len)
    ∙ ap (λ (o : Option ℕ). intervals_for o (drop 36 (part_text u q))) (uuid-reads u small)
    ∙ ap (intervals_behind u) (drop_at (uuid_text u) (58 ∷ q) 36 len)

abbrev step : List ℕ → Result (List Interval) GtidFault
step part = intervals_of_part (trimmed part)

step-inner : (part : List ℕ) → AllInner part → step part ≡ intervals_of_part part
step-inner part p = ap intervals_of_part (trimmed-full part (all-weaker (λ b. IsTrue (is_inner b)) (λ b. is_blank b ≡ false) inner_full part p))

no_comma : (part : List ℕ) → AllInner part → AllNot 44 part
no_comma part p = all-weaker (λ b. IsTrue (is_inner b)) (λ b. eqb b 44 ≡ false) inner_no_comma part p

no_colon : (text : List ℕ) → AllPlain text → AllNot 58 text
no_colon text p = all-weaker (λ b. IsTrue (is_plain b)) (λ b. eqb b 58 ≡ false) plain_no_colon text p

plain-inner : (text : List ℕ) → AllPlain text → AllInner text
plain-inner text p = all-weaker (λ b. IsTrue (is_plain b)) (λ b. IsTrue (is_inner b)) plain_inner text p

-- ---- the intervals behind a part that was begun

numbers-plain : (i : Interval) → IsInterval i → AllPlain (numbers_text i)
numbers-plain i one = span-plain i.first i.last one.holds_first one.to_last

numbers-read : (i : Interval) → IsInterval i → intervals_of_piece i.uuid (numbers_text i) ≡ Ok (i ∷ [])
numbers-read i one = span-reads i.uuid i.first i.last one.from_one one.holds_first one.to_last

tail-reads : (set : List Interval) (u : ℕ) (q : List ℕ) (acc : List Interval) → Each set → u < 2 ^ 128 → AllInner q → all_of (intervals_of_piece u) (parts_between 58 q) ≡ Ok acc
    → all_of step (parts_between 44 (part_text u q ++ printed_behind (Some u) set)) ≡ Ok (acc ++ set)
tail-reads [] u q acc each small inner e =
    ap (λ (t : List ℕ). all_of step (parts_between 44 t)) (append-nil (part_text u q))
    ∙ ap (all_of step) (parts-none 44 (part_text u q) (no_comma (part_text u q) (part-inner u q inner)))
    ∙ all_of-one step (part_text u q) acc (step-inner (part_text u q) (part-inner u q inner) ∙ part-reads u q small ∙ e)
    ∙ ap (λ (l : List Interval). Ok l) (sym (append-nil acc))
tail-reads (i ∷ set) u q acc each small inner e =
    let n = numbers_text i in
    let rest = printed_behind (Some i.uuid) set in
    let plain = numbers-plain i each.0 in
    let p = part_text u q in
    let full = part-inner u q inner in
    elim (cases_Bool (u == i.uuid)) [
      | inl t ↦
          let same : u ≡ i.uuid = eqb-true u i.uuid t in
          let q' = q ++ 58 ∷ n in
          let inner' : AllInner q' = all-append (λ b. IsTrue (is_inner b)) q (58 ∷ n) inner (refl, plain-inner n plain) in
          let reads : intervals_of_piece u n ≡ Ok (i ∷ []) = ap (λ (v : ℕ). intervals_of_piece v n) same ∙ numbers-read i each.0 in
          let e' : all_of (intervals_of_piece u) (parts_between 58 q') ≡ Ok (acc ++ i ∷ []) =
          ap (all_of (intervals_of_piece u)) (parts-push 58 q n (no_colon n plain)) ∙ all_of-push (intervals_of_piece u) (parts_between 58 q) n acc (i ∷ []) e reads in
          let text : p ++ printed_behind (Some u) (i ∷ set) ≡ part_text u q' ++ printed_behind (Some u) set =
          ap (λ (s : List ℕ). p ++ (s ++ rest)) (cond-true (u == i.uuid) (58 ∷ n) (44 ∷ uuid_text i.uuid ++ 58 ∷ n) t)
          ∙ sym (append_assoc p (58 ∷ n) rest)
          ∙ ap (λ (s : List ℕ). s ++ rest) (append_assoc (uuid_text u) (58 ∷ q) (58 ∷ n))
          ∙ ap (λ (v : ℕ). part_text u q' ++ printed_behind (Some v) set) (sym same) in
          ap (λ (s : List ℕ). all_of step (parts_between 44 s)) text
          ∙ tail-reads set u q' (acc ++ i ∷ []) each.1 small inner' e'
          ∙ ap (λ (l : List Interval). Ok l) (append_assoc acc (i ∷ []) set)
      | inr f ↦
          let text : p ++ printed_behind (Some u) (i ∷ set) ≡ p ++ 44 ∷ (part_text i.uuid n ++ rest) =
          ap (λ (s : List ℕ). p ++ (s ++ rest)) (cond-false (u == i.uuid) (58 ∷ n) (44 ∷ uuid_text i.uuid ++ 58 ∷ n) f) in
          let one : all_of (intervals_of_piece i.uuid) (parts_between 58 n) ≡ Ok (i ∷ []) =
          ap (all_of (intervals_of_piece i.uuid)) (parts-none 58 n (no_colon n plain)) ∙ all_of-one (intervals_of_piece i.uuid) n (i ∷ []) (numbers-read i each.0) in
          ap (λ (s : List ℕ). all_of step (parts_between 44 s)) text
          ∙ ap (all_of step) (parts-first 44 p (part_text i.uuid n ++ rest) (no_comma p full))
          ∙ all_of-front step p (parts_between 44 (part_text i.uuid n ++ rest)) acc (i ∷ set)
          (step-inner p full ∙ part-reads u q small ∙ e)
          (tail-reads set i.uuid n (i ∷ []) each.1 each.0.uuid (plain-inner n plain) one)
    ]

parts-read : (set : List Interval) → Each set → all_of step (parts_between 44 (printed_position set)) ≡ Ok set
unfolding intervals_of_part
parts-read [] each = refl
parts-read (i ∷ set) each =
    let n = numbers_text i in
    let plain = numbers-plain i each.0 in
    tail-reads set i.uuid n (i ∷ []) each.1 each.0.uuid (plain-inner n plain)
    (ap (all_of (intervals_of_piece i.uuid)) (parts-none 58 n (no_colon n plain)) ∙ all_of-one (intervals_of_piece i.uuid) n (i ∷ []) (numbers-read i each.0))

-- ---- a whole text

text-outer : (before : Option ℕ) (i : Interval) → IsInterval i → AllOuter (interval_text before i)
text-outer None i one =
    all-weaker (λ b. IsTrue (is_inner b)) (λ b. IsTrue (is_outer b)) inner_outer (part_text i.uuid (numbers_text i)) (part-inner i.uuid (numbers_text i) (plain-inner (numbers_text i) (numbers-plain i one)))
text-outer (Some before) i one =
    let n = numbers_text i in
    let inner = plain-inner n (numbers-plain i one) in
    elim (cases_Bool (before == i.uuid)) [
      | inl t ↦ rw t (refl, all-weaker (λ b. IsTrue (is_inner b)) (λ b. IsTrue (is_outer b)) inner_outer n inner)
      | inr f ↦ rw f (refl, all-weaker (λ b. IsTrue (is_inner b)) (λ b. IsTrue (is_outer b)) inner_outer (part_text i.uuid n) (part-inner i.uuid n inner))
    ]

printed-outer : (before : Option ℕ) (set : List Interval) → Each set → AllOuter (printed_behind before set)
printed-outer before [] each = tt
printed-outer before (i ∷ set) each = all-append (λ b. IsTrue (is_outer b)) (interval_text before i) (printed_behind (Some i.uuid) set) (text-outer before i each.0) (printed-outer (Some i.uuid) set each.1)

pub text-reads : (set : List Interval) → Each set → intervals_of_text (printed_position set) ≡ Ok set
unfolding intervals_of_text
text-reads set each =
    let text = printed_position set in
    let outer = printed-outer None set each in
    let same = trimmed-full text (all-weaker (λ b. IsTrue (is_outer b)) (λ b. is_blank b ≡ false) outer_full text outer) in
    let none = cut-none 47 text (all-weaker (λ b. IsTrue (is_outer b)) (λ b. eqb b 47 ≡ false) outer_no_slash text outer) in
    ap (λ (t : List ℕ). without_flavor t >>= λ parts. all_of step (parts_between 44 parts)) same
    ∙ ap (λ (p : List ℕ × Option (List ℕ)). behind_flavor text p.0 p.1 >>= λ parts. all_of step (parts_between 44 parts)) none
    ∙ parts-read set each

pub flavored-reads : (set : List Interval) → Each set → intervals_of_text (codes "MySQL56/" ++ printed_position set) ≡ Ok set
unfolding intervals_of_text
flavored-reads set each =
    let text = printed_position set in
    let outer = printed-outer None set each in
    let full = all-weaker (λ b. IsTrue (is_outer b)) (λ b. is_blank b ≡ false) outer_full text outer in
    let same = trimmed-full (codes "MySQL56/" ++ text) (refl, (refl, (refl, (refl, (refl, (refl, (refl, (refl, full)))))))) in
    ap (λ (t : List ℕ). without_flavor t >>= λ parts. all_of step (parts_between 44 parts)) same
    ∙ parts-read set each

-- the set of the intervals of a set is the set
pub set-is : (set : List Interval) → IsCanonical set → set_of set ≡ set
set-is set c =
    let each = canonical-intervals set c in
    equal_sets (set_of set) set (union-canonical [] set tt each) c (λ u n. has-union_of [] set u n tt each)

within-is : (text : List ℕ) → length text ≤ text_limit → within_limit text ≡ intervals_of_text text
unfolding within_limit
within-is text le = cond-false (ltb text_limit (length text)) _ _ (le-ltb text_limit (length text) le)

position-reads : (text : List ℕ) (set : List Interval) → IsCanonical set → length text ≤ text_limit → intervals_of_text text ≡ Ok set → position_of_text text ≡ Ok set
position-reads text set c le e =
    position-is text ∙ ap (λ (r : Result (List Interval) GtidFault). r >>= λ l. Ok (set_of l)) (within-is text le ∙ e) ∙ ap (λ (l : List Interval). Ok l) (set-is set c)

pub printed-reads : (set : List Interval) → IsCanonical set → length (printed_position set) ≤ text_limit → position_of_text (printed_position set) ≡ Ok set
printed-reads set c le = position-reads (printed_position set) set c le (text-reads set (canonical-intervals set c))

pub flavored-printed-reads : (set : List Interval) → IsCanonical set → length (codes "MySQL56/" ++ printed_position set) ≤ text_limit → position_of_text (codes "MySQL56/" ++ printed_position set) ≡ Ok set
flavored-printed-reads set c le = position-reads (codes "MySQL56/" ++ printed_position set) set c le (flavored-reads set (canonical-intervals set c))

-- sets that print one text are one set
pub printed-differ : (a b : List Interval) → IsCanonical a → IsCanonical b → printed_position a ≡ printed_position b → a ≡ b
printed-differ a b c d e = ok_is a b (sym (text-reads a (canonical-intervals a c)) ∙ ap intervals_of_text e ∙ text-reads b (canonical-intervals b d))

-- ---- the uuids of a printed set

-- the texts of the uuids behind one of this uuid, each once
abbrev uuids_behind : ℕ → List Interval → List (List ℕ)
uuids_behind u [] = []
uuids_behind u (i ∷ set) = if u == i.uuid then uuids_behind u set else uuid_text i.uuid ∷ uuids_behind i.uuid set

tail-uuids : (set : List Interval) (u : ℕ) (q : List ℕ) → Each set → AllInner q → map (take 36) (parts_between 44 (part_text u q ++ printed_behind (Some u) set)) ≡ uuid_text u ∷ uuids_behind u set
tail-uuids [] u q each inner =
    ap (λ (t : List ℕ). map (take 36) (parts_between 44 t)) (append-nil (part_text u q))
    ∙ ap (map (take 36)) (parts-none 44 (part_text u q) (no_comma (part_text u q) (part-inner u q inner)))
    ∙ ap (λ (t : List ℕ). t ∷ []) (take_at (uuid_text u) (58 ∷ q) 36 (uuid-length u))
tail-uuids (i ∷ set) u q each inner =
    let n = numbers_text i in
    let rest = printed_behind (Some i.uuid) set in
    let plain = numbers-plain i each.0 in
    let p = part_text u q in
    elim (cases_Bool (u == i.uuid)) [
      | inl t ↦
          let same : u ≡ i.uuid = eqb-true u i.uuid t in
          let q' = q ++ 58 ∷ n in
          let inner' : AllInner q' = all-append (λ b. IsTrue (is_inner b)) q (58 ∷ n) inner (refl, plain-inner n plain) in
          let text : p ++ printed_behind (Some u) (i ∷ set) ≡ part_text u q' ++ printed_behind (Some u) set =
          ap (λ (s : List ℕ). p ++ (s ++ rest)) (cond-true (u == i.uuid) (58 ∷ n) (44 ∷ uuid_text i.uuid ++ 58 ∷ n) t)
          ∙ sym (append_assoc p (58 ∷ n) rest)
          ∙ ap (λ (s : List ℕ). s ++ rest) (append_assoc (uuid_text u) (58 ∷ q) (58 ∷ n))
          ∙ ap (λ (v : ℕ). part_text u q' ++ printed_behind (Some v) set) (sym same) in
          ap (λ (s : List ℕ). map (take 36) (parts_between 44 s)) text
          ∙ tail-uuids set u q' each.1 inner'
          ∙ ap (λ (l : List (List ℕ)). uuid_text u ∷ l) (sym (cond-true (u == i.uuid) (uuids_behind u set) (uuid_text i.uuid ∷ uuids_behind i.uuid set) t))
      | inr f ↦
          let text : p ++ printed_behind (Some u) (i ∷ set) ≡ p ++ 44 ∷ (part_text i.uuid n ++ rest) =
          ap (λ (s : List ℕ). p ++ (s ++ rest)) (cond-false (u == i.uuid) (58 ∷ n) (44 ∷ uuid_text i.uuid ++ 58 ∷ n) f) in
          ap (λ (s : List ℕ). map (take 36) (parts_between 44 s)) text
          ∙ ap (map (take 36)) (parts-first 44 p (part_text i.uuid n ++ rest) (no_comma p (part-inner u q inner)))
          ∙ ap (λ (t : List ℕ). t ∷ map (take 36) (parts_between 44 (part_text i.uuid n ++ rest))) (take_at (uuid_text u) (58 ∷ q) 36 (uuid-length u))
          ∙ ap (λ (l : List (List ℕ)). uuid_text u ∷ l) (tail-uuids set i.uuid n each.1 (plain-inner n plain)
          ∙ sym (cond-false (u == i.uuid) (uuids_behind u set) (uuid_text i.uuid ∷ uuids_behind i.uuid set) f))
    ]

-- no interval of a set is of a lesser uuid
abbrev AllFrom : ℕ → List Interval → Type 0
AllFrom u set = AllByRecursion (λ i. u ≤ i.uuid) set

ends-from : (x : Interval) (set : List Interval) → AllByRecursion (λ later. IsTrue (ends_before x later)) set → AllFrom x.uuid set
ends-from x [] all = tt
ends-from x (y ∷ set) all = (from x y all.0, ends-from x set all.1)
  where
    from : (x y : Interval) → ends_before x y ≡ true → x.uuid ≤ y.uuid
    from x y e = grind (arith, nat_tests)

-- a uuid's text is less than those of the greater uuids behind it
uuids-less : (set : List Interval) (w u : ℕ) → w < 2 ^ 128 → w ≤ u → IsCanonical set → AllFrom u set → AllByRecursion (λ t. slice_cmp nat_cmp (uuid_text w) t ≡ Less) (uuids_behind u set)
uuids-less [] w u small le c from = tt
uuids-less (i ∷ set) w u small le c from =
    elim (cases_Bool (u == i.uuid)) [
      | inl t ↦
          let same : u ≡ i.uuid = eqb-true u i.uuid t in
          rw t (uuids-less set w u small le c.2 (rw (← same) at (ends-from i set c.1)))
      | inr f ↦
          let more : u < i.uuid = let differ = eqb-false u i.uuid f in let low = from.0 in omega (arith, differ) in
          rw f (uuid_text-less w i.uuid small c.0.uuid (omega arith), uuids-less set w i.uuid small (omega arith) c.2 (ends-from i set c.1))
    ]

uuids-rise : (set : List Interval) (u : ℕ) → u < 2 ^ 128 → IsCanonical set → AllFrom u set → IsStrictlySortedBy (slice_cmp nat_cmp) (uuid_text u ∷ uuids_behind u set)
unfolding IsStrictlySortedBy
uuids-rise [] u small c from = (tt, tt)
uuids-rise (i ∷ set) u small c from = (
  uuids-less (i ∷ set) u u small (omega arith) c from,
  elim (cases_Bool (u == i.uuid)) [
    | inl t ↦
        let same : u ≡ i.uuid = eqb-true u i.uuid t in
        rw t ((uuids-rise set u small c.2 (rw (← same) at (ends-from i set c.1))).1)
    | inr f ↦ rw f (uuids-rise set i.uuid c.0.uuid c.2 (ends-from i set c.1))
  ],
)

pub printed-uuids-rise : (set : List Interval) → IsCanonical set → IsStrictlySortedBy (slice_cmp nat_cmp) (printed_uuids set)
unfolding IsStrictlySortedBy
printed-uuids-rise [] c = (tt, tt)
printed-uuids-rise (i ∷ set) c =
    let n = numbers_text i in
    subst (λ (l : List (List ℕ)). IsStrictlySortedBy (slice_cmp nat_cmp) l) (sym (tail-uuids set i.uuid n (canonical-intervals set c.2) (plain-inner n (numbers-plain i c.0))))
    (uuids-rise set i.uuid c.0.uuid c.2 (ends-from i set c.1))
