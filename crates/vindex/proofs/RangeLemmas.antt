-- What texts of key ranges are made of.
use Rattle.std.proofs.Common.{◌≡◌, ◌↔◌, inl, inr, ℕ, ◌+◌, ◌<◌, Bool, true, false, cond, ◌&&◌, eqb, ltb, List, [], ◌∷◌, ◌++◌, length, get_or, take, drop, Option, None, Some, Result, Ok, Err, refl, sym, ◌∙◌, ap, subst, length-append, arith}
use Rattle.std.specs.Prelude.{codes}
use Rattle.std.proofs.Math.Seq.{drop-append-add}
use Rattle.std.proofs.lemmas.Bool.{and_parts, eqb-true}
use Rattle.std.proofs.lemmas.Bool.Decides.{nat_tests}
use Rattle.std.proofs.lemmas.List.{take_at}
use Rattle.std.proofs.lemmas.List.Sums.{list_all-from_AllPass, split_at_first, passes_at_first}
use Rattle.std.proofs.lemmas.Slice.Eq.{bytes_eq-Decides}
use Rattle.std.specs.List.{before_first, after_first, list_all, list_any, position_or_len}
use Rattle.std.specs.Result.{result_ok}
use Rattle.std.specs.Str.{bytes_eq}
use Rattle.hex.specs.declared.error.FromHexError.{FromHexError}
use Rattle.hex.specs.Hex.{decode_of, is_hex_digit}
use Rattle.hex.proofs.HexLemmas.{decode_of-ok}
use Rattle.vindex.specs.Bounds.{Bounds, bounds_of, whole, is_ordered}
use Rattle.vindex.specs.RangeText.{bytes_of_hex, range_between, is_hyphen, key_range_of_text, WritesBounds, IsRangeText}

-- a list has an element that passes just where the first such place lies inside it
pub list_any-is : {X : Type 0} (p : X → Bool) (xs : List X) → list_any p xs ≡ ltb (position_or_len p xs) (length xs)
list_any-is p [] = refl
list_any-is p (x ∷ xs) = grind (arith, nat_tests, list_any-is p xs)

pub list_any-none : {X : Type 0} (p : X → Bool) (xs : List X) → position_or_len p xs ≡ length xs → list_any p xs ≡ false
list_any-none p xs e = grind (arith, nat_tests, list_any-is p xs)

-- a hyphen behind hexadecimal digits

not_hyphen : (c : ℕ) → is_hex_digit c ≡ true → eqb c 45 ≡ false
not_hyphen c digit =
    elim (eqb c 45) as (λ b. eqb c 45 ≡ b → b ≡ false) [
      | true ↦ λ e. sym (subst (λ x. is_hex_digit x ≡ true) (eqb-true c 45 e) digit)
      | false ↦ λ e. refl
    ] refl

hyphen_place : (first last : List ℕ) → list_all is_hex_digit first ≡ true → position_or_len is_hyphen (first ++ 45 ∷ last) ≡ length first
hyphen_place [] last digits = refl
hyphen_place (c ∷ first) last digits =
    let parts = and_parts (is_hex_digit c) (list_all is_hex_digit first) digits in
    grind (arith, nat_tests, not_hyphen c parts.0, hyphen_place first last parts.1)

and-false : (b : Bool) → (b && false) ≡ false
and-false true = refl
and-false false = refl

not_zero : (first last : List ℕ) → bytes_eq (first ++ 45 ∷ last) (codes "0") ≡ false
not_zero [] last = refl
not_zero (c ∷ []) last = and-false (eqb c 48)
not_zero (c ∷ d ∷ first) last = and-false (eqb c 48)

pick : (zero any : Bool) (bounds : Option Bounds) → zero ≡ false → any ≡ true → cond zero (Some whole) (cond any bounds None) ≡ bounds
pick true any bounds z a = cc
pick false true bounds z a = refl
pick false false bounds z a = cc

between : (first last start end : List ℕ) → decode_of first ≡ Ok start → decode_of last ≡ Ok end → is_ordered (bounds_of start end) ≡ true → key_range_of_text (first ++ 45 ∷ last) ≡ Some (bounds_of start end)
unfolding key_range_of_text
between first last start end start_digits end_digits ordered =
    let text : List ℕ = first ++ 45 ∷ last in
    let place : position_or_len is_hyphen text ≡ length first = hyphen_place first last (list_all-from_AllPass is_hex_digit first (decode_of-ok first start start_digits).1) in
    let some : list_any is_hyphen text ≡ true = grind (arith, nat_tests, list_any-is is_hyphen text, length-append first (45 ∷ last)) in
    let before : before_first is_hyphen text ≡ first = ap (λ n. take n text) place ∙ take_at first (45 ∷ last) (length first) refl in
    let after : after_first is_hyphen text ≡ last = ap (λ n. drop (n + 1) text) place ∙ drop-append-add first (45 ∷ last) 1 in
    let start_is : bytes_of_hex (before_first is_hyphen text) ≡ Some start = ap (λ ds. bytes_of_hex ds) before ∙ ap (λ r. result_ok r) start_digits in
    let end_is : bytes_of_hex (after_first is_hyphen text) ≡ Some end = ap (λ ds. bytes_of_hex ds) after ∙ ap (λ r. result_ok r) end_digits in
    pick (bytes_eq text (codes "0")) (list_any is_hyphen text) (range_between (bytes_of_hex (before_first is_hyphen text)) (bytes_of_hex (after_first is_hyphen text))) (not_zero first last) some
    ∙ ap (λ o. range_between o (bytes_of_hex (after_first is_hyphen text))) start_is
    ∙ ap (λ o. range_between (Some start) o) end_is
    ∙ ap (λ b. cond b (Some (bounds_of start end)) None) ordered

whole_read : key_range_of_text (codes "0") ≡ Some whole
unfolding key_range_of_text
whole_read = refl

-- a text that writes a range is read as that range
pub key_range_of_text-from_IsRangeText : (text : List ℕ) (bounds : Bounds) → IsRangeText text bounds → key_range_of_text text ≡ Some bounds
key_range_of_text-from_IsRangeText text bounds (inl h) =
    ap (λ t. key_range_of_text t) h.0 ∙ whole_read ∙ ap (λ b. Some b) (sym h.1)
key_range_of_text-from_IsRangeText text bounds (inr w) =
    ap (λ t. key_range_of_text t) w.parts ∙ between w.first w.last w.start w.end w.start_digits w.end_digits w.ordered ∙ ap (λ b. Some b) (sym w.between)

-- what two bounds make
made : (text first last : List ℕ) (bounds : Bounds) → text ≡ first ++ 45 ∷ last → (start end : Result (List ℕ) FromHexError) → decode_of first ≡ start → decode_of last ≡ end → range_between (result_ok start) (result_ok end) ≡ Some bounds → WritesBounds text bounds
made text first last bounds parts (Err e) end start_digits end_digits h = absurd (cc)
made text first last bounds parts (Ok start) (Err e) start_digits end_digits h = absurd (cc)
made text first last bounds parts (Ok start) (Ok end) start_digits end_digits h =
    elim (is_ordered (bounds_of start end)) as (λ b. is_ordered (bounds_of start end) ≡ b → cond b (Some (bounds_of start end)) None ≡ Some bounds → WritesBounds text bounds) [
      | true ↦ λ ordered e. record {
        first = first;
        last = last;
        start = start;
        end = end;
        parts = parts;
        start_digits = start_digits;
        end_digits = end_digits;
        ordered = ordered;
        between = cc;
      }
      | false ↦ λ ordered e. absurd (cc)
    ] refl h

-- a text that is read as a range writes it
pub IsRangeText-from_key_range_of_text : (text : List ℕ) (bounds : Bounds) → key_range_of_text text ≡ Some bounds → IsRangeText text bounds
unfolding key_range_of_text
IsRangeText-from_key_range_of_text text bounds h =
    elim (bytes_eq text (codes "0")) as (λ b. bytes_eq text (codes "0") ≡ b → cond b (Some whole) (cond (list_any is_hyphen text) (range_between (bytes_of_hex (before_first is_hyphen text)) (bytes_of_hex (after_first is_hyphen text))) None) ≡ Some bounds → IsRangeText text bounds) [
      | true ↦ λ zero e. inl ((bytes_eq-Decides text (codes "0")).0 zero, cc)
      | false ↦ λ zero e.
          elim (list_any is_hyphen text) as (λ b. list_any is_hyphen text ≡ b → cond b (range_between (bytes_of_hex (before_first is_hyphen text)) (bytes_of_hex (after_first is_hyphen text))) None ≡ Some bounds → IsRangeText text bounds) [
            | true ↦ λ some e'.
                let inside : position_or_len is_hyphen text < length text = grind (arith, nat_tests, list_any-is is_hyphen text) in
                let hyphen : get_or text (position_or_len is_hyphen text) 0 ≡ 45 = eqb-true (get_or text (position_or_len is_hyphen text) 0) 45 (passes_at_first is_hyphen text 0 inside) in
                let parts : text ≡ before_first is_hyphen text ++ 45 ∷ after_first is_hyphen text = split_at_first is_hyphen text 0 inside ∙ ap (λ c. before_first is_hyphen text ++ c ∷ after_first is_hyphen text) hyphen in
                inr (made text (before_first is_hyphen text) (after_first is_hyphen text) bounds parts (decode_of (before_first is_hyphen text)) (decode_of (after_first is_hyphen text)) refl refl e')
            | false ↦ λ none e'. absurd (cc)
          ] refl e
    ] refl h

-- the texts that are read as a range are those that write it
pub reads_what_is_written : (text : List ℕ) (bounds : Bounds) → (key_range_of_text text ≡ Some bounds) ↔ IsRangeText text bounds
reads_what_is_written text bounds = (IsRangeText-from_key_range_of_text text bounds, key_range_of_text-from_IsRangeText text bounds)
