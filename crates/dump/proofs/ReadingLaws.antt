-- What is read off the front of a text is what is spelled there.
use Rattle.std.proofs.Common.{◌≡◌, ℕ, zero, suc, ◌+◌, ◌-◌, ◌*◌, ◌/◌, ◌%◌, ◌<◌, ◌≤◌, List, [], ◌∷◌, ◌++◌, length, true, false, refl, sym, ap, ◌∙◌, append_assoc, append-nil, Bool, Option, Some, None, arith, subst, map, take, get_or, cond, ◌⊎◌, inl, inr, Result, Ok, Err}
use Rattle.std.specs.Prelude.{◌==◌, ◌&&◌, nat_le, IfSome, slice_index, IsOk}
use Rattle.std.specs.List.{AllByRecursion}
use Rattle.std.specs.Option.{option_and_then, option_map}
use Rattle.std.proofs.lemmas.List.{map-append, take_more}
use Rattle.std.proofs.lemmas.List.Concat.{flat_map-cons}
use Rattle.row_view.specs.Row.{row_of_message}
use Rattle.row_view.specs.WrittenRow.{IsWithinLimits}
use Rattle.std.proofs.lemmas.Bool.Decides.{nat_tests}
use Rattle.std.proofs.lemmas.Option.{same_Some}
use Rattle.hex.specs.Hex.{encode_lower, encode_with, lower_digits}
use Rattle.dump.specs.Cells.{cell, cells}
use Rattle.dump.specs.Dump.{row_line}
use Rattle.dump.specs.DumpReading.{AreByteValues, BeginsAsRow}
use Rattle.dump.specs.Private.Reading.{digit_of, with_pair, bytes_front, cell_front, behind_byte, pair_front, with_column, with_columns, cells_front, row_front, TakesCell, TakesCells, TakesSoFar, IsRowLine, TakesRow, TakesMessage, NoRowIn}
use Rattle.dump.specs.DumpRowsValue.{RowValue}

-- ---- digits

-- the digit of a value is read as the value
pub digit_there : (d : ℕ) → d < 16 → digit_of (slice_index lower_digits d) ≡ Some d
digit_there zero lt = refl
digit_there (suc zero) lt = refl
digit_there (suc (suc zero)) lt = refl
digit_there (suc (suc (suc zero))) lt = refl
digit_there (suc (suc (suc (suc zero)))) lt = refl
digit_there (suc (suc (suc (suc (suc zero))))) lt = refl
digit_there (suc (suc (suc (suc (suc (suc zero)))))) lt = refl
digit_there (suc (suc (suc (suc (suc (suc (suc zero))))))) lt = refl
digit_there (suc (suc (suc (suc (suc (suc (suc (suc zero)))))))) lt = refl
digit_there (suc (suc (suc (suc (suc (suc (suc (suc (suc zero))))))))) lt = refl
digit_there (suc (suc (suc (suc (suc (suc (suc (suc (suc (suc zero)))))))))) lt = refl
digit_there (suc (suc (suc (suc (suc (suc (suc (suc (suc (suc (suc zero))))))))))) lt = refl
digit_there (suc (suc (suc (suc (suc (suc (suc (suc (suc (suc (suc (suc zero)))))))))))) lt = refl
digit_there (suc (suc (suc (suc (suc (suc (suc (suc (suc (suc (suc (suc (suc zero))))))))))))) lt = refl
digit_there (suc (suc (suc (suc (suc (suc (suc (suc (suc (suc (suc (suc (suc (suc zero)))))))))))))) lt = refl
digit_there (suc (suc (suc (suc (suc (suc (suc (suc (suc (suc (suc (suc (suc (suc (suc zero))))))))))))))) lt = refl
digit_there (suc (suc (suc (suc (suc (suc (suc (suc (suc (suc (suc (suc (suc (suc (suc (suc n)))))))))))))))) lt = absurd (omega arith)

-- the characters of digits
low_digit : (d : ℕ) → d < 10 → slice_index lower_digits d ≡ 48 + d
low_digit zero lt = refl
low_digit (suc zero) lt = refl
low_digit (suc (suc zero)) lt = refl
low_digit (suc (suc (suc zero))) lt = refl
low_digit (suc (suc (suc (suc zero)))) lt = refl
low_digit (suc (suc (suc (suc (suc zero))))) lt = refl
low_digit (suc (suc (suc (suc (suc (suc zero)))))) lt = refl
low_digit (suc (suc (suc (suc (suc (suc (suc zero))))))) lt = refl
low_digit (suc (suc (suc (suc (suc (suc (suc (suc zero)))))))) lt = refl
low_digit (suc (suc (suc (suc (suc (suc (suc (suc (suc zero))))))))) lt = refl
low_digit (suc (suc (suc (suc (suc (suc (suc (suc (suc (suc n)))))))))) lt = absurd (omega arith)

high_digit : (d : ℕ) → d < 6 → slice_index lower_digits (d + 10) ≡ 97 + d
high_digit zero lt = refl
high_digit (suc zero) lt = refl
high_digit (suc (suc zero)) lt = refl
high_digit (suc (suc (suc zero))) lt = refl
high_digit (suc (suc (suc (suc zero)))) lt = refl
high_digit (suc (suc (suc (suc (suc zero))))) lt = refl
high_digit (suc (suc (suc (suc (suc (suc n)))))) lt = absurd (omega arith)

-- what is read as a value is its digit
abbrev pub IsDigit : ℕ → ℕ → Type 0
IsDigit c d = (d < 16) × (slice_index lower_digits d ≡ c)

digit_low : (c d : ℕ) → 48 ≤ c → c ≤ 57 → d ≡ c - 48 → IsDigit c d
digit_low c d low high e = (omega arith, low_digit d (omega arith) ∙ omega arith)

digit_high : (c d : ℕ) → 97 ≤ c → c ≤ 102 → d ≡ c - 87 → IsDigit c d
digit_high c d low high e =
    let k : ℕ = c - 97 in
    let is : k + 10 ≡ d = omega arith in
    (omega arith, ap (slice_index lower_digits) (sym is) ∙ high_digit k (omega arith) ∙ omega arith)

pub digit_is : (c d : ℕ) → digit_of c ≡ Some d → IsDigit c d
digit_is c d e = by (nat_le 48 c && nat_le c 57) (nat_le 97 c && nat_le c 102) refl refl
  where
    by : (low high : Bool) → (nat_le 48 c && nat_le c 57) ≡ low → (nat_le 97 c && nat_le c 102) ≡ high → IsDigit c d
    by true high p q =
        let some : Some (c - 48) ≡ Some d = rw p at e in
        digit_low c d (grind (arith, nat_tests, p)) (grind (arith, nat_tests, p)) (cc)
    by false true p q =
        let some : Some (c - 87) ≡ Some d = rw (p, q) at e in
        digit_high c d (grind (arith, nat_tests, q)) (grind (arith, nat_tests, q)) (cc)
    by false false p q = let none : None ≡ Some d = rw (p, q) at e in cc

-- ---- bytes

abbrev AreAllBytes : List ℕ → Type 0
AreAllBytes = AllByRecursion (λ byte. byte < 256)

spelled_pair : (h l x y : ℕ) (v : List ℕ) → IsDigit h x → IsDigit l y → encode_lower ((x * 16 + y) ∷ v) ≡ h ∷ l ∷ encode_lower v
unfolding encode_with
spelled_pair h l x y v a b =
    let lt : y < 16 = b.0 in
    let high : (x * 16 + y) / 16 ≡ x = omega arith in
    let low : (x * 16 + y) % 16 ≡ y = omega arith in
    rw (high, low, a.1, b.1) refl

-- what is in front and what is behind are the text
abbrev IsSpelled : List ℕ → List ℕ × List ℕ → Type 0
IsSpelled text front = (text ≡ encode_lower front.0 ++ front.1) × AreAllBytes front.0

pair_is : (high low : ℕ) (rest : List ℕ) (h l : Option ℕ) → digit_of high ≡ h → digit_of low ≡ l → IsSpelled rest (bytes_front rest) → IsSpelled (high ∷ low ∷ rest) (with_pair h l (bytes_front rest) ([], high ∷ low ∷ rest))
unfolding encode_with
pair_is high low rest None None a b others = (refl, tt)
pair_is high low rest None (Some y) a b others = (refl, tt)
pair_is high low rest (Some x) None a b others = (refl, tt)
pair_is high low rest (Some x) (Some y) a b others =
    let p = digit_is high x a in
    let q = digit_is low y b in
    let front = bytes_front rest in
    let bound : x * 16 + y < 256 = omega (arith, p.0, q.0) in (
      ap (λ (t : List ℕ). high ∷ low ∷ t) others.0 ∙ ap (λ (t : List ℕ). t ++ front.1) (sym (spelled_pair high low x y front.0 p q)),
      (bound, others.1),
    )

bytes_are : (text : List ℕ) → IsSpelled text (bytes_front text)
unfolding bytes_front encode_with
bytes_are [] = (refl, tt)
bytes_are (last ∷ []) = (refl, tt)
bytes_are (high ∷ low ∷ rest) = pair_is high low rest (digit_of high) (digit_of low) refl refl (bytes_are rest)

no_pair : (l : Option ℕ) (others stop : List ℕ × List ℕ) → with_pair None l others stop ≡ stop
no_pair None others stop = refl
no_pair (Some y) others stop = refl

pub bytes_there : (v : List ℕ) (s : ℕ) (r : List ℕ) → AreAllBytes v → digit_of s ≡ None → bytes_front (encode_lower v ++ s ∷ r) ≡ (v, s ∷ r)
unfolding bytes_front encode_with
bytes_there [] s [] all stop = refl
bytes_there [] s (l ∷ r) all stop = ap (λ (o : Option ℕ). with_pair o (digit_of l) (bytes_front r) ([], s ∷ l ∷ r)) stop ∙ no_pair (digit_of l) (bytes_front r) ([], s ∷ l ∷ r)
bytes_there (b ∷ v) s r all stop =
    let small : b < 256 = all.0 in
    let high : b / 16 < 16 = omega arith in
    let low : b % 16 < 16 = omega arith in
    let whole : b / 16 * 16 + b % 16 ≡ b = omega arith in
    let text : List ℕ = slice_index lower_digits (b / 16) ∷ slice_index lower_digits (b % 16) ∷ encode_with lower_digits v ++ s ∷ r in
    ap (λ (o : Option ℕ). with_pair o (digit_of (slice_index lower_digits (b % 16))) (bytes_front (encode_with lower_digits v ++ s ∷ r)) ([], text)) (digit_there (b / 16) high)
    ∙ ap (λ (o : Option ℕ). with_pair (Some (b / 16)) o (bytes_front (encode_with lower_digits v ++ s ∷ r)) ([], text)) (digit_there (b % 16) low)
    ∙ ap (λ (others : List ℕ × List ℕ). ((b / 16 * 16 + b % 16) ∷ others.0, others.1)) (bytes_there v s r all.1 stop)
    ∙ ap (λ (x : ℕ). (x ∷ v, s ∷ r)) whole

-- ---- cells

cell_there : (c : Option (List ℕ)) (s : ℕ) (r : List ℕ) → IfSome c AreAllBytes → digit_of s ≡ None → cell_front (cell c ++ s ∷ r) ≡ Some (c, s ∷ r)
cell_there None s r all stop = refl
cell_there (Some v) s r all stop = ap (λ (p : List ℕ × List ℕ). Some (Some p.0, p.1)) (bytes_there v s r all stop)

abbrev IsCell : List ℕ → Option (List ℕ) × List ℕ → Type 0
IsCell text p = (text ≡ cell p.0 ++ p.1) × IfSome p.0 AreAllBytes

cell_is : (text : List ℕ) (p : Option (List ℕ) × List ℕ) → cell_front text ≡ Some p → IsCell text p
cell_is [] p e = cc
cell_is (first ∷ t) p e = by (first == 78) (first == 120) refl refl
  where
    by : (null value : Bool) → (first == 78) ≡ null → (first == 120) ≡ value → IsCell (first ∷ t) p
    by true value a b =
        let n : first ≡ 78 = grind (arith, nat_tests, a) in
        let some : Some (None, t) ≡ Some p = rw a at e in
        subst (IsCell (first ∷ t)) (same_Some (None, t) p some) (ap (λ (x : ℕ). x ∷ t) n, tt)
    by false true a b =
        let n : first ≡ 120 = grind (arith, nat_tests, b) in
        let some : Some (Some (bytes_front t).0, (bytes_front t).1) ≡ Some p = rw (a, b) at e in
        let are = bytes_are t in
        subst (IsCell (first ∷ t)) (same_Some (Some (bytes_front t).0, (bytes_front t).1) p some) (ap (λ (x : ℕ). x ∷ t) n ∙ ap (λ (l : List ℕ). 120 ∷ l) are.0, are.1)
    by false false a b = let none : None ≡ Some p = rw (a, b) at e in cc

byte_is : (byte : ℕ) (text rest : List ℕ) → behind_byte byte text ≡ Some rest → text ≡ byte ∷ rest
byte_is byte [] rest e = cc
byte_is byte (first ∷ t) rest e = by (first == byte) refl
  where
    by : (same : Bool) → (first == byte) ≡ same → first ∷ t ≡ byte ∷ rest
    by true a =
        let n : first ≡ byte = grind (arith, nat_tests, a) in
        let some : Some t ≡ Some rest = rw a at e in
        let others : t ≡ rest = cc in
        λ i. n i ∷ others i
    by false a = let none : None ≡ Some rest = rw a at e in cc

-- ---- cells, each behind a tab

cells_first : (c : Option (List ℕ)) (cs : RowValue) (r : List ℕ) → cells (c ∷ cs) ++ r ≡ 9 ∷ (cell c ++ (cells cs ++ r))
cells_first c cs r =
    ap (λ (t : List ℕ). t ++ r) (flat_map-cons (λ (column : Option (List ℕ)). 9 ∷ cell column) c cs) ∙ append_assoc (9 ∷ cell c) (cells cs) r

-- what stands behind a cell is no digit
ends : (cs : RowValue) (r : List ℕ) → (s : ℕ) × (others : List ℕ) × (digit_of s ≡ None) × (cells cs ++ 10 ∷ r ≡ s ∷ others)
ends [] r = (10, r, refl, refl)
ends (c ∷ cs) r = (9, cell c ++ (cells cs ++ 10 ∷ r), refl, cells_first c cs (10 ∷ r))

cells_there : (cs : RowValue) (r : List ℕ) → AreByteValues cs → cells_front (length cs) (cells cs ++ 10 ∷ r) ≡ Some (cs, 10 ∷ r)
cells_there [] r all = refl
cells_there (c ∷ cs) r all =
    let behind = ends cs r in
    let found : cell_front (cell c ++ (cells cs ++ 10 ∷ r)) ≡ Some (c, cells cs ++ 10 ∷ r) =
    subst (λ (l : List ℕ). cell_front (cell c ++ l) ≡ Some (c, l)) (sym behind.3) (cell_there c behind.0 behind.1 all.0 behind.2) in
    ap (cells_front (length (c ∷ cs))) (cells_first c cs (10 ∷ r))
    ∙ ap (λ (o : Option (Option (List ℕ) × List ℕ)). option_and_then (λ first. with_column first.0 (cells_front (length cs) first.1)) o) found
    ∙ ap (with_column c) (cells_there cs r all.1)

abbrev AreCells : ℕ → List ℕ → RowValue × List ℕ → Type 0
AreCells n text p = (text ≡ cells p.0 ++ p.1) × (length p.0 ≡ n) × AreByteValues p.0

cells_more : (n : ℕ) (text t u w : List ℕ) (c : Option (List ℕ)) (ds : RowValue) → text ≡ 9 ∷ t → IsCell t (c, u) → AreCells n u (ds, w) → AreCells (suc n) text (c ∷ ds, w)
cells_more n text t u w c ds tab first others = (
  tab ∙ ap (λ (l : List ℕ). 9 ∷ l) (first.0 ∙ ap (λ (l : List ℕ). cell c ++ l) others.0) ∙ sym (cells_first c ds w),
  ap suc others.1,
  (first.1, others.2),
)

cells_behind : (n : ℕ) (text t u : List ℕ) (c : Option (List ℕ)) (p : RowValue × List ℕ) (o : Option (RowValue × List ℕ)) → text ≡ 9 ∷ t → IsCell t (c, u) → ((q : RowValue × List ℕ) → o ≡ Some q → AreCells n u q)
    → with_column c o ≡ Some p → AreCells (suc n) text p
cells_behind n text t u c p None tab first others e = cc
cells_behind n text t u c p (Some q) tab first others e =
    subst (AreCells (suc n) text) (same_Some (c ∷ q.0, q.1) p e) (cells_more n text t u q.1 c q.0 tab first (others q refl))

cell_behind : (n : ℕ) (text t : List ℕ) (p : RowValue × List ℕ) (o : Option (Option (List ℕ) × List ℕ)) → text ≡ 9 ∷ t → cell_front t ≡ o → ((u : List ℕ) (q : RowValue × List ℕ) → cells_front n u ≡ Some q → AreCells n u q)
    → option_and_then (λ first. with_column first.0 (cells_front n first.1)) o ≡ Some p → AreCells (suc n) text p
cell_behind n text t p None tab is others e = cc
cell_behind n text t p (Some first) tab is others e = cells_behind n text t first.1 first.0 p (cells_front n first.1) tab (cell_is t first is) (others first.1) e

tab_behind : (n : ℕ) (text : List ℕ) (p : RowValue × List ℕ) (o : Option (List ℕ)) → behind_byte 9 text ≡ o → ((u : List ℕ) (q : RowValue × List ℕ) → cells_front n u ≡ Some q → AreCells n u q)
    → option_and_then (λ rest. option_and_then (λ first. with_column first.0 (cells_front n first.1)) (cell_front rest)) o ≡ Some p → AreCells (suc n) text p
tab_behind n text p None is others e = cc
tab_behind n text p (Some t) is others e = cell_behind n text t p (cell_front t) (byte_is 9 text t is) refl others e

cells_are : (n : ℕ) (text : List ℕ) (p : RowValue × List ℕ) → cells_front n text ≡ Some p → AreCells n text p
cells_are zero text p e = subst (AreCells zero text) (same_Some ([], text) p e) (refl, refl, tt)
cells_are (suc n) text p e = tab_behind n text p (behind_byte 9 text) refl (cells_are n) e

-- ---- rows

line_parts : (c : Option (List ℕ)) (cs : RowValue) (r : List ℕ) → row_line (c ∷ cs) ++ r ≡ cell c ++ (cells cs ++ 10 ∷ r)
line_parts c cs r = append_assoc (cell c ++ cells cs) (10 ∷ []) r ∙ append_assoc (cell c) (cells cs) (10 ∷ r)

-- a row's line in front is read as the row
pub row_there : (n : ℕ) (row : RowValue) (r : List ℕ) → length row ≡ suc n → AreByteValues row → row_front n (row_line row ++ r) ≡ Some (row, r)
row_there n [] r width all = absurd (omega arith)
row_there n (c ∷ cs) r width all =
    let behind = ends cs r in
    let count : length cs ≡ n = omega arith in
    let found : cell_front (cell c ++ (cells cs ++ 10 ∷ r)) ≡ Some (c, cells cs ++ 10 ∷ r) =
    subst (λ (l : List ℕ). cell_front (cell c ++ l) ≡ Some (c, l)) (sym behind.3) (cell_there c behind.0 behind.1 all.0 behind.2) in
    let rest : cells_front n (cells cs ++ 10 ∷ r) ≡ Some (cs, 10 ∷ r) = subst (λ (k : ℕ). cells_front k (cells cs ++ 10 ∷ r) ≡ Some (cs, 10 ∷ r)) count (cells_there cs r all.1) in
    ap (row_front n) (line_parts c cs r)
    ∙ ap (λ (o : Option (Option (List ℕ) × List ℕ)). option_and_then (λ first. option_and_then (λ others. option_map (λ rest. (first.0 ∷ others.0, rest)) (behind_byte 10 others.1)) (cells_front n first.1)) o) found
    ∙ ap (λ (o : Option (RowValue × List ℕ)). option_and_then (λ others. option_map (λ rest. (c ∷ others.0, rest)) (behind_byte 10 others.1)) o) rest

-- what is read as a row is its line
pub row_is : (n : ℕ) (text t u rest : List ℕ) (c : Option (List ℕ)) (cs : RowValue) → cell_front text ≡ Some (c, t) → cells_front n t ≡ Some (cs, u) → behind_byte 10 u ≡ Some rest
    → (text ≡ row_line (c ∷ cs) ++ rest) × (length (c ∷ cs) ≡ suc n) × AreByteValues (c ∷ cs)
row_is n text t u rest c cs first others end =
    let a = cell_is text (c, t) first in
    let b = cells_are n t (cs, u) others in
    (a.0 ∙ ap (λ (l : List ℕ). cell c ++ l) (b.0 ∙ ap (λ (l : List ℕ). cells cs ++ l) (byte_is 10 u rest end)) ∙ sym (line_parts c cs rest), ap suc b.1, (a.1, b.2))

-- ---- the loops

front_more : (text : List ℕ) (p : ℕ × List ℕ) → pair_front text ≡ Some p → bytes_front text ≡ (p.0 ∷ (bytes_front p.1).0, (bytes_front p.1).1)
unfolding bytes_front
front_more [] p e = cc
front_more (last ∷ []) p e = cc
front_more (high ∷ low ∷ rest) p e = by (digit_of high) (digit_of low) e
  where
    by : (h l : Option ℕ) → option_and_then (λ x. option_map (λ y. (x * 16 + y, rest)) l) h ≡ Some p → with_pair h l (bytes_front rest) ([], high ∷ low ∷ rest) ≡ (p.0 ∷ (bytes_front p.1).0, (bytes_front p.1).1)
    by None None e = cc
    by None (Some y) e = cc
    by (Some x) None e = cc
    by (Some x) (Some y) e = ap (λ (q : ℕ × List ℕ). (q.0 ∷ (bytes_front q.1).0, (bytes_front q.1).1)) (same_Some (x * 16 + y, rest) p e)

-- a byte more
pub bytes_more : (whole : List ℕ × List ℕ) (old text rest : List ℕ) (byte : ℕ) → whole ≡ (old ++ (bytes_front text).0, (bytes_front text).1) → pair_front text ≡ Some (byte, rest)
    → whole ≡ ((old ++ byte ∷ []) ++ (bytes_front rest).0, (bytes_front rest).1)
bytes_more whole old text rest byte is pair =
    is ∙ ap (λ (q : List ℕ × List ℕ). (old ++ q.0, q.1)) (front_more text (byte, rest) pair)
    ∙ ap (λ (l : List ℕ). (l, (bytes_front rest).1)) (sym (append_assoc old (byte ∷ []) (bytes_front rest).0))

-- a piece more
pub piece_more : (whole : List ℕ × List ℕ) (old piece text rest : List ℕ) → whole ≡ (old ++ (bytes_front text).0, (bytes_front text).1) → bytes_front text ≡ (piece ++ (bytes_front rest).0, (bytes_front rest).1)
    → whole ≡ ((old ++ piece) ++ (bytes_front rest).0, (bytes_front rest).1)
piece_more whole old piece text rest is taken =
    is ∙ ap (λ (q : List ℕ × List ℕ). (old ++ q.0, q.1)) taken
    ∙ ap (λ (l : List ℕ). (l, (bytes_front rest).1)) (sym (append_assoc old piece (bytes_front rest).0))

front_ends : (text : List ℕ) → pair_front text ≡ None → bytes_front text ≡ ([], text)
unfolding bytes_front
front_ends [] e = refl
front_ends (last ∷ []) e = refl
front_ends (high ∷ low ∷ rest) e = by (digit_of high) (digit_of low) e
  where
    by : (h l : Option ℕ) → option_and_then {U = ℕ × List ℕ} (λ x. option_map (λ y. (x * 16 + y, rest)) l) h ≡ None → with_pair h l (bytes_front rest) ([], high ∷ low ∷ rest) ≡ ([], high ∷ low ∷ rest)
    by None None e = refl
    by None (Some y) e = refl
    by (Some x) None e = refl
    by (Some x) (Some y) e = cc

-- no byte more
pub bytes_end : (whole : List ℕ × List ℕ) (old text : List ℕ) → whole ≡ (old ++ (bytes_front text).0, (bytes_front text).1) → pair_front text ≡ None → whole ≡ (old, text)
bytes_end whole old text is none =
    is ∙ ap (λ (q : List ℕ × List ℕ). (old ++ q.0, q.1)) (front_ends text none) ∙ ap (λ (l : List ℕ). (l, text)) (append-nil old)

with_nothing : (o : Option (RowValue × List ℕ)) → o ≡ with_columns [] o
with_nothing None = refl
with_nothing (Some p) = refl

with_one_more : (columns : RowValue) (c : Option (List ℕ)) (o : Option (RowValue × List ℕ)) → with_columns columns (with_column c o) ≡ with_columns (columns ++ c ∷ []) o
with_one_more columns c None = refl
with_one_more columns c (Some p) = ap (λ (row : RowValue). Some (row, p.1)) (sym (append_assoc columns (c ∷ []) p.0))

pub cells_start : (count left : ℕ) (now : RowValue) (text : List ℕ) → count ≡ left → TakesSoFar count left now now text text
cells_start count left now text is = record { columns = []; front = ap (λ (n : ℕ). cells_front n text) is ∙ with_nothing (cells_front left text); pushed = sym (append-nil now) }

-- what is left, where there is a tab in front
behind_tab : (k : ℕ) (rest t : List ℕ) → behind_byte 9 rest ≡ Some t → cells_front (suc k) rest ≡ option_and_then (λ first. with_column first.0 (cells_front k first.1)) (cell_front t)
behind_tab k rest t tab = ap (λ (o : Option (List ℕ)). option_and_then (λ t. option_and_then (λ first. with_column first.0 (cells_front k first.1)) (cell_front t)) o) tab

pub cells_step : (count left k : ℕ) (old now new : RowValue) (text rest t behind : List ℕ) → left ≡ suc k → behind_byte 9 rest ≡ Some t → TakesCell now new t behind → TakesSoFar count left old now text rest → TakesSoFar count k old new text behind
cells_step count left k old now new text rest t behind is tab cell so_far = record {
  columns = so_far.columns ++ cell.column ∷ [];
  front =
      so_far.front
      ∙ ap (λ (n : ℕ). with_columns so_far.columns (cells_front n rest)) is
      ∙ ap (with_columns so_far.columns) (behind_tab k rest t tab ∙ ap (λ (o : Option (Option (List ℕ) × List ℕ)). option_and_then (λ first. with_column first.0 (cells_front k first.1)) o) cell.front)
      ∙ with_one_more so_far.columns cell.column (cells_front k behind);
  pushed = cell.pushed ∙ ap (λ (row : RowValue). row ++ cell.column ∷ []) so_far.pushed ∙ append_assoc old so_far.columns (cell.column ∷ []);
}

-- there is no tab, or no cell behind it
pub no_tab : (count left k : ℕ) (old now : RowValue) (text rest : List ℕ) → left ≡ suc k → behind_byte 9 rest ≡ None → TakesSoFar count left old now text rest → cells_front count text ≡ None
no_tab count left k old now text rest is none so_far =
    so_far.front
    ∙ ap (λ (n : ℕ). with_columns so_far.columns (cells_front n rest)) is
    ∙ ap (λ (o : Option (List ℕ)). with_columns so_far.columns (option_and_then (λ t. option_and_then (λ first. with_column first.0 (cells_front k first.1)) (cell_front t)) o)) none

pub no_cell : (count left k : ℕ) (old now : RowValue) (text rest t : List ℕ) → left ≡ suc k → behind_byte 9 rest ≡ Some t → cell_front t ≡ None → TakesSoFar count left old now text rest → cells_front count text ≡ None
no_cell count left k old now text rest t is tab none so_far =
    so_far.front
    ∙ ap (λ (n : ℕ). with_columns so_far.columns (cells_front n rest)) is
    ∙ ap (with_columns so_far.columns) (behind_tab k rest t tab ∙ ap (λ (o : Option (Option (List ℕ) × List ℕ)). option_and_then (λ first. with_column first.0 (cells_front k first.1)) o) none)

pub cells_end : (count left : ℕ) (old now : RowValue) (text rest : List ℕ) → left ≡ 0 → TakesSoFar count left old now text rest → TakesCells count old now text rest
cells_end count left old now text rest none so_far = record {
  columns = so_far.columns;
  front = so_far.front ∙ ap (λ (n : ℕ). with_columns so_far.columns (cells_front n rest)) none ∙ ap (λ (row : RowValue). Some (row, rest)) (append-nil so_far.columns);
  pushed = so_far.pushed;
}

-- the line of a row: its first cell, the others and the end
pub line_taken : (count : ℕ) (none now new : RowValue) (text t u rest : List ℕ) → none ≡ [] → TakesCell none now text t → TakesCells count now new t u → behind_byte 10 u ≡ Some rest → row_front count text ≡ Some (new, rest)
line_taken count none now new text t u rest is first others end =
    let all : first.column ∷ others.columns ≡ new =
    sym (others.pushed ∙ ap (λ (row : RowValue). row ++ others.columns) (first.pushed ∙ ap (λ (row : RowValue). row ++ first.column ∷ []) is)) in
    ap (λ (o : Option (Option (List ℕ) × List ℕ)). option_and_then (λ first. option_and_then (λ others. option_map (λ rest. (first.0 ∷ others.0, rest)) (behind_byte 10 others.1)) (cells_front count first.1)) o) first.front
    ∙ ap (λ (o : Option (RowValue × List ℕ)). option_and_then (λ others. option_map (λ rest. (first.column ∷ others.0, rest)) (behind_byte 10 others.1)) o) others.front
    ∙ ap (λ (o : Option (List ℕ)). option_map (λ rest. (first.column ∷ others.columns, rest)) o) end
    ∙ ap (λ (row : RowValue). Some (row, rest)) all

pub line_no_first : (count : ℕ) (text : List ℕ) → cell_front text ≡ None → row_front count text ≡ None
line_no_first count text none =
    ap (λ (o : Option (Option (List ℕ) × List ℕ)). option_and_then (λ first. option_and_then (λ others. option_map (λ rest. (first.0 ∷ others.0, rest)) (behind_byte 10 others.1)) (cells_front count first.1)) o) none

pub line_no_others : (count : ℕ) (none now : RowValue) (text t : List ℕ) → TakesCell none now text t → cells_front count t ≡ None → row_front count text ≡ None
line_no_others count none now text t first missing =
    ap (λ (o : Option (Option (List ℕ) × List ℕ)). option_and_then (λ first. option_and_then (λ others. option_map (λ rest. (first.0 ∷ others.0, rest)) (behind_byte 10 others.1)) (cells_front count first.1)) o) first.front
    ∙ ap (λ (o : Option (RowValue × List ℕ)). option_and_then (λ others. option_map (λ rest. (first.column ∷ others.0, rest)) (behind_byte 10 others.1)) o) missing

pub line_no_end : (count : ℕ) (none now new : RowValue) (text t u : List ℕ) → TakesCell none now text t → TakesCells count now new t u → behind_byte 10 u ≡ None → row_front count text ≡ None
line_no_end count none now new text t u first others missing =
    ap (λ (o : Option (Option (List ℕ) × List ℕ)). option_and_then (λ first. option_and_then (λ others. option_map (λ rest. (first.0 ∷ others.0, rest)) (behind_byte 10 others.1)) (cells_front count first.1)) o) first.front
    ∙ ap (λ (o : Option (RowValue × List ℕ)). option_and_then (λ others. option_map (λ rest. (first.column ∷ others.0, rest)) (behind_byte 10 others.1)) o) others.front
    ∙ ap (λ (o : Option (List ℕ)). option_map (λ rest. (first.column ∷ others.columns, rest)) o) missing

-- ---- columns as they are lent

pub map_more : {A B C : Type 0} (g : A → C) (f : B → C) (xs : List A) (ys : List B) (i : ℕ) (x : A) (d : B) → map g xs ≡ map f (take i ys) → g x ≡ f (get_or ys i d) → i < length ys → map g (xs ++ x ∷ []) ≡ map f (take (i + 1) ys)
map_more {A} {B} {C} g f xs ys i x d so_far same lt =
    map-append g xs (x ∷ [])
    ∙ ap (λ (l : List C). l ++ g x ∷ []) so_far
    ∙ ap (λ (z : C). map f (take i ys) ++ z ∷ []) same
    ∙ sym (map-append f (take i ys) (get_or ys i d ∷ []))
    ∙ ap (map f) (sym (take_more ys i d lt))

-- ---- what is read is spelled, and what is spelled is read

end_behind : (n : ℕ) (text t u : List ℕ) (c : Option (List ℕ)) (cs : RowValue) (p : RowValue × List ℕ) (o : Option (List ℕ)) → cell_front text ≡ Some (c, t) → cells_front n t ≡ Some (cs, u) → behind_byte 10 u ≡ o
    → option_map (λ rest. (c ∷ cs, rest)) o ≡ Some p → IsRowLine (suc n) text p
end_behind n text t u c cs p None first others is e = cc
end_behind n text t u c cs p (Some rest) first others is e = subst (IsRowLine (suc n) text) (same_Some (c ∷ cs, rest) p e) (row_is n text t u rest c cs first others is)

others_behind : (n : ℕ) (text t : List ℕ) (c : Option (List ℕ)) (p : RowValue × List ℕ) (o : Option (RowValue × List ℕ)) → cell_front text ≡ Some (c, t) → cells_front n t ≡ o
    → option_and_then (λ others. option_map (λ rest. (c ∷ others.0, rest)) (behind_byte 10 others.1)) o ≡ Some p → IsRowLine (suc n) text p
others_behind n text t c p None first is e = cc
others_behind n text t c p (Some q) first is e = end_behind n text t q.1 c q.0 p (behind_byte 10 q.1) first is refl e

first_cell_behind : (n : ℕ) (text : List ℕ) (p : RowValue × List ℕ) (o : Option (Option (List ℕ) × List ℕ)) → cell_front text ≡ o
    → option_and_then (λ first. option_and_then (λ others. option_map (λ rest. (first.0 ∷ others.0, rest)) (behind_byte 10 others.1)) (cells_front n first.1)) o ≡ Some p → IsRowLine (suc n) text p
first_cell_behind n text p None is e = cc
first_cell_behind n text p (Some q) is e = others_behind n text q.1 q.0 p (cells_front n q.1) is refl e

pub row_front_is : (n : ℕ) (text : List ℕ) (p : RowValue × List ℕ) → row_front n text ≡ Some p → IsRowLine (suc n) text p
row_front_is n text p e = first_cell_behind n text p (cell_front text) refl e

-- what is taken off the front is the row that is spelled there
pub row_taken : (width : ℕ) (text : List ℕ) (row : RowValue) (rest : List ℕ) → 0 < width → row_front (width - 1) text ≡ Some (row, rest) → IsWithinLimits row → TakesRow width row text rest
row_taken width text row rest lt e limits =
    let is = row_front_is (width - 1) text (row, rest) e in
    record { parts = is.0; width_is = omega (arith, is.1); bytes = is.2; limits = limits }

-- no row is spelled where none is taken
pub no_row_taken : (width : ℕ) (text : List ℕ) → 0 < width → ((row : RowValue) (rest : List ℕ) → row_front (width - 1) text ≡ Some (row, rest) → IsWithinLimits row → ⊥) → NoRowIn width text
no_row_taken width text lt none row rest width_is bytes limits is =
    none row rest (ap (row_front (width - 1)) is ∙ row_there (width - 1) row rest (omega (arith, width_is)) bytes) limits

-- ---- results

pub err_is : {T E : Type 0} (r : Result T E) (x y : E) → r ≡ Err x → r ≡ Err y → x ≡ y
err_is {T} {E} r x y p q = errs x y (sym p ∙ q)
  where
    errs : (x y : E) → ◌≡◌ {A = Result T E} (Err x) (Err y) → x ≡ y
    errs x y e = cc

ok_is : {T E : Type 0} (r : Result T E) (x y : T) → r ≡ Ok x → r ≡ Ok y → x ≡ y
ok_is {T} {E} r x y p q = oks x y (sym p ∙ q)
  where
    oks : (x y : T) → ◌≡◌ {A = Result T E} (Ok x) (Ok y) → x ≡ y
    oks x y e = cc

-- the message of a line that was taken is a row, and it is that line's
pub message_is_row : (width : ℕ) (message text rest : List ℕ) → TakesMessage width message text rest → IsOk (row_of_message message)
message_is_row width message text rest taken = subst IsOk (sym taken.1) refl

pub message_row : (width : ℕ) (message text rest : List ℕ) (row : RowValue) → TakesMessage width message text rest → row_of_message message ≡ Ok row → TakesRow width row text rest
message_row width message text rest row taken is = subst (λ (r : RowValue). TakesRow width r text rest) (ok_is (row_of_message message) taken.0 row taken.1 is) taken.2

-- why no row is taken: there is no line, or its columns are beyond the limits
pub none_of_none : (n : ℕ) (text : List ℕ) → row_front n text ≡ None → (row : RowValue) (rest : List ℕ) → row_front n text ≡ Some (row, rest) → IsWithinLimits row → ⊥
none_of_none n text none row rest e limits = let both : None ≡ Some (row, rest) = sym none ∙ e in cc

pub none_of_limits : (n : ℕ) (text : List ℕ) (columns : RowValue) (behind : List ℕ) → row_front n text ≡ Some (columns, behind) → (IsWithinLimits columns → ⊥) → (row : RowValue) (rest : List ℕ) → row_front n text ≡ Some (row, rest) → IsWithinLimits row → ⊥
none_of_limits n text columns behind there beyond row rest e limits =
    beyond (subst IsWithinLimits (ap (λ (p : RowValue × List ℕ). p.0) (same_Some (row, rest) (columns, behind) (sym e ∙ there))) limits)

-- ---- how a row's line begins

begins_at : (null value : Bool) (first : ℕ) (rest : List ℕ) (p : Option (List ℕ) × List ℕ) → (first == 78) ≡ null → (first == 120) ≡ value
    → cond null (Some (None, rest)) (cond value (Some (Some (bytes_front rest).0, (bytes_front rest).1)) None) ≡ Some p → (first ≡ 78) ⊎ (first ≡ 120)
begins_at true value first rest p n v e = inl (grind (arith, nat_tests, n))
begins_at false true first rest p n v e = inr (grind (arith, nat_tests, v))
begins_at false false first rest p n v e = cc

-- with a cell
pub cell_begins : (text : List ℕ) (p : Option (List ℕ) × List ℕ) → cell_front text ≡ Some p → BeginsAsRow text
cell_begins [] p e = cc
cell_begins (first ∷ rest) p e = begins_at (first == 78) (first == 120) first rest p refl refl e

pub row_begins : (count : ℕ) (text : List ℕ) (p : RowValue × List ℕ) → row_front count text ≡ Some p → BeginsAsRow text
row_begins count text p e = by (cell_front text) refl e
  where
    by : (o : Option (Option (List ℕ) × List ℕ)) → cell_front text ≡ o
        → option_and_then (λ first. option_and_then (λ others. option_map (λ rest. (first.0 ∷ others.0, rest)) (behind_byte 10 others.1)) (cells_front count first.1)) o ≡ Some p → BeginsAsRow text
    by None is h = cc
    by (Some q) is h = cell_begins text q is

line_begins : (row : RowValue) (rest : List ℕ) → 0 < length row → BeginsAsRow (row_line row ++ rest)
line_begins [] rest lt = absurd (omega (arith, lt))
line_begins (None ∷ others) rest lt = inl refl
line_begins (Some value ∷ others) rest lt = inr refl

pub some_row_begins : (text : List ℕ) (row : RowValue) (rest : List ℕ) → 0 < length row → text ≡ row_line row ++ rest → BeginsAsRow text
some_row_begins text row rest lt parts = subst BeginsAsRow (sym parts) (line_begins row rest lt)

pub message_begins : (width : ℕ) (message text rest : List ℕ) → 0 < width → TakesMessage width message text rest → BeginsAsRow text
message_begins width message text rest lt taken = some_row_begins text taken.0 rest (omega (arith, lt, taken.2.width_is)) taken.2.parts
