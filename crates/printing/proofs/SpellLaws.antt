-- Digits that are written block by block.
use Rattle.std.proofs.Common.{◌≡◌, ℕ, zero, suc, ◌+◌, ◌-◌, ◌*◌, ◌/◌, ◌%◌, ◌≤◌, List, [], ◌∷◌, ◌++◌, append-nil, length, length-append, length-drop, take, drop, take-append-drop, refl, sym, ap, ◌∙◌, slice_index, arith}
use Rattle.std.proofs.lemmas.List.{drop_all, drop_at, drop-take, length-take-le, take_all, take_at, take-take}
use Rattle.std.proofs.lemmas.Slice.{take-put_mid}
use borrow.Rule.Slice.PartMut.{put_mid}
use Rattle.hex.specs.Hex.{encode_lower, encode_with, lower_digits}
use Rattle.printing.specs.Private.Spelling.{IsSpelled}
use Rattle.printing.proofs.PrintLaws.{hex-append}

-- two digits a byte
pub length-hex : (xs : List ℕ) → length (encode_lower xs) ≡ 2 * length xs
unfolding encode_with
length-hex [] = refl
length-hex (x ∷ xs) = omega (arith, length-hex xs)

-- the first digits are those of the first bytes
pub take-hex : (n : ℕ) (xs : List ℕ) → take (2 * n) (encode_lower xs) ≡ encode_lower (take n xs)
unfolding encode_with
take-hex zero xs = refl
take-hex (suc n) [] = let two : 2 * suc n ≡ suc (suc (2 * n)) = omega arith in rw two refl
take-hex (suc n) (x ∷ xs) =
    let two : 2 * suc n ≡ suc (suc (2 * n)) = omega arith in
    rw two (ap (λ (t : List ℕ). slice_index lower_digits (x / 16) ∷ slice_index lower_digits (x % 16) ∷ t) (take-hex n xs))

-- some bytes from the front, and some more
pub take-parts : (m n : ℕ) (xs : List ℕ) → take (m + n) xs ≡ take m xs ++ take n (drop m xs)
take-parts m n xs =
    sym (take-append-drop m (take (m + n) xs)) ∙ ap (λ l. l ++ drop m (take (m + n) xs)) (take-take m (m + n) xs (omega arith))
    ∙ ap (λ l. take m xs ++ l) (drop-take m n xs)

-- behind digits that are written stand those of some bytes more, which may begin before the end of the first
pub spelled_on : (piece room digits : List ℕ) (at n count k : ℕ) → at ≤ count → 2 * at ≤ length room → length digits ≡ 2 * n → digits ≡ encode_lower (take n (drop at piece))
    → IsSpelled piece room count → IsSpelled piece (put_mid (2 * at) k room digits) (at + n)
spelled_on piece room digits at n count k before within long is spelled =
    take-put_mid (2 * at) k room digits (2 * (at + n)) (omega (arith, long)) within
    ∙ ap (λ l. l ++ digits) (sym (take-take (2 * at) (2 * count) room (omega arith)) ∙ ap (λ l. take (2 * at) l) spelled ∙ take-hex at (take count piece) ∙ ap (λ l. encode_lower l) (take-take at count piece before))
    ∙ ap (λ l. encode_lower (take at piece) ++ l) is
    ∙ sym (hex-append (take at piece) (take n (drop at piece)))
    ∙ ap (λ l. encode_lower l) (sym (take-parts at n piece))

-- the digits of all bytes stand there
pub all_spelled : (piece room : List ℕ) (count : ℕ) → length room ≡ 2 * length piece → length piece ≤ count → IsSpelled piece room count → room ≡ encode_lower piece
all_spelled piece room count long all spelled =
    sym (take_all (2 * count) room (omega (arith, long))) ∙ spelled ∙ ap (λ l. encode_lower l) (take_all count piece all)

-- ---- the digits of as many bytes at both ends

-- two pieces of one length that are copied to the front of a block
pub pair-block : (front rest back : List ℕ) (count k : ℕ) → length front ≡ count → length back ≡ count → take (count + count) (put_mid count k (front ++ rest) back) ≡ front ++ back
pair-block front rest back count k long other =
    take-put_mid count k (front ++ rest) back (count + count) (omega (arith, other)) (omega (arith, long, length-append front rest))
    ∙ ap (λ l. l ++ back) (take_at front rest count long)

-- the digits of such a block: those of the first piece, and then those of the second
pub first-digits : (block front back : List ℕ) (count : ℕ) → length front ≡ count → take (count + count) block ≡ front ++ back → take (2 * count) (encode_lower block) ≡ encode_lower front
first-digits block front back count long is =
    take-hex count block
    ∙ ap (λ l. encode_lower l) (sym (take-take count (count + count) block (omega arith)) ∙ ap (λ l. take count l) is ∙ take_at front back count long)

pub second-digits : (block front back : List ℕ) (count : ℕ) → length front ≡ count → take (count + count) block ≡ front ++ back → take (2 * count) (drop (2 * count) (encode_lower block)) ≡ encode_lower back
second-digits block front back count long is =
    let two : 2 * count + 2 * count ≡ 2 * (count + count) = omega arith in
    sym (drop-take (2 * count) (2 * count) (encode_lower block))
    ∙ ap (λ n. drop (2 * count) (take n (encode_lower block))) two
    ∙ ap (λ l. drop (2 * count) l) (take-hex (count + count) block ∙ ap (λ l. encode_lower l) is ∙ hex-append front back)
    ∙ drop_at (encode_lower front) (encode_lower back) (2 * count) (length-hex front ∙ ap (λ n. 2 * n) long)

length-put_end : (a k : ℕ) (xs ys : List ℕ) → a ≤ length xs → length xs ≤ a + k → length (put_mid a k xs ys) ≡ a + length ys
length-put_end a k xs ys within all =
    ap (λ l. length (take a xs ++ (ys ++ l))) (drop_all k (drop a xs) (omega (arith, length-drop a xs)))
    ∙ length-append (take a xs) (ys ++ []) ∙ ap (λ l. length (take a xs) + length l) (append-nil ys) ∙ ap (λ n. n + length ys) (length-take-le a xs within)

-- digits that are written over both ends
pub ends-spelled : (piece room front back : List ℕ) (count last k : ℕ) → last + count ≡ length piece → last ≤ count → length room ≡ 2 * length piece
    → front ≡ encode_lower (take count piece) → back ≡ encode_lower (drop last piece) → k ≡ length (front ++ drop (2 * count) room) - 2 * last
    → put_mid (2 * last) k (front ++ drop (2 * count) room) back ≡ encode_lower piece
ends-spelled piece room front back count last k parts most long first second all =
    let front_long : length front ≡ 2 * count = ap length first ∙ length-hex (take count piece) ∙ ap (λ n. 2 * n) (length-take-le count piece (omega arith)) in
    let back_long : length back ≡ 2 * count = ap length second ∙ length-hex (drop last piece) ∙ ap (λ n. 2 * n) (let e : length (drop last piece) ≡ count = omega (arith, length-drop last piece) in e) in
    let one = front ++ drop (2 * count) room in
    let one_long : length one ≡ 2 * length piece = omega (arith, front_long, length-append front (drop (2 * count) room), length-drop (2 * count) room) in
    let spelled : IsSpelled piece one count = take_at front (drop (2 * count) room) (2 * count) front_long ∙ first in
    let rest : take count (drop last piece) ≡ drop last piece = take_all count (drop last piece) (omega (arith, length-drop last piece)) in
    all_spelled piece (put_mid (2 * last) k one back) (last + count)
    (length-put_end (2 * last) k one back (omega (arith, one_long)) (omega (arith, all)) ∙ (let e : 2 * last + length back ≡ 2 * length piece = omega (arith, back_long) in e))
    (omega arith)
    (spelled_on piece one back last count count k most (omega (arith, one_long)) back_long (second ∙ ap (λ l. encode_lower l) (sym rest)) spelled)
