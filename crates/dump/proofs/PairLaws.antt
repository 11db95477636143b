-- Pairs of digits at a place of a text.
use Rattle.std.proofs.Common.{◌≡◌, ℕ, ◌+◌, ◌*◌, ◌<◌, List, ◌∷◌, length, drop, sym, ap, ◌∙◌, Option, Some, None, arith}
use Rattle.std.specs.Prelude.{slice_index}
use Rattle.std.specs.Option.{option_and_then, option_map}
use Rattle.std.proofs.lemmas.List.{drop_more}
use Rattle.std.proofs.lemmas.Option.{same_Some}
use Rattle.dump.specs.Private.Reading.{digit_of, pair_of, pair_front}

pair_there : (h l : Option ℕ) (rest : List ℕ) (byte : ℕ) → pair_of h l ≡ Some byte → option_and_then {U = ℕ × List ℕ} (λ x. option_map (λ y. (x * 16 + y, rest)) l) h ≡ Some (byte, rest)
pair_there None None rest byte e = cc
pair_there None (Some y) rest byte e = cc
pair_there (Some x) None rest byte e = cc
pair_there (Some x) (Some y) rest byte e = ap (λ (b : ℕ). Some (b, rest)) (same_Some (x * 16 + y) byte e)

two_first : (text : List ℕ) (n : ℕ) → n + 1 < length text → drop n text ≡ slice_index text n ∷ slice_index text (n + 1) ∷ drop (n + 2) text
two_first text n lt =
    let next : n + 1 + 1 ≡ n + 2 = omega arith in
    let first : n < length text = omega arith in
    drop_more text n 0 first
    ∙ ap (λ (l : List ℕ). slice_index text n ∷ l) (drop_more text (n + 1) 0 lt)
    ∙ ap (λ (k : ℕ). slice_index text n ∷ slice_index text (n + 1) ∷ drop k text) next

-- the pair that stands at a place
pub pair_at : (text : List ℕ) (n byte : ℕ) → n + 1 < length text → Some byte ≡ pair_of (digit_of (slice_index text n)) (digit_of (slice_index text (n + 1))) → pair_front (drop n text) ≡ Some (byte, drop (n + 2) text)
pair_at text n byte lt e = ap pair_front (two_first text n lt) ∙ pair_there (digit_of (slice_index text n)) (digit_of (slice_index text (n + 1))) (drop (n + 2) text) byte (sym e)
