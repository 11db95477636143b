-- A uuid's text is ASCII, and so it is UTF-8.
use Rattle.std.proofs.Common.{ℕ, ◌<◌, ◌/◌, ◌%◌, refl, arith, List, [], ◌∷◌, ◌++◌, Result, Ok, Err, IsOk}
use Rattle.std.specs.Result.{MatchResult}
use Rattle.std.specs.Str.{IsAscii, IsUtf8}
use Rattle.std.proofs.lemmas.Bool.Decides.{nat_tests}
use Rattle.std.proofs.lemmas.Str.{IsAscii-append, IsUtf8-from_ascii}
use Rattle.std.proofs.lemmas.Str.Ascii.{IsAscii-nil, IsAscii-cons}
use Rattle.gtid_set.specs.Printed.{hex_glyph, hex_four, group_of, uuid_text}

glyph_small : (n : ℕ) → hex_glyph (n % 16) < 128
glyph_small n =
    let small : n % 16 < 16 = omega arith in
    grind (arith, nat_tests)

four : (n : ℕ) → IsAscii (hex_four n)
four n =
    let three : List ℕ = hex_glyph (n / 256 % 16) ∷ hex_glyph (n / 16 % 16) ∷ hex_glyph (n % 16) ∷ [] in
    let two : List ℕ = hex_glyph (n / 16 % 16) ∷ hex_glyph (n % 16) ∷ [] in
    IsAscii-cons _ three (glyph_small (n / 4096)) (IsAscii-cons _ two (glyph_small (n / 256)) (IsAscii-cons _ (hex_glyph (n % 16) ∷ []) (glyph_small (n / 16)) (IsAscii-cons _ [] (glyph_small n) IsAscii-nil)))

-- digits, a hyphen and a text
hyphenated : (n : ℕ) (rest : List ℕ) → IsAscii rest → IsAscii (hex_four n ++ 45 ∷ rest)
hyphenated n rest more = IsAscii-append (hex_four n) (45 ∷ rest) (four n) (IsAscii-cons 45 rest (omega arith) more)

pub uuid-utf8 : (uuid : ℕ) → IsUtf8 (uuid_text uuid)
unfolding uuid_text
uuid-utf8 uuid = IsUtf8-from_ascii _ (IsAscii-append (at 112) from_96 (four (group_of uuid 112)) (hyphenated (group_of uuid 96) from_80
    (hyphenated (group_of uuid 80) from_64 (hyphenated (group_of uuid 64) from_48 (hyphenated (group_of uuid 48) from_32
    (IsAscii-append (at 32) (at 16 ++ at 0) (four (group_of uuid 32)) (IsAscii-append (at 16) (at 0) (four (group_of uuid 16)) (four (group_of uuid 0)))))))))
  where
    at : ℕ → List ℕ
    at place = hex_four (group_of uuid place)

    from_32 : List ℕ
    from_32 = at 32 ++ at 16 ++ at 0

    from_48 : List ℕ
    from_48 = at 48 ++ 45 ∷ from_32

    from_64 : List ℕ
    from_64 = at 64 ++ 45 ∷ from_48

    from_80 : List ℕ
    from_80 = at 80 ++ 45 ∷ from_64

    from_96 : List ℕ
    from_96 = at 96 ++ 45 ∷ from_80

-- a text is read from bytes that are one
pub ok-text : {T E A : Type 0} (P : T → Type 0) (Q : E → Type 0) (r : Result T E) → MatchResult r P (λ e. (A → ⊥) × Q e) → A → IsOk r
ok-text P Q (Ok x) cases a = refl
ok-text P Q (Err e) cases a = absurd (cases.0 a)
