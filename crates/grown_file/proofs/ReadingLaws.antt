-- What reads in a row take from an input whose bytes are known, up to a number.
use Rattle.std.proofs.Common.{◌≡◌, ◌∙◌, ap, sym, ℕ, ◌≤◌, List, [], ◌++◌, length, take, arith}
use Rattle.std.proofs.lemmas.List.{append-nil, take_all, take-append-le}
use Rattle.std.specs.Prelude.{Option, Some, None, IfSome}
use Rattle.std.specs.Io.KnownBytes.{Consumes, IsAtEnd}

-- as many bytes as may be read are the first ones of what was left
pub full : (old new : Option (List ℕ)) (bytes : List ℕ) (most : ℕ) → length bytes ≡ most → Consumes old new bytes → IfSome old (λ left. bytes ≡ take most left)
full None new bytes most e p = tt
full (Some xs) None bytes most e p = absurd p
full (Some xs) (Some ys) bytes most e p =
    sym (ap (take most) p ∙ take-append-le most bytes ys (omega (arith, e)) ∙ take_all most bytes (omega (arith, e)))

-- a read that finds the end shows that the bytes are all that was left
pub ended : (old mid new : Option (List ℕ)) (bytes piece : List ℕ) (n most : ℕ) → n ≡ 0 → length bytes ≤ most → Consumes old mid bytes → Consumes mid new (take n piece) → IsAtEnd new → IfSome old (λ left. bytes ≡ take most left)
ended None mid new bytes piece n most e few p q r = tt
ended (Some xs) None new bytes piece n most e few p q r = absurd p
ended (Some xs) (Some ys) None bytes piece n most e few p q r = absurd q
ended (Some xs) (Some ys) (Some zs) bytes piece n most e few p q r =
    let left : bytes ≡ xs = sym (p ∙ ap (λ l. bytes ++ l) (q ∙ ap (λ k. take k piece ++ zs) e ∙ r) ∙ append-nil bytes) in
    sym (ap (take most) (sym left) ∙ take_all most bytes few)
