-- Ranges that are read one behind the other.
use Rattle.std.proofs.Common.{◌≡◌, ◌∙◌, ℕ, List, [], ◌∷◌, ◌++◌, Result, Ok, Err, refl, sym, ap, append_assoc}
use Rattle.std.specs.Result.{result_map_both}
use Rattle.list_laws.specs.Outcome.{◌>>=◌}
use Rattle.vindex.specs.Bounds.{Bounds}
use Rattle.vrepl_c.specs.Readers.{range_in, ranges_in}

-- ranges that were read, and behind them those of what is left, or the number of the refusal there
abbrev pub behind : List Bounds → Result (List Bounds) ℕ → Result (List Bounds) ℕ
behind ranges others = result_map_both (λ more. ranges ++ more) (λ number. number) others

behind_one : (ranges : List Bounds) (range : Bounds) (others : Result (List Bounds) ℕ) → behind ranges (others >>= λ more. Ok (range ∷ more)) ≡ behind (ranges ++ range ∷ []) others
behind_one ranges range (Ok more) = ap (λ (all : List Bounds). Ok all) (sym (append_assoc ranges (range ∷ []) more))
behind_one ranges range (Err number) = refl

-- one more was read
pub one_more : (whole : Result (List Bounds) ℕ) (ranges : List Bounds) (range : Bounds) (text : List ℕ) (texts : List (List ℕ)) → whole ≡ behind ranges (ranges_in (text ∷ texts)) → range_in text ≡ Ok range
    → whole ≡ behind (ranges ++ range ∷ []) (ranges_in texts)
one_more whole ranges range text texts is read = is ∙ rw read (behind_one ranges range (ranges_in texts))

-- the next one is refused
pub one_refused : (whole : Result (List Bounds) ℕ) (ranges : List Bounds) (number : ℕ) (text : List ℕ) (texts : List (List ℕ)) → whole ≡ behind ranges (ranges_in (text ∷ texts)) → range_in text ≡ Err number → whole ≡ Err number
one_refused whole ranges number text texts is read = is ∙ rw read refl
