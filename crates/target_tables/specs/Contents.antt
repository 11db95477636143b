-- What a map from keys to rows holds: for each key its stream and row.
use Rattle.std.specs.Prelude.{ℕ, List, Option, not, refl}
use Rattle.std.specs.declared.cmp.Ordering.{Ordering}
use Rattle.std.specs.List.{filter}
use Rattle.std.specs.Map.{lookup}
use Rattle.std.specs.Ordering.{eq_by_cmp, is_lt, is_gt}
use Rattle.std.specs.Coded.{Coded, code_by, coded×, coded_list, coded_ℕ}
use denote.Ref.{Bor}

-- the entries by rising key, each with its stream and row, how many new keys can be put in without taking memory, and how many entries each page has
pub record Contents (K R : Type 0) : Type 0 where
  pub entries : List (K × (ℕ × R))
  pub room : ℕ
  pub pages : List ℕ

-- contents are stored as the tuple of their parts
abbrev pub contents_code : {K R : Type 0} → Coded K → Coded R → Coded (Contents K R)
contents_code k r = code_by _ (coded× (coded_list (coded× k (coded× coded_ℕ r))) (coded× coded_ℕ (coded_list coded_ℕ))) (λ c. (c.entries, (c.room, c.pages))) (λ p. record { entries = p.0; room = p.1.0; pages = p.1.1 }) (λ _. refl)

-- the stream and row that stand at a key
abbrev pub value_at : {K R : Type 0} → (K → K → Ordering) → List (K × (ℕ × R)) → K → Option (ℕ × R)
value_at cmp entries k = lookup (eq_by_cmp cmp k) entries

-- the entries at a key and past it
abbrev pub from_key : {K R : Type 0} → (K → K → Ordering) → List (K × (ℕ × R)) → K → List (K × (ℕ × R))
from_key cmp entries k = filter (λ e. not (is_lt (cmp e.0 k))) entries

-- the entries past a key
abbrev pub past_key : {K R : Type 0} → (K → K → Ordering) → List (K × (ℕ × R)) → K → List (K × (ℕ × R))
past_key cmp entries k = filter (λ e. is_gt (cmp e.0 k)) entries

-- a stream and a borrowed row, as values
abbrev pub standing : {R : Type 0} → ℕ × Bor R → ℕ × R
standing p = (p.0, p.1.now)

-- a borrowed entry, as values
abbrev pub entry : {K R : Type 0} → Bor K × ℕ × Bor R → K × (ℕ × R)
entry p = (p.0.now, (p.1, p.2.now))
