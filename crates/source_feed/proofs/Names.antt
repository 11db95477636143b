-- Names with a prefix.
use Rattle.std.proofs.Common.{◌≡◌, ◌≢◌, ℕ, List, [], ◌∷◌, ◌++◌, length, drop, take, Option, Some, None, Bor, IfSome, IfNone, MatchOption, unwrap_or, append_assoc, refl, sym, ◌∙◌, ap, inl, inr}
use Rattle.std.proofs.lemmas.Bool.{cases_Bool, cond-true, cond-false}
use Rattle.std.proofs.lemmas.Bool.Decides.{Decides-eqb}
use Rattle.std.proofs.lemmas.Slice.Eq.{starts_is}
use Rattle.std.proofs.Math.Seq.{drop-append_seam}
use Rattle.std.proofs.lemmas.List.{append_cancel_left}
use Rattle.std.specs.Str.{bytes_eq}
use Rattle.source_feed.specs.SourceValue.{without_prefix, short_name}

pub without_prefix-absent : (prefix name : List ℕ) → ((rest : List ℕ) → name ≢ prefix ++ rest) → without_prefix prefix name ≡ name
without_prefix-absent prefix name absent =
    elim (cases_Bool (bytes_eq prefix (take (length prefix) name))) [
      | inl e ↦ absurd (absent (drop (length prefix) name) ((starts_is Decides-eqb name prefix _ refl).0 e))
      | inr e ↦ cond-false _ _ _ e
    ]

pub without_prefix-append : (prefix name rest : List ℕ) → name ≡ prefix ++ rest → without_prefix prefix name ≡ rest
without_prefix-append prefix name rest e =
    cond-true _ _ _ ((starts_is Decides-eqb name prefix _ refl).1 rest e) ∙ ap (drop (length prefix)) e ∙ drop-append_seam prefix rest

-- ---- a keyspace and then a dot

pub dot_found : (keyspace name behind : List ℕ) (found : Option (Bor (List ℕ))) → name ≡ keyspace ++ behind
    → MatchOption found ((rest : List ℕ) → behind ≢ 46 ∷ rest) (λ x. behind ≡ 46 ∷ x.now)
    → IfSome found (λ x. name ≡ (keyspace ++ 46 ∷ []) ++ x.now)
dot_found keyspace name behind None e m = tt
dot_found keyspace name behind (Some x) e m = e ∙ ap (λ t. keyspace ++ t) m ∙ sym (append_assoc keyspace (46 ∷ []) x.now)

pub dot_missing : (keyspace name behind : List ℕ) (found : Option (Bor (List ℕ))) → name ≡ keyspace ++ behind
    → MatchOption found ((rest : List ℕ) → behind ≢ 46 ∷ rest) (λ x. behind ≡ 46 ∷ x.now)
    → IfNone found ((rest : List ℕ) → name ≢ (keyspace ++ 46 ∷ []) ++ rest)
dot_missing keyspace name behind (Some x) e m = tt
dot_missing keyspace name behind None e m = λ rest p. m rest (append_cancel_left keyspace behind (46 ∷ rest) (sym e ∙ p ∙ append_assoc keyspace (46 ∷ []) rest))

pub short_name-by_prefix : (keyspace name : List ℕ) → keyspace ≢ [] → short_name keyspace name ≡ without_prefix (keyspace ++ 46 ∷ []) name
short_name-by_prefix [] name some = absurd (some refl)
short_name-by_prefix (b ∷ keyspace) name some = refl

pub short_name-of : (keyspace name : List ℕ) (whole : Bor (List ℕ)) (found : Option (Bor (List ℕ))) → keyspace ≢ [] → whole.now ≡ name
    → IfSome found (λ x. name ≡ (keyspace ++ 46 ∷ []) ++ x.now)
    → IfNone found ((rest : List ℕ) → name ≢ (keyspace ++ 46 ∷ []) ++ rest)
    → (unwrap_or found whole).now ≡ short_name keyspace name
short_name-of keyspace name whole None some k f m = k ∙ sym (short_name-by_prefix keyspace name some ∙ without_prefix-absent (keyspace ++ 46 ∷ []) name m)
short_name-of keyspace name whole (Some x) some k f m = sym (short_name-by_prefix keyspace name some ∙ without_prefix-append (keyspace ++ 46 ∷ []) name x.now f)
