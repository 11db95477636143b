-- Tables that are closed one after another, as far as a loop has come.
use Rattle.std.proofs.Common.{◌≡◌, ℕ, ◌+◌, ◌<◌, ◌≤◌, List, [], ◌∷◌, ◌++◌, length, take, drop, get_or, Option, Some, None, Result, Ok, Err, refl, sym, ap, ◌∙◌}
use Rattle.std.specs.Prelude.{slice_set}
use Rattle.std.specs.Option.{option_or}
use Rattle.list_laws.specs.Outcome.{◌>>=◌}
use Rattle.filter_rule.specs.Faults.{Fault}
use Rattle.filter_rule.specs.PlanTable.{TableValue, keeping}
use Rattle.filter_rule.specs.Reading.{Decided, kept_in, first_kept, agreed, closed_from}
use Rattle.filter_rule.proofs.DecideLaws.{take_set, drop_set, take_all, drop_all}
use Rattle.filter_rule.proofs.EachLaws.{with_front, front_more, append_none, drop_at}

-- ---- the first stream with a rule

-- what the streams from a place on keep first
pub first_turn : (t : ℕ) (streams : List Decided) (i : ℕ) (s : Decided) (whole : Option (List ℕ)) → i < length streams → s ≡ get_or streams i s → kept_in t s ≡ None → first_kept t (drop i streams) ≡ whole → first_kept t (drop (i + 1) streams) ≡ whole
first_turn t streams i s whole within item none so_far =
    sym (ap (first_kept t) (drop_at streams i s within ∙ ap (λ x. x ∷ drop (i + 1) streams) (sym item)) ∙ ap (λ o. option_or o (first_kept t (drop (i + 1) streams))) none) ∙ so_far

pub first_here : (t : ℕ) (streams : List Decided) (i : ℕ) (s : Decided) (kept : List ℕ) (whole : Option (List ℕ)) → i < length streams → s ≡ get_or streams i s → kept_in t s ≡ Some kept → first_kept t (drop i streams) ≡ whole → Some kept ≡ whole
first_here t streams i s kept whole within item here so_far =
    sym (ap (first_kept t) (drop_at streams i s within ∙ ap (λ x. x ∷ drop (i + 1) streams) (sym item)) ∙ ap (λ o. option_or o (first_kept t (drop (i + 1) streams))) here) ∙ so_far

pub first_end : (t : ℕ) (streams : List Decided) (i : ℕ) (whole : Option (List ℕ)) → length streams ≤ i → first_kept t (drop i streams) ≡ whole → None ≡ whole
first_end t streams i whole past so_far = sym (ap (first_kept t) (drop_all streams i past)) ∙ so_far

-- ---- one table after another

abbrev pub closed_so_far : List Decided → ℕ → List TableValue → List TableValue → Result (List TableValue) Fault
closed_so_far streams t front tables = with_front front (closed_from streams t tables)

one_more : (streams : List Decided) (t : ℕ) (front : List TableValue) (table : TableValue) (tables : List TableValue) (kept : List ℕ) → agreed streams t table (first_kept t streams) ≡ Ok kept
    → closed_so_far streams t front (table ∷ tables) ≡ closed_so_far streams (t + 1) (front ++ keeping table kept ∷ []) tables
unfolding closed_from
one_more streams t front table tables kept is =
    ap (λ r. with_front front (r >>= λ k. closed_from streams (t + 1) tables >>= λ others. Ok (keeping table k ∷ others))) is ∙ front_more front (keeping table kept) (closed_from streams (t + 1) tables)

one_fault : (streams : List Decided) (t : ℕ) (front : List TableValue) (table : TableValue) (tables : List TableValue) (f : Fault) → agreed streams t table (first_kept t streams) ≡ Err f → closed_so_far streams t front (table ∷ tables) ≡ Err f
unfolding closed_from
one_fault streams t front table tables f is = ap (λ r. with_front front (r >>= λ k. closed_from streams (t + 1) tables >>= λ others. Ok (keeping table k ∷ others))) is

opened : (streams : List Decided) (t : ℕ) (front tables : List TableValue) (table : TableValue) → t < length tables → table ≡ get_or tables t table → closed_so_far streams t front (drop t tables) ≡ closed_so_far streams t front (table ∷ drop (t + 1) tables)
opened streams t front tables table within is = ap (closed_so_far streams t front) (drop_at tables t table within ∙ ap (λ x. x ∷ drop (t + 1) tables) (sym is))

pub close_turn : (streams : List Decided) (t : ℕ) (tables : List TableValue) (table next : TableValue) (kept : List ℕ) (whole : Result (List TableValue) Fault) → t < length tables → table ≡ get_or tables t table
    → agreed streams t table (first_kept t streams) ≡ Ok kept → next ≡ keeping table kept → closed_so_far streams t (take t tables) (drop t tables) ≡ whole
    → closed_so_far streams (t + 1) (take (t + 1) (slice_set tables t next)) (drop (t + 1) (slice_set tables t next)) ≡ whole
close_turn streams t tables table next kept whole within item is next_is so_far =
    ap (λ x. closed_so_far streams (t + 1) x (drop (t + 1) (slice_set tables t next))) (take_set tables t next within ∙ ap (λ x. take t tables ++ x ∷ []) next_is)
    ∙ ap (closed_so_far streams (t + 1) (take t tables ++ keeping table kept ∷ [])) (drop_set tables t next)
    ∙ sym (one_more streams t (take t tables) table (drop (t + 1) tables) kept is)
    ∙ sym (opened streams t (take t tables) tables table within item) ∙ so_far

pub close_fault : (streams : List Decided) (t : ℕ) (tables : List TableValue) (table : TableValue) (whole : Result (List TableValue) Fault) → t < length tables → table ≡ get_or tables t table
    → closed_so_far streams t (take t tables) (drop t tables) ≡ whole → (f : Fault) → agreed streams t table (first_kept t streams) ≡ Err f → whole ≡ Err f
close_fault streams t tables table whole within item so_far f is = sym so_far ∙ opened streams t (take t tables) tables table within item ∙ one_fault streams t (take t tables) table (drop (t + 1) tables) f is

none_closed : (streams : List Decided) (t : ℕ) → closed_from streams t [] ≡ Ok []
unfolding closed_from
none_closed streams t = refl

pub close_end : (streams : List Decided) (t : ℕ) (tables : List TableValue) (whole : Result (List TableValue) Fault) → length tables ≤ t → closed_so_far streams t (take t tables) (drop t tables) ≡ whole → whole ≡ Ok tables
close_end streams t tables whole past so_far =
    sym so_far ∙ ap (closed_so_far streams t (take t tables)) (drop_all tables t past) ∙ ap (with_front (take t tables)) (none_closed streams t) ∙ ap Ok (append_none (take t tables) ∙ take_all tables t past)
