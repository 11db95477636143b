-- Walks over the entries of a target, and what is copied of them.
use Rattle.std.proofs.Common.{◌≡◌, ℕ, Bool, List, [], ◌∷◌, ◌++◌, map, append_assoc, append-nil, sym, ap, subst, ◌∙◌}
use borrow.Author.Tests.{eq-eqb}
use Rattle.std.proofs.lemmas.Bool.{ne_eqb}
use Rattle.std.specs.Prelude.{◌==◌, cond}
use Rattle.std.specs.List.{filter, AllByRecursion}
use Rattle.std.proofs.lemmas.List.{map-append}
use Rattle.std.proofs.lemmas.List.Elements.{filter-append}
use Rattle.std.specs.declared.cmp.Ordering.TheVariants.{Less}
use Rattle.pk_copy.specs.KeyOrder.{key_cmp}
use Rattle.pk_copy.specs.KeyValue.{KeyValue}
use Rattle.target_tables.specs.Contents.{entry}
use Rattle.target_tables.specs.Rising.{IsRising, AreBelow}
use Rattle.target_tables.proofs.Order.{before_middle}
use Rattle.source_feed.specs.History.{RowValue}
use Rattle.board_laws.specs.Meaning.{TargetRows}
use Rattle.board_laws.proofs.Lookups.{all-filter}
use Rattle.apply_core.specs.Shown.{unowned, all_rows, rows_of_stream}
use denote.Ref.{Bor}

abbrev pub Lent : Type 0
Lent = Bor KeyValue × ℕ × Bor RowValue

-- the entries of a target, by what was seen of them and what is left
pub record Walks (rows : TargetRows) (seen : List Lent) (left : TargetRows) : Type 0 where
  pub rising : IsRising key_cmp rows
  pub parts : rows ≡ map entry seen ++ left

-- before the first entry
pub walk_begins : (rows left : TargetRows) → IsRising key_cmp rows → left ≡ rows → Walks rows [] left
walk_begins rows left rising is = record { rising = rising; parts = sym is }

-- all entries were seen
pub walk_ends : (rows left : TargetRows) (seen : List Lent) → Walks rows seen left → left ≡ [] → map entry seen ≡ rows
walk_ends rows left seen walk none = sym (walk.parts ∙ ap (λ (xs : TargetRows). map entry seen ++ xs) none ∙ append-nil (map entry seen))

module _ (rows left rest : TargetRows) (seen : List Lent) (next : Lent) (walk : Walks rows seen left) (is : left ≡ entry next ∷ rest) where
  whole : rows ≡ map entry seen ++ entry next ∷ rest
  whole = walk.parts ∙ ap (λ (xs : TargetRows). map entry seen ++ xs) is

  -- one entry more was seen
  pub walk_on : Walks rows (seen ++ next ∷ []) rest
  walk_on = record {
    rising = walk.rising;
    parts = whole ∙ sym (append_assoc (map entry seen) (entry next ∷ []) rest) ∙ ap (λ (xs : TargetRows). xs ++ rest) (sym (map-append entry seen (next ∷ [])));
  }

  -- the next entry is behind those that were seen
  pub behind_seen : AreBelow key_cmp next.0.now (map entry seen)
  behind_seen = before_middle (λ a b. key_cmp a b ≡ Less) (map entry seen) (entry next) rest (subst (IsRising key_cmp) whole walk.rising)

-- what holds of keys holds of the copies
pub all-unowned : (P : KeyValue → Type 0) (rows : TargetRows) → AllByRecursion (λ row. P row.0) rows → AllByRecursion (λ row. P row.0) (all_rows rows)
all-unowned P [] h = tt
all-unowned P (row ∷ rows) h = (h.0, all-unowned P rows h.1)

-- the next entry is behind the copies of all, and of a stream's own
pub behind_all : (key : KeyValue) (rows : TargetRows) → AreBelow key_cmp key rows → AreBelow key_cmp key (all_rows rows)
behind_all key rows below = all-unowned (λ k. key_cmp k key ≡ Less) rows below

pub behind_own : (key : KeyValue) (s : ℕ) (rows : TargetRows) → AreBelow key_cmp key rows → AreBelow key_cmp key (rows_of_stream s rows)
behind_own key s rows below = behind_all key _ (all-filter (λ row. key_cmp row.0 key ≡ Less) (λ row. row.1.0 == s) rows below)

-- one row more
pub more-all : (seen : List Lent) (next : Lent) → all_rows (map entry (seen ++ next ∷ [])) ≡ all_rows (map entry seen) ++ (next.0.now, next.2.now) ∷ []
more-all seen next = ap all_rows (map-append entry seen (next ∷ [])) ∙ map-append unowned (map entry seen) (entry next ∷ [])

more : (s : ℕ) (seen : List Lent) (next : Lent) → rows_of_stream s (map entry (seen ++ next ∷ [])) ≡ rows_of_stream s (map entry seen) ++ rows_of_stream s (entry next ∷ [])
more s seen next =
    ap (rows_of_stream s) (map-append entry seen (next ∷ []))
    ∙ ap all_rows (filter-append (λ row. row.1.0 == s) (map entry seen) (entry next ∷ []))
    ∙ map-append unowned (filter (λ row. row.1.0 == s) (map entry seen)) (filter (λ row. row.1.0 == s) (entry next ∷ []))

pub more-own : (s : ℕ) (seen : List Lent) (next : Lent) → next.1 ≡ s → rows_of_stream s (map entry (seen ++ next ∷ [])) ≡ rows_of_stream s (map entry seen) ++ (next.0.now, next.2.now) ∷ []
more-own s seen next is = more s seen next ∙ ap (λ (b : Bool). rows_of_stream s (map entry seen) ++ all_rows (cond b (entry next ∷ []) [])) (eq-eqb next.1 s is)

pub more-other : (s : ℕ) (seen : List Lent) (next : Lent) → (next.1 ≡ s → ⊥) → rows_of_stream s (map entry (seen ++ next ∷ [])) ≡ rows_of_stream s (map entry seen)
more-other s seen next is =
    more s seen next ∙ ap (λ (b : Bool). rows_of_stream s (map entry seen) ++ all_rows (cond b (entry next ∷ []) [])) (ne_eqb next.1 s is) ∙ append-nil (rows_of_stream s (map entry seen))
