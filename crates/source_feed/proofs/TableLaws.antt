-- Tables in first-seen order.
use Rattle.std.proofs.Common.{◌≡◌, ◌<◌, ℕ, Bool, true, false, cond, List, [], ◌∷◌, ◌++◌, length, get_or, refl, sym, ap, subst, ◌∙◌, append_assoc}
use Rattle.std.specs.Prelude.{Option, None, Some, map, option_map, position, slice_get, unwrap_or}
use Rattle.std.specs.List.{list_any}
use Rattle.std.specs.Map.{keys_of, values_of}
use Rattle.std.specs.Str.{bytes_eq}
use Rattle.std.specs.Cmp.Lexicographic.{same_text}
use denote.Ref.{Bor}
use Rattle.std.specs.Cmp.{on_equiv}
use Rattle.std.specs.Cmp.Lexicographic.{nat_list_eq_equiv}
use Rattle.std.specs.HashMap.{HashMap, IsUnique, get_by}
use Rattle.indexmap.specs.IndexMap.{insert_entry}
use Rattle.std.proofs.lemmas.Map.Entries.{hash_map_get_place}
use Rattle.std.proofs.lemmas.List.{length-map, get_or-map, get_or_append_left}
use Rattle.std.proofs.lemmas.List.Quantifiers.{position-Some}
use Rattle.std.proofs.lemmas.Option.{slice_get-map, slice_get_within, unwrap_or-slice_get}
use Rattle.source_feed.specs.declared.feed_tables.FeedTable.{FeedTable}
use Rattle.source_feed.specs.Private.FeedTables.{names_behind}

-- the names of the tables of a list
abbrev pub names : {V : Type 0} → List (Bor (List ℕ) × V) → List (List ℕ)
names es = map (λ name. name.now) (keys_of es)

behind_one : (first : List ℕ) (others : List (List ℕ)) (name : List ℕ) (b : Bool) → list_any (bytes_eq name) others ≡ b
    → first ∷ names_behind others name ≡ cond (list_any (bytes_eq name) others) (first ∷ others) ((first ∷ others) ++ name ∷ [])
behind_one first others name true e = rw e refl
behind_one first others name false e = rw e refl

-- one more table is seen, or one that is there already
pub names-insert : {V : Type 0} (es : List (Bor (List ℕ) × V)) (name : Bor (List ℕ)) (value : V)
    → names (insert_entry (λ x y. bytes_eq x.now y.now) es name value) ≡ names_behind (names es) name.now
names-insert [] name value = refl
names-insert (e ∷ es) name value = by (bytes_eq name.now e.0.now) refl (names-insert es name value)
  where
    by : (b : Bool) → bytes_eq name.now e.0.now ≡ b → names (insert_entry (λ x y. bytes_eq x.now y.now) es name value) ≡ names_behind (names es) name.now
        → names (insert_entry (λ x y. bytes_eq x.now y.now) (e ∷ es) name value) ≡ names_behind (names (e ∷ es)) name.now
    by true same others = rw same refl
    by false same others = rw same (ap (λ (more : List (List ℕ)). e.0.now ∷ more) others ∙ behind_one e.0.now (names es) name.now (list_any (bytes_eq name.now) (names es)) refl)

-- the names that follow, before one more table is seen
abbrev pub later_behind : List (List ℕ) → List ℕ → List (List ℕ) → List (List ℕ)
later_behind names name later = cond (list_any (bytes_eq name) names) later (name ∷ later)

pub names-behind : (names : List (List ℕ)) (name : List ℕ) (later : List (List ℕ)) → names_behind names name ++ later ≡ names ++ later_behind names name later
names-behind names name later = by (list_any (bytes_eq name) names)
  where
    by : (b : Bool) → cond b names (names ++ name ∷ []) ++ later ≡ names ++ cond b later (name ∷ later)
    by true = refl
    by false = append_assoc names (name ∷ []) later

-- ---- a table by its place

equal_bytes : (xs ys : List ℕ) → bytes_eq xs ys ≡ true → xs ≡ ys
equal_bytes xs ys e = same_text xs ys (sym e)

nobody : Bor (List ℕ)
nobody = record { ref_ptr = (0, 0); now = [] }

-- the place of a table that is found is one of theirs
pub found_within : {V : Type 0} (es : List (Bor (List ℕ) × V)) (name : List ℕ) (place : ℕ) → position (λ key. bytes_eq name key.now) (keys_of es) ≡ Some place → place < length (names es)
found_within es name place e =
    subst (λ n. place < n) (sym (length-map (keys_of es) (λ (key : Bor (List ℕ)). key.now))) (position-Some (λ (key : Bor (List ℕ)). bytes_eq name key.now) (keys_of es) place nobody e).0

-- where a table is found its name stands, whatever names follow
pub found_name : {V : Type 0} (es : List (Bor (List ℕ) × V)) (name : List ℕ) (place : ℕ) → position (λ key. bytes_eq name key.now) (keys_of es) ≡ Some place
    → (later : List (List ℕ)) → get_or (names es ++ later) place [] ≡ name
found_name es name place e later =
    let at = position-Some (λ (key : Bor (List ℕ)). bytes_eq name key.now) (keys_of es) place nobody e in
    get_or_append_left (names es) later [] place (found_within es name place e)
    ∙ get_or-map (λ (key : Bor (List ℕ)). key.now) (keys_of es) place nobody [] at.0
    ∙ sym (equal_bytes name (get_or (keys_of es) place nobody).now at.1)

-- the tables' numbers in a plan
abbrev pub numbers : List (Bor (List ℕ) × FeedTable) → List (Option ℕ)
numbers es = map (λ known. known.number) (values_of es)

pub name_at : {V : Type 0} (es : List (Bor (List ℕ) × V)) (place : ℕ) → get_or (names es) place [] ≡ unwrap_or (option_map (λ (e : Bor (List ℕ) × V). e.0.now) (slice_get es place)) []
name_at {V} es place =
    sym (unwrap_or-slice_get (names es) place [])
    ∙ ap (λ found. unwrap_or found []) (slice_get-map (λ (key : Bor (List ℕ)). key.now) (keys_of es) place ∙ ap (option_map (λ (key : Bor (List ℕ)). key.now)) (slice_get-map (λ (e : Bor (List ℕ) × V). e.0) es place) ∙ twice (slice_get es place))
  where
    twice : (e : Option (Bor (List ℕ) × V)) → option_map (λ (key : Bor (List ℕ)). key.now) (option_map (λ (e : Bor (List ℕ) × V). e.0) e) ≡ option_map (λ (e : Bor (List ℕ) × V). e.0.now) e
    twice None = refl
    twice (Some e) = refl

pub number_at : (es : List (Bor (List ℕ) × FeedTable)) (place : ℕ) → get_or (numbers es) place None ≡ unwrap_or (option_map (λ (e : Bor (List ℕ) × FeedTable). e.1.number) (slice_get es place)) None
number_at es place =
    sym (unwrap_or-slice_get (numbers es) place None)
    ∙ ap (λ found. unwrap_or found None) (slice_get-map (λ (known : FeedTable). known.number) (values_of es) place ∙ ap (option_map (λ (known : FeedTable). known.number)) (slice_get-map (λ (e : Bor (List ℕ) × FeedTable). e.1) es place) ∙ twice (slice_get es place))
  where
    twice : (e : Option (Bor (List ℕ) × FeedTable)) → option_map (λ (known : FeedTable). known.number) (option_map (λ (e : Bor (List ℕ) × FeedTable). e.1) e) ≡ option_map (λ (e : Bor (List ℕ) × FeedTable). e.1.number) e
    twice None = refl
    twice (Some e) = refl

-- each table has its number, and so has one more
pub numbers-insert : (f : List ℕ → Option ℕ) (es : List (Bor (List ℕ) × FeedTable)) (name : Bor (List ℕ)) (known : FeedTable) → known.number ≡ f name.now → numbers es ≡ map f (names es)
    → numbers (insert_entry (λ x y. bytes_eq x.now y.now) es name known) ≡ map f (names (insert_entry (λ x y. bytes_eq x.now y.now) es name known))
numbers-insert f [] name known h all = ap (λ n. n ∷ []) h
numbers-insert f (e ∷ es) name known h all = by (bytes_eq name.now e.0.now) refl (numbers-insert f es name known h tail)
  where
    head : e.1.number ≡ f e.0.now
    head = cc

    tail : numbers es ≡ map f (names es)
    tail = cc

    by : (b : Bool) → bytes_eq name.now e.0.now ≡ b → numbers (insert_entry (λ x y. bytes_eq x.now y.now) es name known) ≡ map f (names (insert_entry (λ x y. bytes_eq x.now y.now) es name known))
        → numbers (insert_entry (λ x y. bytes_eq x.now y.now) (e ∷ es) name known) ≡ map f (names (insert_entry (λ x y. bytes_eq x.now y.now) (e ∷ es) name known))
    by true same others = rw same (ap (λ n. n ∷ numbers es) (h ∙ ap f (equal_bytes name.now e.0.now same)) ∙ ap (λ (ns : List (Option ℕ)). f e.0.now ∷ ns) tail)
    by false same others = rw same (ap (λ n. n ∷ numbers (insert_entry (λ x y. bytes_eq x.now y.now) es name known)) head ∙ ap (λ (ns : List (Option ℕ)). f e.0.now ∷ ns) others)

-- the number of columns of one table where another's is set
pub width-insert : (table name : List ℕ) (known : FeedTable) (old : Option FeedTable)
    → option_map (λ (known : FeedTable). known.columns) (cond (bytes_eq table name) (Some known) old) ≡ cond (bytes_eq table name) (Some known.columns) (option_map (λ (known : FeedTable). known.columns) old)
width-insert table name known old = by (bytes_eq table name)
  where
    by : (b : Bool) → option_map (λ (known : FeedTable). known.columns) (cond b (Some known) old) ≡ cond b (Some known.columns) (option_map (λ (known : FeedTable). known.columns) old)
    by true = refl
    by false = refl

pub name_found : {V : Type 0} (es : List (Bor (List ℕ) × V)) (place : ℕ) (e : Bor (List ℕ) × V) → slice_get es place ≡ Some e → get_or (names es) place [] ≡ e.0.now
name_found {V} es place e h = name_at es place ∙ ap (λ (found : Option (Bor (List ℕ) × V)). unwrap_or (option_map (λ (e : Bor (List ℕ) × V). e.0.now) found) []) h

pub name_missing : {V : Type 0} (es : List (Bor (List ℕ) × V)) (place : ℕ) → slice_get es place ≡ None → get_or (names es) place [] ≡ []
name_missing {V} es place h = name_at es place ∙ ap (λ (found : Option (Bor (List ℕ) × V)). unwrap_or (option_map (λ (e : Bor (List ℕ) × V). e.0.now) found) []) h

pub number_found : (es : List (Bor (List ℕ) × FeedTable)) (place : ℕ) (e : Bor (List ℕ) × FeedTable) → slice_get es place ≡ Some e → get_or (numbers es) place None ≡ e.1.number
number_found es place e h = number_at es place ∙ ap (λ (found : Option (Bor (List ℕ) × FeedTable)). unwrap_or (option_map (λ (e : Bor (List ℕ) × FeedTable). e.1.number) found) None) h

pub number_missing : (es : List (Bor (List ℕ) × FeedTable)) (place : ℕ) → slice_get es place ≡ None → get_or (numbers es) place None ≡ None
number_missing es place h = number_at es place ∙ ap (λ (found : Option (Bor (List ℕ) × FeedTable)). unwrap_or (option_map (λ (e : Bor (List ℕ) × FeedTable). e.1.number) found) None) h

-- ---- a table that is told

-- what is known of the table at a place is known under its name
pub told_width : {S : Type 0} (m : HashMap (Bor (List ℕ)) FeedTable S) (place : ℕ) (e : Bor (List ℕ) × FeedTable) (table : List ℕ) → IsUnique (λ x y. bytes_eq x.now y.now) m → slice_get m.entries place ≡ Some e
    → bytes_eq e.0.now table ≡ true → Some e.1.columns ≡ option_map (λ (known : FeedTable). known.columns) (get_by (λ (name : Bor (List ℕ)). bytes_eq table name.now) m)
told_width m place e table unique at same =
    let named : e.0.now ≡ table = equal_bytes e.0.now table same in
    sym (ap (option_map (λ (known : FeedTable). known.columns))
    (ap (λ t. get_by (λ (name : Bor (List ℕ)). bytes_eq t name.now) m) (sym named) ∙ hash_map_get_place (on_equiv (λ (name : Bor (List ℕ)). name.now) nat_list_eq_equiv) m place e.0 e.1 unique at))

-- and its name stands there, whatever names follow
pub told_name : {V : Type 0} (es : List (Bor (List ℕ) × V)) (place : ℕ) (e : Bor (List ℕ) × V) (table : List ℕ) → slice_get es place ≡ Some e → bytes_eq e.0.now table ≡ true
    → (later : List (List ℕ)) → get_or (names es ++ later) place [] ≡ table
told_name es place e table at same later =
    let within : place < length es = slice_get_within es place e at in
    let here : place < length (names es) = subst (λ n. place < n) (sym (length-map (keys_of es) (λ (key : Bor (List ℕ)). key.now) ∙ length-map es (λ e. e.0))) within in
    get_or_append_left (names es) later [] place here ∙ name_found es place e at ∙ equal_bytes e.0.now table same
