-- Touches of keys by one stream: a row is put at a key, or the key is touched with nothing.
use Rattle.std.specs.Prelude.{◌≡◌, ℕ, ◌≤◌, Bool, true, false, List, [], ◌∷◌, ◌++◌, Option, Some, None, ◌==◌, ◌+◌, if◌then◌else◌, refl}
use Rattle.std.specs.declared.cmp.Ordering.{Ordering}
use Rattle.std.specs.declared.cmp.Ordering.TheVariants.{Less, Equal}
use Rattle.std.specs.List.{AllByRecursion}
use Rattle.std.specs.Map.{lookup}
use Rattle.std.specs.Option.{option_or}
use Rattle.std.specs.Ordering.{eq_by_cmp}
use Rattle.std.specs.Coded.{Coded, code_by, coded×, coded_list, coded_option, coded_ℕ}
use Rattle.target_tables.specs.Contents.{Contents, value_at}

-- what the last touch of a key in a list leaves, a row or nothing; none where the key isn't touched
abbrev pub last_at : {K R : Type 0} → (K → K → Ordering) → List (K × Option R) → K → Option (Option R)
last_at cmp [] k = None
last_at cmp (touch ∷ later) k = option_or (last_at cmp later k) (if eq_by_cmp cmp k touch.0 then Some touch.1 else None)

module _ {K R : Type 0} (cmp : K → K → Ordering) where
  -- no touch has the key
  abbrev pub IsUntouched : List (K × Option R) → K → Type 0
  IsUntouched touches k = AllByRecursion (λ touch. eq_by_cmp cmp k touch.0 ≡ false) touches

  -- a touch of the key, with this row or with nothing, behind which no touch has the key
  pub record ComesLast (touches : List (K × Option R)) (k : K) (row : Option R) : Type 0 where
    pub before : List (K × Option R)
    pub key : K
    pub later : List (K × Option R)
    pub parts : touches ≡ before ++ (key, row) ∷ later
    pub same : cmp k key ≡ Equal
    pub untouched : IsUntouched later k

-- what a stream has staged: each touched key once, with its last touch
pub record Staging (K R : Type 0) : Type 0 where
  pub stream : ℕ
  pub changes : List (K × Option R)

-- what is staged is stored as the pair of its parts
abbrev pub staging_code : {K R : Type 0} → Coded K → Coded R → Coded (Staging K R)
staging_code k r = code_by _ (coded× coded_ℕ (coded_list (coded× k (coded_option r)))) (λ s. (s.stream, s.changes)) (λ p. record { stream = p.0; changes = p.1 }) (λ _. refl)

-- the change that is staged for a key
abbrev pub change_at : {K R : Type 0} → (K → K → Ordering) → List (K × Option R) → K → Option (Option R)
change_at cmp changes k = lookup (eq_by_cmp cmp k) changes

-- the stream's own row goes, and any other stays
abbrev pub removed : {R : Type 0} → ℕ → Option (ℕ × R) → Option (ℕ × R)
removed stream None = None
removed stream (Some there) = if there.0 == stream then None else Some there

-- what stands at a key after a stream's last touch of it: a row is put, and nothing takes the stream's own row away
abbrev pub touched : {R : Type 0} → ℕ → Option (Option R) → Option (ℕ × R) → Option (ℕ × R)
touched stream None there = there
touched stream (Some (Some row)) there = Some (stream, row)
touched stream (Some None) there = removed stream there

-- the other stream whose row stands here, if any
abbrev pub other_owner : {R : Type 0} → ℕ → Option (ℕ × R) → Option ℕ
other_owner stream None = None
other_owner stream (Some there) = if there.0 == stream then None else Some there.0

-- the other stream whose row is in the way of a stream's last touch: a row can't be put where it stands
abbrev pub owner_in_the_way : {R : Type 0} → ℕ → Option (Option R) → Option (ℕ × R) → Option ℕ
owner_in_the_way stream None there = None
owner_in_the_way stream (Some (Some row)) there = other_owner stream there
owner_in_the_way stream (Some None) there = None

-- a row is put where none stands
abbrev pub is_new : {R : Type 0} → Option R → Option (ℕ × R) → Bool
is_new None there = false
is_new (Some row) None = true
is_new (Some row) (Some there) = false

module _ {K R : Type 0} (cmp : K → K → Ordering) where
  -- how many changes put a row at a new key
  abbrev pub new_keys : List (K × (ℕ × R)) → List (K × Option R) → ℕ
  new_keys entries [] = 0
  new_keys entries (change ∷ later) = (if is_new change.1 (value_at cmp entries change.0) then 1 else 0) + new_keys entries later

  -- no row of another stream is in the way of a stream's touches
  abbrev pub NoneInTheWay : List (K × (ℕ × R)) → ℕ → (K → Option (Option R)) → Type 0
  NoneInTheWay entries stream touch = (k : K) → owner_in_the_way stream (touch k) (value_at cmp entries k) ≡ None

  -- this is the least key at which a row is in the way, and that row's stream
  pub record IsLeastClash (entries : List (K × (ℕ × R))) (stream : ℕ) (touch : K → Option (Option R)) (key : K) (owner : ℕ) : Type 0 where
    pub here : owner_in_the_way stream (touch key) (value_at cmp entries key) ≡ Some owner
    pub none_less : (k : K) → cmp k key ≡ Less → owner_in_the_way stream (touch k) (value_at cmp entries k) ≡ None

  -- what is staged can be committed: no row is in the way, and there is room for the new keys
  pub record IsReady (contents : Contents K R) (staged : Staging K R) : Type 0 where
    pub clear : NoneInTheWay contents.entries staged.stream (change_at cmp staged.changes)
    pub room : new_keys contents.entries staged.changes ≤ contents.room

  -- each key has what its last touch leaves there, and every other key what it had
  abbrev pub IsTouched : List (K × (ℕ × R)) → ℕ → (K → Option (Option R)) → List (K × (ℕ × R)) → Type 0
  IsTouched old stream touch new = (k : K) → value_at cmp new k ≡ touched stream (touch k) (value_at cmp old k)

  -- at one key stands what a change leaves there, and at every other what stood there
  abbrev pub IsChanged : List (K × (ℕ × R)) → ℕ → K × Option R → List (K × (ℕ × R)) → Type 0
  IsChanged old stream change new =
      (q : K) → value_at cmp new q ≡ (if eq_by_cmp cmp change.0 q then touched stream (Some change.1) (value_at cmp old q) else value_at cmp old q)
