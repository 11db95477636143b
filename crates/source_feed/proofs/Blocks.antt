-- A block that ends: the last group's position is the union of all earlier positions, so what the last
-- group alone says of the block is what all blocks say of it.
use Rattle.std.proofs.Common.{◌≡◌, ◌+◌, ℕ, List, map, [], ◌∷◌, ◌++◌, length, true, false, None, Some, Result, Ok, Err, refl, sym, ◌∙◌, ap, arith, inl, inr, ◌-◌, slice_get, append_assoc, rules}
use Rattle.std.proofs.lemmas.List.{length-append, length-map, map-append}
use Rattle.std.specs.Option.{option_map_or}
use Rattle.std.proofs.lemmas.Bool.{cases_Bool, cond-true, cond-false}
use Rattle.gtid_set.specs.Position.{union_of, within_of, IsCanonical}
use Rattle.vevent.specs.EventValue.{EventValue}
use Rattle.source_feed.specs.declared.fault.FeedFault.{FeedFault}
use Rattle.source_feed.specs.declared.fault.FeedFault.TheVariants.{Diverged}
use Rattle.source_feed.specs.GroupValue.{Position, GroupValue}
use Rattle.source_feed.specs.SourceValue.{SourceValue}
use Rattle.source_feed.specs.PastEvents.{PastEvents}
use Rattle.source_feed.specs.Groups.{block_at, block_fault, seen, with_block, groups_of, group_of_block}
use Rattle.source_feed.specs.Private.BlockEnd.{last_position, block_end}
use Rattle.source_feed.specs.Private.KeptGroups.{KeptChangeValue, KeptGroupValue, named, named_group}
use Rattle.source_feed.specs.Private.SetLaws.{SetLaws}

slice_get-length : (groups : List KeptGroupValue) (group : KeptGroupValue) → slice_get (groups ++ group ∷ []) (length groups) ≡ Some group
slice_get-length [] group = refl
slice_get-length (first ∷ groups) group = slice_get-length groups group

slice_get-seam : (groups : List KeptGroupValue) (group : KeptGroupValue) → slice_get (groups ++ group ∷ []) (length (groups ++ group ∷ []) - 1) ≡ Some group
slice_get-seam groups group =
    let at : length (groups ++ group ∷ []) - 1 ≡ length groups = omega (arith, length-append groups (group ∷ [])) in
    ap (slice_get (groups ++ group ∷ [])) at ∙ slice_get-length groups group

pub last_position-append : (start : Position) (groups : List KeptGroupValue) (group : KeptGroupValue) → last_position start (groups ++ group ∷ []) ≡ group.position
last_position-append start groups group = ap (λ found. option_map_or (λ group. group.position) found start) (slice_get-seam groups group)

-- what is known of the groups behind an event, where these groups stand before them and the tables have these names
pub record Ends (base : List GroupValue) (start : Position) (names : List (List ℕ)) (source : SourceValue) (history : PastEvents) (all : List KeptGroupValue) : Type 0 where
  pub groups : base ++ map (named_group names) all ≡ groups_of source history
  pub last : last_position start all ≡ seen source history
  pub canonical : IsCanonical (seen source history)

pub append-nothing : (groups : List GroupValue) → groups ++ [] ≡ groups
append-nothing groups = search rules

-- the block is skipped, kept or refused
abbrev pub BlockEnds : List GroupValue → Position → List (List ℕ) → SourceValue → PastEvents → EventValue → List KeptGroupValue → Position → List KeptChangeValue → Result (List KeptGroupValue) FeedFault → Type 0
BlockEnds base start names source earlier event groups position changes (Ok new) = (block_fault source earlier position ≡ None) × Ends base start names source (event ∷ earlier) new
BlockEnds base start names source earlier event groups position changes (Err fault) = block_fault source earlier position ≡ Some fault

length-all : (base : List GroupValue) (names : List (List ℕ)) (groups : List KeptGroupValue) → length base + length groups ≡ length (base ++ map (named_group names) groups)
length-all base names groups = omega (arith, length-append base (map (named_group names) groups), length-map groups (named_group names))

skipped : SetLaws → (base : List GroupValue) (start : Position) (names : List (List ℕ)) (source : SourceValue) (earlier : PastEvents) (event : EventValue) (groups : List KeptGroupValue) (position : Position) (changes : List KeptChangeValue)
    → block_at source earlier event ≡ Some (record { position = position; changes = map (named names) changes }) → IsCanonical position → Ends base start names source earlier groups
    → within_of position (seen source earlier) ≡ true → BlockEnds base start names source earlier event groups position changes (Ok groups)
skipped laws base start names source earlier event groups position changes b p e w =
    let union : union_of (seen source earlier) position ≡ seen source earlier = laws.union_within position (seen source earlier) p e.canonical w in (
      cond-true _ _ _ w,
      record {
        groups = e.groups ∙ sym (append-nothing (groups_of source earlier))
            ∙ ap (λ more. groups_of source earlier ++ more) (sym (cond-true (within_of position (seen source earlier)) [] (record { number = length (groups_of source earlier) + 1; position = position; changes = map (named names) changes } ∷ []) w))
            ∙ ap (λ block. groups_of source earlier ++ group_of_block (seen source earlier) (length (groups_of source earlier) + 1) block) (sym b);
        last = e.last ∙ sym union ∙ ap (λ block. with_block (seen source earlier) block) (sym b);
        canonical = rw (b, union) e.canonical;
      },
    )

added : SetLaws → (base : List GroupValue) (start : Position) (names : List (List ℕ)) (source : SourceValue) (earlier : PastEvents) (event : EventValue) (groups : List KeptGroupValue) (position : Position) (changes : List KeptChangeValue)
    → block_at source earlier event ≡ Some (record { position = position; changes = map (named names) changes }) → IsCanonical position → Ends base start names source earlier groups
    → within_of position (seen source earlier) ≡ false → within_of (seen source earlier) position ≡ true
    → BlockEnds base start names source earlier event groups position changes (Ok (groups ++ record { number = length base + length groups + 1; position = position; changes = changes } ∷ []))
added laws base start names source earlier event groups position changes b p e w v =
    let union : union_of (seen source earlier) position ≡ position = laws.union_around (seen source earlier) position e.canonical p v in (
      cond-false _ _ _ w ∙ cond-true _ _ _ v,
      record {
        groups = ap (λ (more : List GroupValue). base ++ more) (map-append (named_group names) groups (record { number = length base + length groups + 1; position = position; changes = changes } ∷ []))
            ∙ sym (append_assoc base (map (named_group names) groups) (record { number = length base + length groups + 1; position = position; changes = map (named names) changes } ∷ []))
            ∙ ap (λ n. (base ++ map (named_group names) groups) ++ record { number = n + 1; position = position; changes = map (named names) changes } ∷ []) (length-all base names groups)
            ∙ ap (λ (all : List GroupValue). all ++ record { number = length all + 1; position = position; changes = map (named names) changes } ∷ []) e.groups
            ∙ ap (λ more. groups_of source earlier ++ more) (sym (cond-false (within_of position (seen source earlier)) [] (record { number = length (groups_of source earlier) + 1; position = position; changes = map (named names) changes } ∷ []) w))
            ∙ ap (λ block. groups_of source earlier ++ group_of_block (seen source earlier) (length (groups_of source earlier) + 1) block) (sym b);
        last = last_position-append start groups _ ∙ sym union ∙ ap (λ block. with_block (seen source earlier) block) (sym b);
        canonical = rw (b, union) p;
      },
    )

diverged : (base : List GroupValue) (start : Position) (names : List (List ℕ)) (source : SourceValue) (earlier : PastEvents) (event : EventValue) (groups : List KeptGroupValue) (position : Position) (changes : List KeptChangeValue)
    → Ends base start names source earlier groups
    → within_of position (seen source earlier) ≡ false → within_of (seen source earlier) position ≡ false
    → BlockEnds base start names source earlier event groups position changes (Err (Diverged (length base + length groups + 1)))
diverged base start names source earlier event groups position changes e w v =
    cond-false _ _ _ w ∙ cond-false _ _ _ v ∙ ap (λ (all : List GroupValue). Some (Diverged (length all + 1))) (sym e.groups) ∙ ap (λ n. Some (Diverged (n + 1))) (sym (length-all base names groups))

-- what the last group says of a block is what all blocks say of it
pub block_end-ends : SetLaws → (base : List GroupValue) (start : Position) (names : List (List ℕ)) (source : SourceValue) (earlier : PastEvents) (event : EventValue) (groups : List KeptGroupValue) (position : Position) (changes : List KeptChangeValue)
    → block_at source earlier event ≡ Some (record { position = position; changes = map (named names) changes }) → IsCanonical position → Ends base start names source earlier groups
    → BlockEnds base start names source earlier event groups position changes (block_end (length base) start groups position changes)
block_end-ends laws base start names source earlier event groups position changes b p e =
    elim (cases_Bool (within_of position (seen source earlier))) [
      | inl w ↦ rw (cond-true (within_of position (last_position start groups)) _ _ (ap (within_of position) e.last ∙ w)) (skipped laws base start names source earlier event groups position changes b p e w)
      | inr w ↦ rw (cond-false (within_of position (last_position start groups)) _ _ (ap (within_of position) e.last ∙ w))
          (elim (cases_Bool (within_of (seen source earlier) position)) [
            | inl v ↦ rw (cond-true (within_of (last_position start groups) position) _ _ (ap (λ s. within_of s position) e.last ∙ v)) (added laws base start names source earlier event groups position changes b p e w v)
            | inr v ↦ rw (cond-false (within_of (last_position start groups) position) _ _ (ap (λ s. within_of s position) e.last ∙ v)) (diverged base start names source earlier event groups position changes e w v)
          ])
    ]
