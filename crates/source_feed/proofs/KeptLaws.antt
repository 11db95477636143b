-- The groups of a history are its kept blocks, block by block.
use Rattle.std.proofs.Common.{◌≡◌, ℕ, zero, suc, ◌+◌, ◌<◌, ◌≤◌, ◌⊎◌, List, [], ◌∷◌, ◌++◌, length, Option, None, Some, true, false, slice_get, refl, sym, ◌∙◌, ap, arith, inl, inr}
use Rattle.std.proofs.lemmas.Bool.{cases_Bool, cond-true, cond-false, false≢true}
use Rattle.std.proofs.lemmas.List.{length-append, take-append-le, take_all, append-nil}
use Rattle.std.proofs.lemmas.Option.{slice_get_within}
use Rattle.std.specs.Option.{option_to_list}
use Rattle.list_laws.proofs.Places.{slice_get-push}
use Rattle.gtid_set.specs.Position.{union_of, within_of}
use Rattle.source_feed.specs.GroupValue.{Position, GroupValue}
use Rattle.source_feed.specs.SourceValue.{SourceValue}
use Rattle.source_feed.specs.PastEvents.{PastEvents}
use Rattle.source_feed.specs.Groups.{Block, block_at, with_block, seen, group_of_block, groups_of}
use Rattle.source_feed.specs.Grammar.{blocks}
use Rattle.source_feed.specs.KeptBlocks.{union_with, kept_count, union_before, kept_before, group_as, IsKeptBlock, AreKeptBlocks}

-- ---- one block more

union_with-push : (seen : Position) (all : List Block) (block : Block) → union_with seen (all ++ block ∷ []) ≡ union_of (union_with seen all) block.position
union_with-push seen [] block = refl
union_with-push seen (first ∷ all) block = union_with-push (union_of seen first.position) all block

kept_count-repeat : (seen : Position) (all : List Block) (block : Block) → within_of block.position (union_with seen all) ≡ true → kept_count seen (all ++ block ∷ []) ≡ kept_count seen all
kept_count-repeat seen [] block w = ap (λ n. n + 0) (cond-true {A = ℕ} (within_of block.position seen) 0 1 w)
kept_count-repeat seen (first ∷ all) block w =
    let more : kept_count (union_of seen first.position) (all ++ block ∷ []) ≡ kept_count (union_of seen first.position) all = kept_count-repeat (union_of seen first.position) all block w in
    omega (arith, more)

kept_count-more : (seen : Position) (all : List Block) (block : Block) → within_of block.position (union_with seen all) ≡ false → kept_count seen (all ++ block ∷ []) ≡ kept_count seen all + 1
kept_count-more seen [] block w = ap (λ n. n + 0) (cond-false {A = ℕ} (within_of block.position seen) 0 1 w)
kept_count-more seen (first ∷ all) block w =
    let more : kept_count (union_of seen first.position) (all ++ block ∷ []) ≡ kept_count (union_of seen first.position) all + 1 = kept_count-more (union_of seen first.position) all block w in
    omega (arith, more)

-- what stands before a place isn't changed by what is put behind
union_before-push : (all : List Block) (block : Block) (i : ℕ) → i ≤ length all → union_before (all ++ block ∷ []) i ≡ union_before all i
union_before-push all block i h = ap (union_with []) (take-append-le i all (block ∷ []) h)

kept_before-push : (all : List Block) (block : Block) (i : ℕ) → i ≤ length all → kept_before (all ++ block ∷ []) i ≡ kept_before all i
kept_before-push all block i h = ap (kept_count []) (take-append-le i all (block ∷ []) h)

union_before-all : (all : List Block) → union_before all (length all) ≡ union_with [] all
union_before-all all = ap (union_with []) (take_all (length all) all (omega arith))

kept_before-all : (all : List Block) → kept_before all (length all) ≡ kept_count [] all
kept_before-all all = ap (kept_count []) (take_all (length all) all (omega arith))

slice_get-last : {A : Type 0} (xs : List A) (x : A) → slice_get (xs ++ x ∷ []) (length xs) ≡ Some x
slice_get-last [] x = refl
slice_get-last (y ∷ xs) x = slice_get-last xs x

slice_get-front : {A : Type 0} (xs : List A) (x y : A) (i : ℕ) → slice_get xs i ≡ Some y → slice_get (xs ++ x ∷ []) i ≡ Some y
slice_get-front [] x y i e = cc
slice_get-front (z ∷ xs) x y zero e = e
slice_get-front (z ∷ xs) x y (suc i) e = slice_get-front xs x y i e

-- ---- all blocks

-- the groups of some blocks, with the union of their positions
record Kept (all : List Block) (groups : List GroupValue) (seen : Position) : Type 0 where
  union : seen ≡ union_with [] all
  count : length groups ≡ kept_count [] all
  each_block : (i : ℕ) (block : Block) → IsKeptBlock all i block → slice_get groups (kept_before all i) ≡ Some (group_as (kept_before all i + 1) block)
  each_group : (n : ℕ) (group : GroupValue) → slice_get groups n ≡ Some group → (i : ℕ) × (block : Block) × IsKeptBlock all i block × (kept_before all i ≡ n) × (group ≡ group_as (n + 1) block)

none_yet : Kept [] [] []
none_yet = record {
  union = refl;
  count = refl;
  each_block = λ i block k. absurd (no_block i block k.here);
  each_group = λ n group e. absurd (no_group n group e);
}
  where
    no_block : (i : ℕ) (block : Block) → slice_get [] i ≡ Some block → ⊥
    no_block i block e = cc

    no_group : (n : ℕ) (group : GroupValue) → slice_get [] n ≡ Some group → ⊥
    no_group n group e = cc

-- a kept block is one before the last, or the last
kept_push : (all : List Block) (last block : Block) (i : ℕ) → IsKeptBlock (all ++ last ∷ []) i block
    → ((i < length all) × IsKeptBlock all i block) ⊎ ((i ≡ length all) × (last ≡ block) × (within_of block.position (union_with [] all) ≡ false))
kept_push all last block i k =
    elim (slice_get-push all last block i k.here) [
      | inl old ↦ inl (old.0, record { here = old.1; more = rw (union_before-push all last i (omega (arith, old.0))) at k.more })
      | inr end ↦
          let before : union_before (all ++ last ∷ []) i ≡ union_with [] all
          = union_before-push all last i (omega (arith, end.0)) ∙ ap (union_before all) end.0 ∙ union_before-all all in
          inr (end.0, end.1, ap (within_of block.position) (sym before) ∙ k.more)
    ]

-- a kept block stays one
kept_front : (all : List Block) (last block : Block) (i : ℕ) → IsKeptBlock all i block → IsKeptBlock (all ++ last ∷ []) i block
kept_front all last block i k =
    let within : i < length all = slice_get_within all i block k.here in
    record { here = slice_get-front all last block i k.here; more = ap (within_of block.position) (union_before-push all last i (omega (arith, within))) ∙ k.more }

repeated : (all : List Block) (groups : List GroupValue) (seen : Position) (last : Block) → Kept all groups seen → within_of last.position seen ≡ true
    → Kept (all ++ last ∷ []) groups (union_of seen last.position)
repeated all groups seen last k w =
    let w' : within_of last.position (union_with [] all) ≡ true = ap (within_of last.position) (sym k.union) ∙ w in
    record {
      union = ap (λ s. union_of s last.position) k.union ∙ sym (union_with-push [] all last);
      count = k.count ∙ sym (kept_count-repeat [] all last w');
      each_block = λ i block kept. elim (kept_push all last block i kept) [
        | inl old ↦ rw (kept_before-push all last i (omega (arith, old.0))) (k.each_block i block old.1)
        | inr end ↦ absurd (false≢true (sym end.2 ∙ ap (λ (b : Block). within_of b.position (union_with [] all)) (sym end.1) ∙ w'))
      ];
      each_group = λ n group e. (let g = k.each_group n group e in
          let within : g.0 < length all = slice_get_within all g.0 g.1 g.2.here in
          (g.0, g.1, kept_front all last g.1 g.0 g.2, kept_before-push all last g.0 (omega (arith, within)) ∙ g.3, g.4));
    }

added : (all : List Block) (groups : List GroupValue) (seen : Position) (last : Block) → Kept all groups seen → within_of last.position seen ≡ false
    → Kept (all ++ last ∷ []) (groups ++ group_as (length groups + 1) last ∷ []) (union_of seen last.position)
added all groups seen last k w =
    let w' : within_of last.position (union_with [] all) ≡ false = ap (within_of last.position) (sym k.union) ∙ w in
    let new : GroupValue = group_as (length groups + 1) last in
    let at : kept_before (all ++ last ∷ []) (length all) ≡ length groups = kept_before-push all last (length all) (omega arith) ∙ kept_before-all all ∙ sym k.count in
    record {
      union = ap (λ s. union_of s last.position) k.union ∙ sym (union_with-push [] all last);
      count = length-append groups (new ∷ []) ∙ ap (λ n. n + 1) k.count ∙ sym (kept_count-more [] all last w');
      each_block = λ i block kept. elim (kept_push all last block i kept) [
        | inl old ↦ rw (kept_before-push all last i (omega (arith, old.0))) (slice_get-front groups new (group_as (kept_before all i + 1) block) (kept_before all i) (k.each_block i block old.1))
        | inr end ↦
            let place : kept_before (all ++ last ∷ []) i ≡ length groups = ap (kept_before (all ++ last ∷ [])) end.0 ∙ at in
            ap (slice_get (groups ++ new ∷ [])) place ∙ slice_get-last groups new ∙ ap (λ n. Some (group_as (n + 1) last)) (sym place) ∙ ap (λ b. Some (group_as (kept_before (all ++ last ∷ []) i + 1) b)) end.1
      ];
      each_group = λ n group e. elim (slice_get-push groups new group n e) [
        | inl old ↦
            let g = k.each_group n group old.1 in
            let within : g.0 < length all = slice_get_within all g.0 g.1 g.2.here in
            (g.0, g.1, kept_front all last g.1 g.0 g.2, kept_before-push all last g.0 (omega (arith, within)) ∙ g.3, g.4)
        | inr end ↦ (
          length all,
          last,
          record { here = slice_get-last all last; more = ap (within_of last.position) (union_before-push all last (length all) (omega arith) ∙ union_before-all all) ∙ w' },
          at ∙ sym end.0,
          sym end.1 ∙ ap (λ k. group_as (k + 1) last) (sym end.0),
        )
      ];
    }

-- the blocks and groups behind an event whose block is this one
abbrev KeptBy : List Block → List GroupValue → Position → Option Block → Type 0
KeptBy all groups seen block = Kept (all ++ option_to_list block) (groups ++ group_of_block seen (length groups + 1) block) (with_block seen block)

no_block : (all : List Block) (groups : List GroupValue) (seen : Position) → Kept all groups seen → KeptBy all groups seen None
no_block all groups seen k = rw (append-nil all, append-nil groups) k

one_block : (all : List Block) (groups : List GroupValue) (seen : Position) (block : Block) → Kept all groups seen → KeptBy all groups seen (Some block)
one_block all groups seen block k =
    let new : List GroupValue = group_as (length groups + 1) block ∷ [] in
    elim (cases_Bool (within_of block.position seen)) [
      | inl within ↦ rw (cond-true (within_of block.position seen) [] new within, append-nil groups) (repeated all groups seen block k within)
      | inr beyond ↦ rw (cond-false (within_of block.position seen) [] new beyond) (added all groups seen block k beyond)
    ]

one_event : (all : List Block) (groups : List GroupValue) (seen : Position) (block : Option Block) → Kept all groups seen → KeptBy all groups seen block
one_event all groups seen None k = no_block all groups seen k
one_event all groups seen (Some block) k = one_block all groups seen block k

kept_blocks : (source : SourceValue) (past : PastEvents) → Kept (blocks source past) (groups_of source past) (seen source past)
kept_blocks source [] = none_yet
kept_blocks source (event ∷ earlier) = one_event (blocks source earlier) (groups_of source earlier) (seen source earlier) (block_at source earlier event) (kept_blocks source earlier)

pub are_kept_blocks : (source : SourceValue) (past : PastEvents) → AreKeptBlocks source past
are_kept_blocks source past =
    let k : Kept (blocks source past) (groups_of source past) (seen source past) = kept_blocks source past in
    record { each_block = k.each_block; each_group = k.each_group }
