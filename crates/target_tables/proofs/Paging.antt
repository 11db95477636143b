-- Entries of pages: where a place of a page lies among all entries, and what a change in a page is there.
use Rattle.std.proofs.Common.{◌≡◌, ℕ, ◌+◌, ◌-◌, ◌<◌, ◌≤◌, List, [], ◌∷◌, ◌++◌, length, take, drop, get_or, set, refl, sym, ap, ◌∙◌, arith}
use Rattle.std.proofs.lemmas.List.{append_assoc, take-append-drop, drop_more, length-append, length-take-le, take_at, drop_at, set-append_left, set-append_right, nil_from_length}
use Rattle.std.proofs.lemmas.List.Concat.{flat_map-append, get_or-flat_map}
use Rattle.std.proofs.lemmas.List.Edits.{insert-append_left, insert-append_right, remove-append_left, remove-append_right, length-remove}
use Rattle.std.specs.List.{insert, remove}
use Rattle.target_tables.specs.Pages.{entries_of, page_at, flat}
use Rattle.target_tables.proofs.Placed.{set-parts, remove-parts}

module _ {X : Type 0} (pages : List (List X)) (i : ℕ) where
  abbrev pub before : List X
  before = entries_of (take i pages)

  abbrev pub behind : List X
  behind = entries_of (drop (i + 1) pages)

  module _ (inside : i < length pages) where
    -- the entries before a page, in it and behind it
    pub parts : entries_of pages ≡ before ++ (page_at pages i ++ behind)
    parts =
        ap (λ (l : List (List X)). entries_of l) (sym (take-append-drop i pages))
        ∙ flat_map-append (λ (page : List X). page) (take i pages) (drop i pages)
        ∙ ap (λ (l : List (List X)). before ++ entries_of l) (drop_more pages i [] inside)

    pub parts_set : (q : List X) → entries_of (set pages i q) ≡ before ++ (q ++ behind)
    parts_set q =
        ap (λ (l : List (List X)). entries_of l) (set-parts pages i q inside)
        ∙ flat_map-append (λ (page : List X). page) (take i pages) (q ∷ drop (i + 1) pages)

    pub parts_removed : entries_of (remove pages i) ≡ before ++ behind
    parts_removed =
        ap (λ (l : List (List X)). entries_of l) (remove-parts pages i)
        ∙ flat_map-append (λ (page : List X). page) (take i pages) (drop (i + 1) pages)

    -- ---- one entry put in, put over or taken out

    module _ (p : ℕ) where
      past : p ≡ flat pages i p - length before
      past = omega arith

      pub inserted : p ≤ length (page_at pages i) → (e : X) → entries_of (set pages i (insert (page_at pages i) p e)) ≡ insert (entries_of pages) (flat pages i p) e
      inserted within e =
          parts_set (insert (page_at pages i) p e)
          ∙ ap (λ (l : List X). before ++ l) (sym (insert-append_left (page_at pages i) behind p e within))
          ∙ ap (λ m. before ++ insert (page_at pages i ++ behind) m e) past
          ∙ sym (insert-append_right before (page_at pages i ++ behind) (length before) (flat pages i p) e refl (omega arith))
          ∙ ap (λ (l : List X). insert l (flat pages i p) e) (sym parts)

      pub put_over : p < length (page_at pages i) → (e : X) → entries_of (set pages i (set (page_at pages i) p e)) ≡ set (entries_of pages) (flat pages i p) e
      put_over within e =
          parts_set (set (page_at pages i) p e)
          ∙ ap (λ (l : List X). before ++ l) (sym (set-append_left (page_at pages i) behind p e within))
          ∙ ap (λ m. before ++ set (page_at pages i ++ behind) m e) past
          ∙ sym (set-append_right before (page_at pages i ++ behind) (length before) (flat pages i p) e refl (omega arith))
          ∙ ap (λ (l : List X). set l (flat pages i p) e) (sym parts)

      without : p < length (page_at pages i) → before ++ (remove (page_at pages i) p ++ behind) ≡ remove (entries_of pages) (flat pages i p)
      without within =
          ap (λ (l : List X). before ++ l) (sym (remove-append_left (page_at pages i) behind p within))
          ∙ ap (λ m. before ++ remove (page_at pages i ++ behind) m) past
          ∙ sym (remove-append_right before (page_at pages i ++ behind) (length before) (flat pages i p) refl (omega arith))
          ∙ ap (λ (l : List X). remove l (flat pages i p)) (sym parts)

      pub taken_out : p < length (page_at pages i) → entries_of (set pages i (remove (page_at pages i) p)) ≡ remove (entries_of pages) (flat pages i p)
      taken_out within = parts_set (remove (page_at pages i) p) ∙ without within

      -- with its last entry a page goes
      pub page_gone : p < length (page_at pages i) → length (page_at pages i) ≡ 1 → entries_of (remove pages i) ≡ remove (entries_of pages) (flat pages i p)
      page_gone within one =
          let less : length (remove (page_at pages i) p) + 1 ≡ length (page_at pages i) = length-remove (page_at pages i) p within in
          let none : remove (page_at pages i) p ≡ [] = nil_from_length (remove (page_at pages i) p) (omega arith) in
          parts_removed
          ∙ ap (λ (l : List X). before ++ (l ++ behind)) (sym none)
          ∙ without within

      -- ---- what stands at, before and from a place on

      pub read : p < length (page_at pages i) → (d : X) → get_or (entries_of pages) (flat pages i p) d ≡ get_or (page_at pages i) p d
      read within d = get_or-flat_map (λ (page : List X). page) pages i p [] d inside within

      cut : entries_of pages ≡ (before ++ take p (page_at pages i)) ++ (drop p (page_at pages i) ++ behind)
      cut =
          parts
          ∙ ap (λ (l : List X). before ++ (l ++ behind)) (sym (take-append-drop p (page_at pages i)))
          ∙ ap (λ (l : List X). before ++ l) (append_assoc (take p (page_at pages i)) (drop p (page_at pages i)) behind)
          ∙ sym (append_assoc before (take p (page_at pages i)) (drop p (page_at pages i) ++ behind))

      cut_length : p ≤ length (page_at pages i) → length (before ++ take p (page_at pages i)) ≡ flat pages i p
      cut_length within = length-append before (take p (page_at pages i)) ∙ ap (λ n. length before + n) (length-take-le p (page_at pages i) within)

      pub front : p ≤ length (page_at pages i) → take (flat pages i p) (entries_of pages) ≡ before ++ take p (page_at pages i)
      front within =
          ap (λ (l : List X). take (flat pages i p) l) cut
          ∙ take_at (before ++ take p (page_at pages i)) (drop p (page_at pages i) ++ behind) (flat pages i p) (cut_length within)

      pub rest : p ≤ length (page_at pages i) → drop (flat pages i p) (entries_of pages) ≡ drop p (page_at pages i) ++ behind
      rest within =
          ap (λ (l : List X). drop (flat pages i p) l) cut
          ∙ drop_at (before ++ take p (page_at pages i)) (drop p (page_at pages i) ++ behind) (flat pages i p) (cut_length within)

      pub up_to : p ≤ length (page_at pages i) → flat pages i p ≤ length (entries_of pages)
      up_to within =
          let all : length (entries_of pages) ≡ length (before ++ take p (page_at pages i)) + length (drop p (page_at pages i) ++ behind) =
          ap length cut ∙ length-append (before ++ take p (page_at pages i)) (drop p (page_at pages i) ++ behind) in
          let n : length (before ++ take p (page_at pages i)) ≡ flat pages i p = cut_length within in
          omega arith
