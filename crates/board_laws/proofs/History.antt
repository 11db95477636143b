-- A history with one group more or cut at one, and what it keeps.
use Rattle.std.proofs.Common.{◌≡◌, ℕ, ◌+◌, ◌-◌, ◌^◌, ◌<◌, ◌≤◌, ◌⊎◌, inl, inr, Bool, true, false, cond, List, [], ◌∷◌, ◌++◌, length, take, Option, Some, None, slice_get, refl, sym, ap, subst, ◌∙◌, arith}
use Rattle.std.proofs.lemmas.Bool.{false≢true}
use Rattle.std.proofs.lemmas.Grind.{flat_map-append}
use Rattle.std.proofs.lemmas.List.{append-nil, take-append-le}
use Rattle.std.proofs.lemmas.Option.{same_Some, slice_get_within}
use Rattle.std.specs.Prelude.{unwrap_or}
use Rattle.std.specs.Option.{option_map, option_and_then, option_map_or}
use Rattle.source_feed.proofs.ImageLaws.{last_at-append, kept-or, take-next}
use Rattle.list_laws.proofs.Places.{slice_get-push, slice_get-take}
use Rattle.gtid_set.specs.Position.{IsCanonical, IsWithin}
use Rattle.filter_rule.specs.PlanValue.{PlanValue}
use Rattle.pk_copy.specs.KeyOrder.{key_cmp}
use Rattle.pk_copy.specs.KeyValue.{KeyValue}
use Rattle.target_tables.specs.Touches.{last_at}
use Rattle.source_feed.specs.GroupOrder.{IsProperPart}
use Rattle.source_feed.specs.Prepared.{IsPrepared}
use Rattle.source_feed.specs.Touches.{PutValue, TouchValue, PreparedValue}
use Rattle.source_feed.specs.History.{RowValue, touches_in, passing, passed_at}
use Rattle.source_feed.specs.Image.{kept_after}
use Rattle.board_laws.specs.Lawful.{IsReadList}
use Rattle.board_laws.specs.Allowed.{last_position, IsNext}
use Rattle.board_laws.proofs.Lists.{take-take, empty_without_last}

-- ---- what one group more keeps

touches_in-more : (groups : List PreparedValue) (group : PreparedValue) → touches_in (groups ++ group ∷ []) ≡ touches_in groups ++ group.touches
touches_in-more groups group =
    flat_map-append (λ (g : PreparedValue). g.touches) groups (group ∷ []) ∙ ap (λ (ts : List TouchValue). touches_in groups ++ ts) (append-nil group.touches)

-- one group more keeps at a key what its last touch leaves there, and else what was kept
pub passed_at-next : (history : List PreparedValue) (n : ℕ) (group : PreparedValue) (key : KeyValue) → slice_get history n ≡ Some group
    → passed_at history (n + 1) key ≡ kept_after (last_at key_cmp group.touches key) (passed_at history n key)
passed_at-next history n group key e =
    ap (λ (t : Option (Option PutValue)). option_and_then passing (option_and_then (λ put. put) t))
    (ap (λ (gs : List PreparedValue). last_at key_cmp (touches_in gs) key) (take-next history n group e)
    ∙ ap (λ (ts : List TouchValue). last_at key_cmp ts key) (touches_in-more (take n history) group)
    ∙ last_at-append (touches_in (take n history)) group.touches key)
    ∙ kept-or (last_at key_cmp group.touches key) (last_at key_cmp (touches_in (take n history)) key)

-- the same at a copied key and at another
pub cut-next : (inside : Bool) (t : Option (Option PutValue)) (kept : Option RowValue)
    → cond inside (kept_after t kept) None ≡ unwrap_or (cond inside (option_map (option_and_then passing) t) None) (cond inside kept None)
cut-next true None kept = refl
cut-next true (Some put) kept = refl
cut-next false t kept = refl

-- ---- histories with the same beginning

pub passed_at-alike : (one other : List PreparedValue) (n : ℕ) (key : KeyValue) → take n one ≡ take n other → passed_at one n key ≡ passed_at other n key
passed_at-alike one other n key e = ap (λ (gs : List PreparedValue). option_and_then passing (option_and_then (λ put. put) (last_at key_cmp (touches_in gs) key))) e

pub passed_at-push : (history : List PreparedValue) (group : PreparedValue) (n : ℕ) (key : KeyValue) → n ≤ length history → passed_at (history ++ group ∷ []) n key ≡ passed_at history n key
passed_at-push history group n key h = passed_at-alike (history ++ group ∷ []) history n key (take-append-le n history (group ∷ []) h)

pub passed_at-take : (history : List PreparedValue) (n : ℕ) (key : KeyValue) → passed_at (take n history) n key ≡ passed_at history n key
passed_at-take history n key = passed_at-alike (take n history) history n key (take-take n history)

-- ---- read lists

-- each group's position lies within the last one
within_last : (plan : PlanValue) (list : List PreparedValue) (i : ℕ) (group : PreparedValue) → IsReadList plan list → slice_get list i ≡ Some group → IsWithin group.position (last_position list)
within_last plan list i group read here = by (slice_get list (length list - 1)) refl
  where
    by : (o : Option PreparedValue) → slice_get list (length list - 1) ≡ o → IsWithin group.position (option_map_or (λ g. g.position) (slice_get list (length list - 1)) [])
    by None e =
        let none : list ≡ [] = empty_without_last list e in
        let clash : None ≡ Some group = sym (ap (λ (gs : List PreparedValue). slice_get gs i) none) ∙ here in
        cc
    by (Some last) e =
        subst (λ (o : Option PreparedValue). IsWithin group.position (option_map_or (λ g. g.position) o [])) (sym e)
        (elim place [
          | inl before ↦ (read.order.growing i (length list - 1) group last before here e).0
          | inr at ↦
              let same : group ≡ last = same_Some group last (sym here ∙ ap (λ n. slice_get list n) at ∙ e) in
              subst (λ (g : PreparedValue). IsWithin group.position g.position) same (λ uuid number held. held)
        ])
      where
        inside : i < length list
        inside = slice_get_within list i group here

        place : (i < length list - 1) ⊎ (i ≡ length list - 1)
        place = grind (arith, inside)

-- the next group can be read behind a list
pub read-next : (plan : PlanValue) (list : List PreparedValue) (group : PreparedValue) → IsReadList plan list → group.plan ≡ plan → IsPrepared group → IsNext list group → IsReadList plan (list ++ group ∷ [])
read-next plan list group read own prepared next = record {
  prepared = λ i g e. elim (slice_get-push list group g i e) [
    | inl old ↦ read.prepared i g old.1
    | inr last ↦ subst (λ (x : PreparedValue). IsPrepared x) last.1 prepared
  ];
  planned = λ i g e. elim (slice_get-push list group g i e) [
    | inl old ↦ read.planned i g old.1
    | inr last ↦ ap (λ (x : PreparedValue). x.plan) (sym last.1) ∙ own
  ];
  order = record {
    numbered = λ i g e. elim (slice_get-push list group g i e) [
      | inl old ↦ read.order.numbered i g old.1
      | inr last ↦ ap (λ (x : PreparedValue). x.number) (sym last.1) ∙ next.number ∙ ap (λ n. n + 1) (sym last.0)
    ];
    canonical = λ i g e. elim (slice_get-push list group g i e) [
      | inl old ↦ read.order.canonical i g old.1
      | inr last ↦ subst (λ (x : PreparedValue). IsCanonical x.position) last.1 prepared.canonical
    ];
    from_empty = λ i g e. elim (slice_get-push list group g i e) [
      | inl old ↦ read.order.from_empty i g old.1
      | inr last ↦ subst (λ (x : PreparedValue). IsProperPart [] x.position) last.1 (
        λ uuid number held. absurd (false≢true held),
        λ empty. next.growing.1 (λ uuid number held. absurd (false≢true (empty uuid number held))),
      )
    ];
    growing = λ i j earlier later less e f. elim (slice_get-push list group later j f) [
      | inl old ↦ elim (slice_get-push list group earlier i e) [
        | inl before ↦ read.order.growing i j earlier later less before.1 old.1
        | inr last ↦ absurd (omega (arith, last.0, old.0, less))
      ]
      | inr end ↦ elim (slice_get-push list group earlier i e) [
        | inl before ↦
            let within : IsWithin earlier.position (last_position list) = within_last plan list i earlier read before.1 in
            subst (λ (x : PreparedValue). IsProperPart earlier.position x.position) end.1 (
              λ uuid number held. next.growing.0 uuid number (within uuid number held),
              λ back. next.growing.1 (λ uuid number held. within uuid number (back uuid number held)),
            )
        | inr last ↦ absurd (omega (arith, last.0, end.0, less))
      ]
    ];
  };
}

-- a list that is cut is one
pub read-cut : (plan : PlanValue) (list : List PreparedValue) (n : ℕ) → IsReadList plan list → IsReadList plan (take n list)
read-cut plan list n read = record {
  prepared = λ i g e. read.prepared i g (slice_get-take n list i g e);
  planned = λ i g e. read.planned i g (slice_get-take n list i g e);
  order = record {
    numbered = λ i g e. read.order.numbered i g (slice_get-take n list i g e);
    canonical = λ i g e. read.order.canonical i g (slice_get-take n list i g e);
    from_empty = λ i g e. read.order.from_empty i g (slice_get-take n list i g e);
    growing = λ i j earlier later less e f. read.order.growing i j earlier later less (slice_get-take n list i earlier e) (slice_get-take n list j later f);
  };
}

-- a list has fewer than 2^31 groups, since its last one has the number of them all
pub short : (plan : PlanValue) (list : List PreparedValue) → IsReadList plan list → length list < 2 ^ 31
short plan list read = by (slice_get list (length list - 1)) refl
  where
    by : (o : Option PreparedValue) → slice_get list (length list - 1) ≡ o → length list < 2 ^ 31
    by None e = subst (λ (gs : List PreparedValue). length gs < 2 ^ 31) (sym (empty_without_last list e)) (omega arith)
    by (Some last) e =
        let inside : length list - 1 < length list = slice_get_within list (length list - 1) last e in
        let number : last.number ≡ length list - 1 + 1 = read.order.numbered (length list - 1) last e in
        let few : last.number < 2 ^ 31 = (read.prepared (length list - 1) last e).few in
        omega arith
