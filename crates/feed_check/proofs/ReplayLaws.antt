-- A replay, one change on.
use Rattle.std.proofs.Common.{◌≡◌, List, [], ◌∷◌, ◌++◌, Option, Some, None, refl, ap, sym, ◌∙◌, reverse}
use Rattle.std.specs.List.{flat_map}
use Rattle.std.specs.Option.{option_and_then, option_to_list}
use Rattle.std.proofs.lemmas.List.{append_assoc, append-nil, reverse-append}
use Rattle.std.proofs.lemmas.List.Concat.{flat_map-cons}
use Rattle.pk_copy.specs.KeyOrder.{key_cmp}
use Rattle.pk_copy.specs.KeyValue.{KeyValue}
use Rattle.target_tables.specs.Touches.{last_at}
use Rattle.source_feed.specs.History.{RowValue}
use Rattle.feed_check.specs.KeyedChanges.{KeyedRowValue, KeyedChangeValue}
use Rattle.feed_check.specs.Replay.{touches_of_keyed, left_at, row_left}
use Rattle.feed_check.specs.Findings.{FindingValue, has_key, why_before, why_after, told, found_before, found_after, findings_in}
use Rattle.feed_check.specs.Private.Replayed.{row_in, IsReplayed}

-- what is told of a change depends on the rows at its keys
same_before : (change : KeyedChangeValue) (rows others : KeyValue → Option RowValue) → ((key : KeyValue) → rows key ≡ others key) → found_before change rows ≡ found_before change others
same_before change rows others same = by change.before
  where
    by : (image : Option KeyedRowValue) → option_and_then (λ i. told change i.0 (why_before i.1 (rows i.0))) image ≡ option_and_then (λ i. told change i.0 (why_before i.1 (others i.0))) image
    by None = refl
    by (Some i) = ap (λ (there : Option RowValue). told change i.0 (why_before i.1 there)) (same i.0)

same_after : (change : KeyedChangeValue) (rows others : KeyValue → Option RowValue) → ((key : KeyValue) → rows key ≡ others key) → found_after change rows ≡ found_after change others
same_after change rows others same = by change.after
  where
    by : (image : Option KeyedRowValue) → option_and_then (λ i. told change i.0 (why_after (has_key change.before i.0) (rows i.0))) image ≡ option_and_then (λ i. told change i.0 (why_after (has_key change.before i.0) (others i.0))) image
    by None = refl
    by (Some i) = ap (λ (there : Option RowValue). told change i.0 (why_after (has_key change.before i.0) there)) (same i.0)

-- the rows and findings behind one change more
pub replayed_more : (change : KeyedChangeValue) (past : List KeyedChangeValue) (old new : List KeyedRowValue) (found between more : List FindingValue) (before after : Option FindingValue)
    → before ≡ found_before change (row_in old) → after ≡ found_after change (row_in old)
    → between ≡ found ++ option_to_list before → more ≡ between ++ option_to_list after
    → ((key : KeyValue) → row_in new key ≡ left_at (last_at key_cmp (touches_of_keyed change) key) (row_in old key))
    → IsReplayed past old found → IsReplayed (change ∷ past) new more
replayed_more change past old new found between more before after b a bs ends touched h = record {
  standing = λ key. touched key ∙ ap (λ (there : Option RowValue). left_at (last_at key_cmp (touches_of_keyed change) key) there) (h.standing key);
  found =
      ends
      ∙ ap (λ (front : List FindingValue). front ++ option_to_list after) bs
      ∙ append_assoc found (option_to_list before) (option_to_list after)
      ∙ ap (λ (front : List FindingValue). front ++ (option_to_list before ++ option_to_list after)) h.found
      ∙ ap (λ (o : Option FindingValue). findings_in past ++ (option_to_list o ++ option_to_list after)) (b ∙ same_before change (row_in old) (row_left past) h.standing)
      ∙ ap (λ (o : Option FindingValue). findings_in past ++ (option_to_list (found_before change (row_left past)) ++ option_to_list o)) (a ∙ same_after change (row_in old) (row_left past) h.standing);
}

-- changes with one more behind them, the last first
pub past-pushed : (earlier done : List KeyedChangeValue) (change : KeyedChangeValue) → reverse (earlier ++ (done ++ change ∷ [])) ≡ change ∷ reverse (earlier ++ done)
past-pushed earlier done change = ap reverse (sym (append_assoc earlier done (change ∷ []))) ∙ reverse-append (earlier ++ done) (change ∷ [])

-- the changes of one more group, and those of the groups that are left
pub one-group : {G : Type 0} (f : G → List KeyedChangeValue) (past changes : List KeyedChangeValue) (left later : List G) (group : G) (all : List KeyedChangeValue)
    → left ≡ group ∷ later → changes ≡ f group → past ++ flat_map f left ≡ all → (past ++ changes) ++ flat_map f later ≡ all
one-group {G} f past changes left later group all steps is whole =
    append_assoc past changes (flat_map f later)
    ∙ ap (λ (front : List KeyedChangeValue). past ++ (front ++ flat_map f later)) is
    ∙ ap (λ (cs : List KeyedChangeValue). past ++ cs) (sym (flat_map-cons f group later))
    ∙ ap (λ (gs : List G). past ++ flat_map f gs) (sym steps)
    ∙ whole

-- no group is left
pub all-groups : {G : Type 0} (f : G → List KeyedChangeValue) (past : List KeyedChangeValue) (left : List G) (all : List KeyedChangeValue) → left ≡ [] → past ++ flat_map f left ≡ all → past ≡ all
all-groups {G} f past left all none whole = sym (append-nil past) ∙ ap (λ (gs : List G). past ++ flat_map f gs) (sym none) ∙ whole
