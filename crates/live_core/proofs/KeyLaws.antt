-- Sets of keys, and the keys that touches have.
use Rattle.std.proofs.Common.{◌≡◌, ◌≢◌, ◌||◌, ◌↔◌, Bool, true, false, cond, List, [], ◌∷◌, Option, Some, None, refl, sym, ap, ◌∙◌}
use Rattle.std.proofs.lemmas.Bool.{true≢false}
use Rattle.std.proofs.lemmas.Cmp.{eq_by_cmp_equiv}
use Rattle.std.proofs.lemmas.List.Folds.{list_any-append}
use Rattle.std.proofs.Math.Bool.{or_assoc}
use Rattle.std.specs.Option.{option_or}
use Rattle.std.specs.Ordering.{eq_by_cmp}
use Rattle.pk_copy.specs.KeyOrder.{key_cmp}
use Rattle.pk_copy.specs.KeyOrderLaws.{key_cmp_total}
use Rattle.pk_copy.specs.KeyValue.{KeyValue}
use Rattle.target_tables.specs.Touches.{last_at}
use Rattle.source_feed.specs.Touches.{PutValue, TouchValue, PreparedValue}
use Rattle.source_feed.specs.History.{touches_in}
use Rattle.board_laws.specs.Runs.{IsTouchedIn}
use Rattle.live_core.specs.Private.Keys.{has_key, is_touched}

-- ---- a set with one key more

abbrev pub is_same : KeyValue → KeyValue → Bool
is_same = eq_by_cmp key_cmp

same-both_ways : (a b : KeyValue) → is_same a b ≡ is_same b a
same-both_ways a b = (eq_by_cmp_equiv key_cmp_total).symm a b

-- what std says of a set with the key k put in
abbrev pub HasMore : List KeyValue → List KeyValue → KeyValue → Type 0
HasMore old new k = (q : KeyValue) → has_key new q ≡ cond (is_same k q) true (has_key old q)

put-by : (b h r : Bool) → (cond b true h || r) ≡ (h || (b || r))
put-by true true r = refl
put-by true false r = refl
put-by false h r = refl

-- a key of a touch is put in
pub put-one : (old new : List KeyValue) (touch : TouchValue) (rest : List TouchValue) → HasMore old new touch.0 → (q : KeyValue) → (has_key new q || is_touched rest q) ≡ (has_key old q || is_touched (touch ∷ rest) q)
put-one old new touch rest more q =
    ap (λ (b : Bool). b || is_touched rest q) (more q)
    ∙ put-by (is_same touch.0 q) (has_key old q) (is_touched rest q)
    ∙ ap (λ (b : Bool). has_key old q || (b || is_touched rest q)) (same-both_ways touch.0 q)

-- the keys of a group are
pub put-group : (old new : List KeyValue) (group : PreparedValue) (rest : List PreparedValue) → ((q : KeyValue) → has_key new q ≡ (has_key old q || is_touched group.touches q)) → (q : KeyValue)
    → (has_key new q || is_touched (touches_in rest) q) ≡ (has_key old q || is_touched (touches_in (group ∷ rest)) q)
put-group old new group rest more q =
    ap (λ (b : Bool). b || is_touched (touches_in rest) q) (more q)
    ∙ or_assoc (has_key old q) (is_touched group.touches q) (is_touched (touches_in rest) q)
    ∙ ap (λ (b : Bool). has_key old q || b) (sym (list_any-append (λ (t : TouchValue). is_same q t.0) group.touches (touches_in rest)))

pub or-false : (b : Bool) → (b || false) ≡ b
or-false true = refl
or-false false = refl

-- ---- touched keys

-- a touch has the key exactly where there is a last one
pub touched-last : (touches : List TouchValue) (key : KeyValue) → (is_touched touches key ≡ true → last_at key_cmp touches key ≢ None) × (is_touched touches key ≡ false → last_at key_cmp touches key ≡ None)
touched-last [] key = (λ e. absurd (true≢false (sym e)), λ e. refl)
touched-last (touch ∷ later) key =
    let rest = touched-last later key in
    (one (is_same key touch.0) (last_at key_cmp later key) (is_touched later key) rest.0, none (is_same key touch.0) (last_at key_cmp later key) (is_touched later key) rest.1)
  where
    one : (t : Bool) (later : Option (Option PutValue)) (b : Bool) → (b ≡ true → later ≢ None) → (t || b) ≡ true → option_or later (cond t (Some touch.1) None) ≢ None
    one t (Some put) b h e = λ is. let clash : Some put ≡ None = is in cc
    one true None b h e = λ is. let clash : Some touch.1 ≡ None = is in cc
    one false None b h e = absurd (h e refl)

    none : (t : Bool) (later : Option (Option PutValue)) (b : Bool) → (b ≡ false → later ≡ None) → (t || b) ≡ false → option_or later (cond t (Some touch.1) None) ≡ None
    none true later b h e = absurd (true≢false e)
    none false later b h e = ap (λ (v : Option (Option PutValue)). option_or v None) (h e)

pub touched-is : (groups : List PreparedValue) (key : KeyValue) → (is_touched (touches_in groups) key ≡ true) ↔ IsTouchedIn groups key
touched-is groups key = (
  (touched-last (touches_in groups) key).0,
  λ there. by (is_touched (touches_in groups) key) refl there,
)
  where
    by : (b : Bool) → is_touched (touches_in groups) key ≡ b → IsTouchedIn groups key → is_touched (touches_in groups) key ≡ true
    by true e there = e
    by false e there = absurd (there ((touched-last (touches_in groups) key).1 e))
