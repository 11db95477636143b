-- The groups of a feed without a fault are numbered 1, 2, .., and their positions grow.
use Rattle.std.proofs.Common.{◌≡◌, ℕ, ◌+◌, List, [], ◌∷◌, ◌++◌, length, Option, None, Some, Result, Ok, Err, true, false, cond, slice_get, refl, sym, ◌∙◌, ap, subst, arith, inl, inr}
use Rattle.std.proofs.lemmas.Bool.{cases_Bool, cond-true, cond-false, false≢true}
use Rattle.std.proofs.lemmas.Option.{same_Some}
use Rattle.std.proofs.lemmas.List.{append-nil}
use Rattle.list_laws.proofs.Places.{slice_get-push}
use Rattle.gtid_set.specs.Position.{IsCanonical, IsWithin, union_of, within_of}
use Rattle.gtid_set.specs.Text.{position_of_text}
use Rattle.gtid_set.specs.declared.fault.GtidFault.{GtidFault}
use Rattle.vevent.specs.EventValue.{EventValue, Gtid, Begin, Commit, Rollback, Row, Field, Vgtid, Ignored}
use Rattle.source_feed.specs.declared.fault.FeedFault.TheVariants.{Diverged}
use Rattle.source_feed.specs.GroupValue.{Position, TableChangeValue, GroupValue}
use Rattle.source_feed.specs.SourceValue.{SourceValue, own_gtid}
use Rattle.source_feed.specs.PastEvents.{PastEvents, is_open, past_set, past_set_of_text, position_of, body_position, body_changes}
use Rattle.source_feed.specs.Groups.{Block, block_at, block_at_position, with_block, seen, group_of_block, groups_of, block_fault, position_fault, entry_fault, commit_fault, fault_at, first_fault}
use Rattle.source_feed.specs.GroupOrder.{AreInOrder}
use Rattle.source_feed.specs.Private.SetLaws.{SetLaws}
use Rattle.source_feed.proofs.Options.{option_cases, option_or-some, option_or-nothing}

-- ---- a list with one element more

-- ---- one block more

abbrev pub InOrder : List GroupValue → Type 0
InOrder groups = AreInOrder (λ (g : GroupValue). g.number) (λ (g : GroupValue). g.position) groups

-- the groups so far, where their positions lie within `seen`
pub record Grown (groups : List GroupValue) (seen : Position) : Type 0 where
  pub canonical : IsCanonical seen
  pub within : (i : ℕ) (group : GroupValue) → slice_get groups i ≡ Some group → IsWithin group.position seen
  pub order : InOrder groups

none_yet : Grown [] []
none_yet = record {
  canonical = tt;
  within = λ i group e. absurd (nothing i group e);
  order = record {
    numbered = λ i group e. absurd (nothing i group e);
    canonical = λ i group e. absurd (nothing i group e);
    from_empty = λ i group e. absurd (nothing i group e);
    growing = λ i j earlier later less e f. absurd (nothing i earlier e);
  };
}
  where
    nothing : (i : ℕ) (group : GroupValue) → slice_get [] i ≡ Some group → ⊥
    nothing i group e = cc

abbrev pub as_group : List GroupValue → Block → GroupValue
as_group groups block = record { number = length groups + 1; position = block.position; changes = block.changes }

-- what isn't within all earlier positions isn't within a part of them
not_within : SetLaws → (seen part position : Position) → IsCanonical seen → IsCanonical position → IsWithin part seen
    → within_of position seen ≡ false → IsWithin position part → ⊥
not_within laws seen part position s p w beyond inside =
    false≢true (sym beyond ∙ laws.computed position seen p s (λ uuid number held. w uuid number (inside uuid number held)))

pushed : SetLaws → (groups : List GroupValue) (seen : Position) (block : Block) → Grown groups seen → IsCanonical block.position
    → within_of block.position seen ≡ false → within_of seen block.position ≡ true → Grown (groups ++ as_group groups block ∷ []) block.position
pushed laws groups seen block g p beyond around =
    let wider : IsWithin seen block.position = laws.subset seen block.position g.canonical p around in
    let new : GroupValue = as_group groups block in
    record {
      canonical = p;
      within = λ i group e. elim (slice_get-push groups new group i e) [
        | inl old ↦ λ uuid number held. wider uuid number (g.within i group old.1 uuid number held)
        | inr last ↦ rw (← last.1) (λ uuid number held. held)
      ];
      order = record {
        numbered = λ i group e. elim (slice_get-push groups new group i e) [
          | inl old ↦ g.order.numbered i group old.1
          | inr last ↦ rw (← last.1) (ap (λ n. n + 1) (sym last.0))
        ];
        canonical = λ i group e. elim (slice_get-push groups new group i e) [
          | inl old ↦ g.order.canonical i group old.1
          | inr last ↦ rw (← last.1) p
        ];
        from_empty = λ i group e. elim (slice_get-push groups new group i e) [
          | inl old ↦ g.order.from_empty i group old.1
          | inr last ↦ rw (← last.1) (
            λ uuid number held. absurd (false≢true held),
            not_within laws seen [] block.position g.canonical p (λ uuid number held. absurd (false≢true held)) beyond,
          )
        ];
        growing = λ i j earlier later less e f. elim (slice_get-push groups new later j f) [
          | inl old ↦ elim (slice_get-push groups new earlier i e) [
            | inl before ↦ g.order.growing i j earlier later less before.1 old.1
            | inr last ↦ absurd (omega (arith, last.0, old.0, less))
          ]
          | inr end ↦ elim (slice_get-push groups new earlier i e) [
            | inl before ↦ rw (← end.1) (
              λ uuid number held. wider uuid number (g.within i earlier before.1 uuid number held),
              not_within laws seen earlier.position block.position g.canonical p (g.within i earlier before.1) beyond,
            )
            | inr last ↦ absurd (omega (arith, last.0, end.0, less))
          ]
        ];
      };
    }

-- ---- the position of a block

position_canonical-of : SetLaws → (text : List ℕ) (read : Result Position GtidFault) (position : Position) → position_of_text text ≡ read → past_set read ≡ Some position → IsCanonical position
position_canonical-of laws text (Ok set) position r e = rw (← same_Some set position e) (laws.canonical text set r)
position_canonical-of laws text (Err fault) position r e = cc

text_canonical : SetLaws → (text : Option (List ℕ)) (position : Position) → past_set_of_text text ≡ Some position → IsCanonical position
text_canonical laws None position e = cc
text_canonical laws (Some text) position e = position_canonical-of laws text (position_of_text text) position refl e

position_canonical : SetLaws → (source : SourceValue) (event : EventValue) (position : Position) → position_of source event ≡ Some position → IsCanonical position
position_canonical laws source (Gtid text) position e = text_canonical laws (Some text) position e
position_canonical laws source (Vgtid entries) position e = text_canonical laws (own_gtid source entries) position e
position_canonical laws source Begin position e = cc
position_canonical laws source Commit position e = cc
position_canonical laws source Rollback position e = cc
position_canonical laws source (Row name rows) position e = cc
position_canonical laws source (Field name columns) position e = cc
position_canonical laws source (Ignored kind) position e = cc

body_canonical : SetLaws → (source : SourceValue) (past : PastEvents) (position : Position) → body_position source past ≡ Some position → IsCanonical position
body_canonical laws source [] position e = cc
body_canonical laws source (Begin ∷ earlier) position e = cc
body_canonical laws source (event ∷ earlier) position e =
    elim (option_or-some (position_of source event) (body_position source earlier) position e) [
      | inl here ↦ position_canonical laws source event position here
      | inr before ↦ body_canonical laws source earlier position before
    ]

-- the position of a block that ends without a fault
pub record EndsWell (source : SourceValue) (earlier : PastEvents) (block : Block) : Type 0 where
  pub canonical : IsCanonical block.position
  pub faultless : block_fault source earlier block.position ≡ None

ends_with : (source : SourceValue) (earlier : PastEvents) (position : Position) (changes : List TableChangeValue) (block : Block) → block_at_position (Some position) changes ≡ Some block
    → IsCanonical position → block_fault source earlier position ≡ None → EndsWell source earlier block
ends_with source earlier position changes block e p f =
    let same : position ≡ block.position = ap (λ (b : Block). b.position) (same_Some (record { position = position; changes = changes }) block e) in
    record { canonical = rw (← same) p; faultless = rw (← same) f }

ends_by_text : SetLaws → (source : SourceValue) (earlier : PastEvents) (text : List ℕ) (read : Result Position GtidFault) (block : Block) → position_of_text text ≡ read → is_open earlier ≡ false
    → block_at_position (past_set read) [] ≡ Some block → position_fault source earlier read ≡ None → EndsWell source earlier block
ends_by_text laws source earlier text (Ok set) block r shut e f = ends_with source earlier set [] block e (laws.canonical text set r) (sym (cond-false (is_open earlier) _ _ shut) ∙ f)
ends_by_text laws source earlier text (Err fault) block r shut e f = cc

ends_by_entry : SetLaws → (source : SourceValue) (earlier : PastEvents) (text : Option (List ℕ)) (block : Block) → is_open earlier ≡ false
    → block_at_position (past_set_of_text text) [] ≡ Some block → entry_fault source earlier text ≡ None → EndsWell source earlier block
ends_by_entry laws source earlier None block shut e f = cc
ends_by_entry laws source earlier (Some text) block shut e f = ends_by_text laws source earlier text (position_of_text text) block refl shut e f

ends_by_commit : SetLaws → (source : SourceValue) (earlier : PastEvents) (position : Option Position) (block : Block) → body_position source earlier ≡ position
    → block_at_position position (body_changes source earlier) ≡ Some block → commit_fault source earlier position ≡ None → EndsWell source earlier block
ends_by_commit laws source earlier None block b e f = cc
ends_by_commit laws source earlier (Some position) block b e f = ends_with source earlier position (body_changes source earlier) block e (body_canonical laws source earlier position b) f

-- outside of a transaction an event's block is its position's
outside : (source : SourceValue) (earlier : PastEvents) (block : Block) (here : Option Block) → cond (is_open earlier) None here ≡ Some block → (is_open earlier ≡ false) × (here ≡ Some block)
outside source earlier block here e =
    elim (cases_Bool (is_open earlier)) [
      | inl opened ↦ let none : None ≡ Some block = sym (cond-true (is_open earlier) None here opened) ∙ e in cc
      | inr shut ↦ (shut, sym (cond-false (is_open earlier) None here shut) ∙ e)
    ]

pub ends_well : SetLaws → (source : SourceValue) (earlier : PastEvents) (event : EventValue) (block : Block) → block_at source earlier event ≡ Some block → fault_at source earlier event ≡ None → EndsWell source earlier block
ends_well laws source earlier Commit block e f =
    elim (cases_Bool (is_open earlier)) [
      | inl opened ↦
          ends_by_commit laws source earlier (body_position source earlier) block refl (sym (cond-true (is_open earlier) _ _ opened) ∙ e) (sym (cond-true (is_open earlier) _ _ opened) ∙ f)
      | inr shut ↦ let none : None ≡ Some block = sym (cond-false (is_open earlier) (block_at_position (body_position source earlier) (body_changes source earlier)) None shut) ∙ e in cc
    ]
ends_well laws source earlier (Gtid text) block e f =
    let o = outside source earlier block (block_at_position (position_of source (Gtid text)) []) e in
    ends_by_text laws source earlier text (position_of_text text) block refl o.0 o.1 f
ends_well laws source earlier (Vgtid entries) block e f =
    let o = outside source earlier block (block_at_position (position_of source (Vgtid entries)) []) e in
    ends_by_entry laws source earlier (own_gtid source entries) block o.0 o.1 f
ends_well laws source earlier Begin block e f = absurd (no_block block (outside source earlier block None e).1)
  where
    no_block : (block : Block) → None ≡ Some block → ⊥
    no_block block e = cc
ends_well laws source earlier Rollback block e f = absurd (no_block block (outside source earlier block None e).1)
  where
    no_block : (block : Block) → None ≡ Some block → ⊥
    no_block block e = cc
ends_well laws source earlier (Row name rows) block e f = absurd (no_block block (outside source earlier block None e).1)
  where
    no_block : (block : Block) → None ≡ Some block → ⊥
    no_block block e = cc
ends_well laws source earlier (Field name columns) block e f = absurd (no_block block (outside source earlier block None e).1)
  where
    no_block : (block : Block) → None ≡ Some block → ⊥
    no_block block e = cc
ends_well laws source earlier (Ignored kind) block e f = absurd (no_block block (outside source earlier block None e).1)
  where
    no_block : (block : Block) → None ≡ Some block → ⊥
    no_block block e = cc

-- ---- all blocks

-- without a fault a position lies within the earlier ones, or else contains them
pub around : (source : SourceValue) (earlier : PastEvents) (position : Position) → block_fault source earlier position ≡ None → within_of position (seen source earlier) ≡ false
    → within_of (seen source earlier) position ≡ true
around source earlier position f beyond =
    elim (cases_Bool (within_of (seen source earlier) position)) [
      | inl within ↦ within
      | inr apart ↦
          let fault : None ≡ Some (Diverged (length (groups_of source earlier) + 1)) = sym f ∙ cond-false (within_of position (seen source earlier)) _ _ beyond ∙ cond-false (within_of (seen source earlier) position) _ _ apart in cc
    ]

-- the groups behind an event whose block is this one
abbrev GrownBy : List GroupValue → Position → Option Block → Type 0
GrownBy groups seen block = Grown (groups ++ group_of_block seen (length groups + 1) block) (with_block seen block)

same_groups : (groups : List GroupValue) (seen now : Position) → seen ≡ now → Grown groups seen → Grown (groups ++ []) now
same_groups groups seen now e g = rw (append-nil groups, ← e) g

one_block : SetLaws → (source : SourceValue) (earlier : PastEvents) (block : Block) → EndsWell source earlier block → Grown (groups_of source earlier) (seen source earlier)
    → GrownBy (groups_of source earlier) (seen source earlier) (Some block)
one_block laws source earlier block w g =
    let new : List GroupValue = as_group (groups_of source earlier) block ∷ [] in
    elim (cases_Bool (within_of block.position (seen source earlier))) [
      | inl within ↦
          rw (cond-true (within_of block.position (seen source earlier)) [] new within)
          (same_groups (groups_of source earlier) (seen source earlier) (union_of (seen source earlier) block.position) (sym (laws.union_within block.position (seen source earlier) w.canonical g.canonical within)) g)
      | inr beyond ↦
          let wider : within_of (seen source earlier) block.position ≡ true = around source earlier block.position w.faultless beyond in
          rw (cond-false (within_of block.position (seen source earlier)) [] new beyond, laws.union_around (seen source earlier) block.position g.canonical w.canonical wider)
          (pushed laws (groups_of source earlier) (seen source earlier) block g w.canonical beyond wider)
    ]

pub grown : SetLaws → (source : SourceValue) (past : PastEvents) → first_fault source past ≡ None → Grown (groups_of source past) (seen source past)
grown laws source [] e = none_yet
grown laws source (event ∷ earlier) e =
    let none = option_or-nothing (first_fault source earlier) (fault_at source earlier event) e in
    let before : Grown (groups_of source earlier) (seen source earlier) = grown laws source earlier none.0 in
    let P : Option Block → Type 0 = λ block. GrownBy (groups_of source earlier) (seen source earlier) block in
    elim (option_cases (block_at source earlier event)) [
      | inl nothing ↦ subst P (sym nothing) (same_groups (groups_of source earlier) (seen source earlier) (seen source earlier) refl before)
      | inr some ↦ subst P (sym some.1) (one_block laws source earlier some.0 (ends_well laws source earlier event some.0 some.1 none.1) before)
    ]
