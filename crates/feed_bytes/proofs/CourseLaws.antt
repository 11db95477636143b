-- One event more: what a course says behind it.
use Rattle.std.proofs.Common.{◌≡◌, ◌⊎◌, ℕ, ◌+◌, ◌-◌, ◌<◌, List, [], ◌∷◌, ◌++◌, length, Bool, true, false, cond, Option, None, Some, Ok, refl, sym, ap, subst, ◌∙◌, inl, inr, arith, length-append}
use Rattle.std.specs.Prelude.{IfSome}
use Rattle.std.proofs.lemmas.Bool.{cases_Bool, cond-true, cond-false, false≢true}
use Rattle.std.proofs.lemmas.List.{append-nil}
use Rattle.std.specs.Option.{option_map, option_or}
use Rattle.gtid_set.specs.Position.{within_of}
use Rattle.vevent.specs.Event.{event_at}
use Rattle.vevent.specs.EventValue.{EventValue, Gtid, Begin, Commit, Rollback, Row, Field, Vgtid, Ignored}
use Rattle.source_feed.specs.GroupValue.{Position, GroupValue}
use Rattle.source_feed.specs.SourceValue.{SourceValue}
use Rattle.source_feed.specs.PastEvents.{PastEvents, is_open, position_of, body_position, body_changes}
use Rattle.source_feed.specs.Groups.{Block, block_at, block_at_position, with_block, seen, group_of_block, groups_of, fault_at, first_fault}
use Rattle.source_feed.specs.Private.SetLaws.{SetLaws}
use Rattle.source_feed.proofs.Options.{option_cases}
use Rattle.source_feed.proofs.OrderLaws.{Grown, grown, as_group, EndsWell, ends_well, around}
use Rattle.event_laws.specs.Cuts.{IsCut}
use Rattle.event_laws.proofs.CutLaws.{is_cut}
use Rattle.feed_bytes.specs.Cut.{CarriesPosition}
use Rattle.feed_bytes.specs.FieldBytes.{AreInForce}
use Rattle.feed_bytes.specs.Private.Course.{PlaceValue, CourseValue, place_of, shut, ended, ended_at, passed, stepped}
use Rattle.feed_bytes.specs.Private.FieldsBehind.{named_by, behind_named}
use Rattle.feed_bytes.specs.Private.Search.{IsBehind}
use Rattle.feed_bytes.proofs.FieldLaws.{behind_one}

abbrev position_in : PlaceValue → Position
position_in place = place.position

abbrev Carried : SourceValue → PlaceValue → Type 0
Carried source place = CarriesPosition source place.event place.position

same_twice : {A : Type 0} (b : Bool) (x : A) → cond b x x ≡ x
same_twice true x = refl
same_twice false x = refl

module _ (laws : SetLaws) (source : SourceValue) (number : ℕ) (earlier : PastEvents) (course : CourseValue) (b : IsBehind source number earlier course) where
  -- ---- no block ends

  same_groups : (event : EventValue) → block_at source earlier event ≡ None → groups_of source (event ∷ earlier) ≡ groups_of source earlier
  same_groups event none =
      ap (λ (o : Option Block). groups_of source earlier ++ group_of_block (seen source earlier) (length (groups_of source earlier) + 1) o) none ∙ append-nil (groups_of source earlier)

  -- nothing is said of the groups that wasn't said before
  record Stays (next : CourseValue) : Type 0 where
    reached : next.reached ≡ course.reached
    last : next.last ≡ course.last
    left : next.left ≡ course.left

  last_stays : (event : EventValue) (next : CourseValue) → groups_of source (event ∷ earlier) ≡ groups_of source earlier → Stays next
      → (groups_of source (event ∷ earlier) ≡ []) ⊎ CarriesPosition source next.last next.reached
  last_stays event next same s = by b.last
    where
      by : (groups_of source earlier ≡ []) ⊎ CarriesPosition source course.last course.reached → (groups_of source (event ∷ earlier) ≡ []) ⊎ CarriesPosition source next.last next.reached
      by (inl none) = inl (same ∙ none)
      by (inr carries) = inr (subst (λ (p : Position). CarriesPosition source next.last p) (sym s.reached) (subst (λ (e : List ℕ). CarriesPosition source e course.reached) (sym s.last) carries))

  quiet : (event : EventValue) (next : CourseValue) → block_at source earlier event ≡ None → Stays next → next.inside ≡ is_open (event ∷ earlier)
      → (is_open (event ∷ earlier) ≡ true → option_map position_in next.place ≡ body_position source (event ∷ earlier)) → IfSome next.place (Carried source)
      → AreInForce source (event ∷ earlier) next.fields → IsBehind source number (event ∷ earlier) next
  quiet event next none s inside body placed fields =
      let same : groups_of source (event ∷ earlier) ≡ groups_of source earlier = same_groups event none in
      record {
        inside = inside;
        body = body;
        placed = placed;
        reached = s.reached ∙ b.reached ∙ sym (ap (with_block (seen source earlier)) none);
        last = last_stays event next same s;
        left = omega (arith, s.left, b.left, ap length same);
        fields = fields;
      }

  -- ---- a block ends

  module _ (event : EventValue) (block : Block) (place : PlaceValue) (base : CourseValue) (here : block_at source earlier event ≡ Some block) (first : first_fault source earlier ≡ None)
      (well : EndsWell source earlier block) (at : place.position ≡ block.position) (carried : Carried source place) (outside : is_open (event ∷ earlier) ≡ false)
      (inside : base.inside ≡ false) (placed : IfSome base.place (Carried source)) (s : Stays base) (fields : AreInForce source (event ∷ earlier) base.fields) (more : 0 < course.left) where
    abbrev now : List GroupValue
    now = groups_of source earlier

    abbrev is_within : Bool
    is_within = within_of place.position base.reached

    tests : is_within ≡ within_of block.position (seen source earlier)
    tests = ap (λ (p : Position). within_of p base.reached) at ∙ ap (within_of block.position) (s.reached ∙ b.reached)

    abbrev further : CourseValue
    further = record base { last = place.event; reached = place.position; left = base.left - 1 }

    groups_then : groups_of source (event ∷ earlier) ≡ now ++ group_of_block (seen source earlier) (length now + 1) (Some block)
    groups_then = ap (λ (o : Option Block). now ++ group_of_block (seen source earlier) (length now + 1) o) here

    before : Grown now (seen source earlier)
    before = grown laws source earlier first

    repeats : within_of block.position (seen source earlier) ≡ true → IsBehind source number (event ∷ earlier) base
    repeats within =
        let same : groups_of source (event ∷ earlier) ≡ now =
        groups_then ∙ ap (λ (gs : List GroupValue). now ++ gs) (cond-true (within_of block.position (seen source earlier)) [] (as_group now block ∷ []) within) ∙ append-nil now in
        record {
          inside = inside ∙ sym outside;
          body = λ opened. absurd (false≢true (sym outside ∙ opened));
          placed = placed;
          reached = s.reached ∙ b.reached ∙ sym (ap (with_block (seen source earlier)) here ∙ laws.union_within block.position (seen source earlier) well.canonical before.canonical within);
          last = last_stays event base same s;
          left = omega (arith, s.left, b.left, ap length same);
          fields = fields;
        }

    goes_further : within_of block.position (seen source earlier) ≡ false → IsBehind source number (event ∷ earlier) further
    goes_further beyond =
        let grew : groups_of source (event ∷ earlier) ≡ now ++ as_group now block ∷ [] =
        groups_then ∙ ap (λ (gs : List GroupValue). now ++ gs) (cond-false (within_of block.position (seen source earlier)) [] (as_group now block ∷ []) beyond) in
        let longer : length (groups_of source (event ∷ earlier)) ≡ length now + 1 = ap length grew ∙ length-append now (as_group now block ∷ []) in
        record {
          inside = inside ∙ sym outside;
          body = λ opened. absurd (false≢true (sym outside ∙ opened));
          placed = placed;
          reached = at ∙ sym (ap (with_block (seen source earlier)) here ∙ laws.union_around (seen source earlier) block.position before.canonical well.canonical (around source earlier block.position well.faultless beyond));
          last = inr carried;
          left = omega (arith, s.left, b.left, longer, more);
          fields = fields;
        }

    ends_block : IsBehind source number (event ∷ earlier) (ended base place)
    ends_block = elim (cases_Bool (within_of block.position (seen source earlier))) [
      | inl within ↦ subst (IsBehind source number (event ∷ earlier)) (sym (cond-true is_within base further (tests ∙ within))) (repeats within)
      | inr beyond ↦ subst (IsBehind source number (event ∷ earlier)) (sym (cond-false is_within base further (tests ∙ beyond))) (goes_further beyond)
    ]

  -- ---- one event

  abbrev itself : Stays course
  itself = record { reached = refl; last = refl; left = refl }

  module _ (bytes : List ℕ) (first : first_fault source earlier ≡ None) (more : 0 < course.left) where
    abbrev Next : EventValue → Type 0
    Next event = IsBehind source number (event ∷ earlier) (stepped source course bytes event)

    -- an event that carries a position, or none
    module _ (event : EventValue) (read : event_at bytes ≡ Ok event) (no_fault : fault_at source earlier event ≡ None) (same_open : is_open (event ∷ earlier) ≡ is_open earlier)
        (body : body_position source (event ∷ earlier) ≡ option_or (position_of source event) (body_position source earlier))
        (block : block_at source earlier event ≡ cond (is_open earlier) None (block_at_position (position_of source event) [])) (fields : AreInForce source (event ∷ earlier) course.fields) where
      abbrev carries : (position : Position) → position_of source event ≡ Some position → Carried source (record { event = bytes; position = position })
      carries position e = record { event = event; read = read; carries = e }

      no_position : position_of source event ≡ None → IsBehind source number (event ∷ earlier) course
      no_position none =
          quiet event course (block ∙ ap (λ (o : Option Position). cond (is_open earlier) None (block_at_position o [])) none ∙ same_twice (is_open earlier) None) itself (b.inside ∙ sym same_open)
          (λ opened. b.body (sym same_open ∙ opened) ∙ sym (body ∙ ap (λ (o : Option Position). option_or o (body_position source earlier)) none)) b.placed fields

      counts : (position : Position) → position_of source event ≡ Some position → is_open earlier ≡ true → IsBehind source number (event ∷ earlier) (record course { place = Some (record { event = bytes; position = position }) })
      counts position some opened =
          quiet event (record course { place = Some (record { event = bytes; position = position }) }) (block ∙ cond-true (is_open earlier) None (block_at_position (position_of source event) []) opened)
          (record { reached = refl; last = refl; left = refl }) (b.inside ∙ sym same_open) (λ opened. sym (body ∙ ap (λ (o : Option Position). option_or o (body_position source earlier)) some)) (carries position some) fields

      ends : (position : Position) → position_of source event ≡ Some position → is_open earlier ≡ false → IsBehind source number (event ∷ earlier) (ended course (record { event = bytes; position = position }))
      ends position some closed =
          let block_of : Block = record { position = position; changes = [] } in
          let here : block_at source earlier event ≡ Some block_of =
          block ∙ cond-false (is_open earlier) None (block_at_position (position_of source event) []) closed ∙ ap (λ (o : Option Position). block_at_position o []) some in
          ends_block event block_of (record { event = bytes; position = position }) course here first (ends_well laws source earlier event block_of here no_fault) refl (carries position some) (same_open ∙ closed)
          (b.inside ∙ closed) b.placed itself fields more

      passes : (position : Option Position) → position_of source event ≡ position → IsBehind source number (event ∷ earlier) (passed course (place_of bytes position))
      passes None none = no_position none
      passes (Some position) some =
          let place : PlaceValue = record { event = bytes; position = position } in
          elim (cases_Bool (is_open earlier)) [
            | inl opened ↦ subst (IsBehind source number (event ∷ earlier)) (sym (cond-true course.inside (record course { place = Some place }) (ended course place) (b.inside ∙ opened))) (counts position some opened)
            | inr closed ↦ subst (IsBehind source number (event ∷ earlier)) (sym (cond-false course.inside (record course { place = Some place }) (ended course place) (b.inside ∙ closed))) (ends position some closed)
          ]

    -- COMMIT
    module _ (no_fault : fault_at source earlier Commit ≡ None) (fields : AreInForce source (Commit ∷ earlier) course.fields) where
      abbrev shut_now : Stays (shut course)
      shut_now = record { reached = refl; last = refl; left = refl }

      abbrev ends_with : Option Position → Option Block
      ends_with position = block_at_position position (body_changes source earlier)

      closes : is_open earlier ≡ true → (place : Option PlaceValue) → course.place ≡ place → IfSome place (Carried source) → IsBehind source number (Commit ∷ earlier) (ended_at (shut course) place)
      closes opened None is carried =
          let none : body_position source earlier ≡ None = sym (b.body opened) ∙ ap (option_map position_in) is in
          quiet Commit (shut course) (cond-true (is_open earlier) (ends_with (body_position source earlier)) None opened ∙ ap ends_with none) shut_now refl (λ o. absurd (false≢true o)) tt fields
      closes opened (Some place) is carried =
          let some : body_position source earlier ≡ Some place.position = sym (b.body opened) ∙ ap (option_map position_in) is in
          let block : Block = record { position = place.position; changes = body_changes source earlier } in
          let here : block_at source earlier Commit ≡ Some block = cond-true (is_open earlier) (ends_with (body_position source earlier)) None opened ∙ ap ends_with some in
          ends_block Commit block place (shut course) here first (ends_well laws source earlier Commit block here no_fault) refl carried refl refl tt shut_now fields more

      commits : Next Commit
      commits = elim (cases_Bool (is_open earlier)) [
        | inl opened ↦ subst (IsBehind source number (Commit ∷ earlier)) (sym (cond-true course.inside (ended_at (shut course) course.place) course (b.inside ∙ opened))) (closes opened course.place refl b.placed)
        | inr closed ↦ subst (IsBehind source number (Commit ∷ earlier)) (sym (cond-false course.inside (ended_at (shut course) course.place) course (b.inside ∙ closed)))
            (quiet Commit course (cond-false (is_open earlier) (ends_with (body_position source earlier)) None closed) itself (b.inside ∙ closed) (λ o. absurd (false≢true o)) b.placed fields)
      ]

    pub one_event : (event : EventValue) → event_at bytes ≡ Ok event → fault_at source earlier event ≡ None → Next event
    one_event event read no_fault = by event no_fault read (behind_one source earlier course.fields bytes event read b.fields)
      where
        by : (event : EventValue) → fault_at source earlier event ≡ None → event_at bytes ≡ Ok event → AreInForce source (event ∷ earlier) (behind_named source course.fields bytes (named_by event)) → Next event
        by Commit no_fault read fields = commits no_fault fields
        by Begin no_fault read fields =
            quiet Begin (record course { inside = true; place = None }) (same_twice (is_open earlier) None) (record { reached = refl; last = refl; left = refl }) refl (λ o. refl) tt fields
        by Rollback no_fault read fields = quiet Rollback (shut course) (same_twice (is_open earlier) None) (record { reached = refl; last = refl; left = refl }) refl (λ o. absurd (false≢true o)) tt fields
        by (Gtid text) no_fault read fields = passes (Gtid text) read no_fault refl refl refl fields (position_of source (Gtid text)) refl
        by (Vgtid entries) no_fault read fields = passes (Vgtid entries) read no_fault refl refl refl fields (position_of source (Vgtid entries)) refl
        by (Row name changes) no_fault read fields = quiet (Row name changes) course (same_twice (is_open earlier) None) itself b.inside b.body b.placed fields
        by (Field name columns) no_fault read fields =
            quiet (Field name columns) (record course { fields = behind_named source course.fields bytes (Some name) }) (same_twice (is_open earlier) None) (record { reached = refl; last = refl; left = refl }) b.inside
            b.body b.placed fields
        by (Ignored kind) no_fault read fields = quiet (Ignored kind) course (same_twice (is_open earlier) None) itself b.inside b.body b.placed fields

-- ---- the cut

-- with the event behind which no group is left the last one ends
module _ (laws : SetLaws) (source : SourceValue) (number : ℕ) (earlier : PastEvents) (event : EventValue) (before after : CourseValue) (faultless : first_fault source (event ∷ earlier) ≡ None)
    (b : IsBehind source number earlier before) (more : 0 < before.left) (a : IsBehind source number (event ∷ earlier) after) (none : after.left ≡ 0) where
  abbrev all_before : List GroupValue
  all_before = groups_of source earlier

  longer : length (groups_of source (event ∷ earlier)) ≡ length all_before → ⊥
  longer same = omega (arith, same, b.left, a.left, more, none)

  pub cut_here : (block : Block) × IsCut source (event ∷ earlier) block
  cut_here = elim (option_cases (block_at source earlier event)) [
    | inl nothing ↦ absurd (longer (ap length (ap (λ (o : Option Block). all_before ++ group_of_block (seen source earlier) (length all_before + 1) o) nothing ∙ append-nil all_before)))
    | inr some ↦ elim (cases_Bool (within_of some.0.position (seen source earlier))) [
      | inl within ↦ absurd (
          longer (
          ap length (ap (λ (o : Option Block). all_before ++ group_of_block (seen source earlier) (length all_before + 1) o) some.1
          ∙ ap (λ (gs : List GroupValue). all_before ++ gs) (cond-true (within_of some.0.position (seen source earlier)) [] (as_group all_before some.0 ∷ []) within) ∙ append-nil all_before)
          )
          )
      | inr beyond ↦ (some.0, is_cut laws source earlier event some.0 (record { faultless = faultless; here = some.1; more = beyond }))
    ]
  ]
