-- The changes of a history without a fault are of tables whose columns it says.
use Rattle.std.proofs.Common.{◌≡◌, ℕ, ◌+◌, Bool, true, false, cond, List, [], ◌∷◌, length, Option, None, Some, option_map, IfSome, refl, sym, ap, ◌∙◌, inl, inr}
use Rattle.std.proofs.lemmas.Bool.{cases_Bool, cond-true, cond-false}
use Rattle.std.proofs.lemmas.Option.{none-some}
use Rattle.std.specs.List.{AllByRecursion}
use Rattle.std.specs.Str.{bytes_eq}
use Rattle.list_laws.proofs.Fronts.{each, All-append}
use Rattle.gtid_set.specs.Position.{within_of}
use Rattle.row_view.specs.FieldValue.{FieldValue}
use Rattle.vevent.specs.EventValue.{ChangeValue, EventValue, Begin, Commit, Row, Field}
use Rattle.source_feed.specs.declared.fault.FeedFault.{FeedFault}
use Rattle.source_feed.specs.declared.fault.FeedFault.TheVariants.{Misplaced, NoFields}
use Rattle.source_feed.specs.GroupValue.{Position, TableChangeValue, GroupValue}
use Rattle.source_feed.specs.SourceValue.{SourceValue, table_in_source}
use Rattle.source_feed.specs.PastEvents.{PastEvents, is_open, last_field, width_of, position_of, body_position, body_changes, change_in, changes_in}
use Rattle.source_feed.specs.Groups.{Block, block_at, block_at_position, seen, group_of_block, groups_of, row_fault, fault_at, first_fault}
use Rattle.source_feed.proofs.Options.{option_or-nothing}
use Rattle.event_laws.specs.Laws.{HasColumns, HaveColumns}

module _ (source : SourceValue) where
  abbrev Known : PastEvents → TableChangeValue → Type 0
  Known past change = HasColumns source past change.table

  -- ---- one event more

  still_known : (past : PastEvents) (event : EventValue) (table : List ℕ) → HasColumns source past table → HasColumns source (event ∷ past) table
  still_known past (Field name columns) table k = elim (cases_Bool (bytes_eq (table_in_source source name) table)) [
    | inl same ↦ (columns, cond-true (bytes_eq (table_in_source source name) table) (Some columns) (last_field source past table) same)
    | inr apart ↦ (k.0, cond-false (bytes_eq (table_in_source source name) table) (Some columns) (last_field source past table) apart ∙ k.1)
  ]
  still_known past event table k = k

  changes_still : (past : PastEvents) (event : EventValue) (changes : List TableChangeValue) → AllByRecursion (Known past) changes → AllByRecursion (Known (event ∷ past)) changes
  changes_still past event changes h = each (Known past) (Known (event ∷ past)) (λ change. still_known past event change.table) changes h

  groups_still : (past : PastEvents) (event : EventValue) (groups : List GroupValue) → AllByRecursion (λ (group : GroupValue). AllByRecursion (Known past) group.changes) groups
      → AllByRecursion (λ (group : GroupValue). AllByRecursion (Known (event ∷ past)) group.changes) groups
  groups_still past event groups h =
      each (λ (group : GroupValue). AllByRecursion (Known past) group.changes) (λ (group : GroupValue). AllByRecursion (Known (event ∷ past)) group.changes) (λ group. changes_still past event group.changes) groups h

  -- ---- a ROW

  one_change : (past : PastEvents) (table : List ℕ) (change : ChangeValue) → HasColumns source past table → AllByRecursion (Known past) (change_in table change)
  one_change past table change k = by change.before change.after
    where
      by : (before after : Option (List (Option (List ℕ)))) → AllByRecursion (Known past) (change_in table (record { before = before; after = after }))
      by None None = tt
      by None (Some row) = (k, tt)
      by (Some row) None = (k, tt)
      by (Some row) (Some other) = (k, tt)

  all_changes : (past : PastEvents) (table : List ℕ) (changes : List ChangeValue) → HasColumns source past table → AllByRecursion (Known past) (changes_in table changes)
  all_changes past table [] k = tt
  all_changes past table (change ∷ changes) k = All-append (Known past) (change_in table change) (changes_in table changes) (one_change past table change k) (all_changes past table changes k)

  some_fault : {P : Type 0} (fault : FeedFault) → Some fault ≡ None → P
  some_fault fault e = absurd (none-some fault (sym e))

  abbrev under : PastEvents → List ℕ → List ChangeValue → Option FeedFault
  under past table changes = row_fault (width_of source past table) changes

  said : (past : PastEvents) (table : List ℕ) (changes : List ChangeValue) (o : Option (List FieldValue)) → last_field source past table ≡ o → under past table changes ≡ None → HasColumns source past table
  said past table changes (Some columns) is e = (columns, is)
  said past table changes None is e = some_fault NoFields (sym (ap (λ (o : Option (List FieldValue)). row_fault (option_map length o) changes) is) ∙ e)

  row_known : (past : PastEvents) (name : List ℕ) (changes : List ChangeValue) → fault_at source past (Row name changes) ≡ None → HasColumns source past (table_in_source source name)
  row_known past name changes e =
      let table : List ℕ = table_in_source source name in
      elim (cases_Bool (is_open past)) [
        | inl opened ↦ said past table changes (last_field source past table) refl (sym (cond-true (is_open past) (under past table changes) (Some Misplaced) opened) ∙ e)
        | inr shut ↦ some_fault Misplaced (sym (cond-false (is_open past) (under past table changes) (Some Misplaced) shut) ∙ e)
      ]

  -- ---- a block

  abbrev InBlock : PastEvents → Option Block → Type 0
  InBlock past block = IfSome block (λ b. AllByRecursion (Known past) b.changes)

  at_position : (past : PastEvents) (position : Option Position) (changes : List TableChangeValue) → AllByRecursion (Known past) changes → InBlock past (block_at_position position changes)
  at_position past None changes h = tt
  at_position past (Some position) changes h = h

  either_block : (past : PastEvents) (b : Bool) (x y : Option Block) → InBlock past x → InBlock past y → InBlock past (cond b x y)
  either_block past true x y h k = h
  either_block past false x y h k = k

  in_block : (past earlier : PastEvents) (event : EventValue) → AllByRecursion (Known past) (body_changes source earlier) → InBlock past (block_at source earlier event)
  in_block past earlier Commit h =
      either_block past (is_open earlier) (block_at_position (body_position source earlier) (body_changes source earlier)) None (at_position past (body_position source earlier) (body_changes source earlier) h) tt
  in_block past earlier event h = either_block past (is_open earlier) None (block_at_position (position_of source event) []) tt (at_position past (position_of source event) [] tt)

  in_group : (past : PastEvents) (before : Position) (number : ℕ) (block : Option Block) → InBlock past block
      → AllByRecursion (λ (group : GroupValue). AllByRecursion (Known past) group.changes) (group_of_block before number block)
  in_group past before number None h = tt
  in_group past before number (Some block) h = by (within_of block.position before)
    where
      by : (b : Bool) → AllByRecursion (λ (group : GroupValue). AllByRecursion (Known past) group.changes) (cond b [] (record { number = number; position = block.position; changes = block.changes } ∷ []))
      by true = tt
      by false = (h, tt)

  -- ---- all events

  record AreKnown (past : PastEvents) : Type 0 where
    body : AllByRecursion (Known past) (body_changes source past)
    groups : AllByRecursion (λ (group : GroupValue). AllByRecursion (Known past) group.changes) (groups_of source past)

  body_known : (past : PastEvents) (event : EventValue) → fault_at source past event ≡ None → AllByRecursion (Known past) (body_changes source past) → AllByRecursion (Known (event ∷ past)) (body_changes source (event ∷ past))
  body_known past Begin f h = tt
  body_known past (Row name changes) f h =
      let table : List ℕ = table_in_source source name in
      All-append (Known (Row name changes ∷ past)) (body_changes source past) (changes_in table changes) (changes_still past (Row name changes) (body_changes source past) h)
      (all_changes (Row name changes ∷ past) table changes (still_known past (Row name changes) table (row_known past name changes f)))
  body_known past event f h = changes_still past event (body_changes source past) h

  are_known : (past : PastEvents) → first_fault source past ≡ None → AreKnown past
  are_known [] e = record { body = tt; groups = tt }
  are_known (event ∷ earlier) e =
      let none = option_or-nothing (first_fault source earlier) (fault_at source earlier event) e in
      let before : AreKnown earlier = are_known earlier none.0 in
      let past : PastEvents = event ∷ earlier in
      record {
        body = body_known earlier event none.1 before.body;
        groups = All-append (λ (group : GroupValue). AllByRecursion (Known past) group.changes) (groups_of source earlier)
            (group_of_block (seen source earlier) (length (groups_of source earlier) + 1) (block_at source earlier event))
            (groups_still earlier event (groups_of source earlier) before.groups)
            (in_group past (seen source earlier) (length (groups_of source earlier) + 1) (block_at source earlier event)
            (in_block past earlier event (changes_still earlier event (body_changes source earlier) before.body)));
      }

  pub have_columns : (past : PastEvents) → first_fault source past ≡ None → HaveColumns source past
  have_columns past e = (are_known past e).groups
