-- Behind histories that answer alike all later events go on alike.
use Rattle.std.proofs.Common.{◌≡◌, ℕ, ◌+◌, ◌-◌, List, [], ◌∷◌, ◌++◌, length, map, Bool, true, false, cond, Option, None, Some, Result, Ok, Err, option_map, refl, sym, ap, ◌∙◌, arith, inl, inr, append_assoc, length-append}
use Rattle.std.proofs.lemmas.Bool.{cases_Bool, cond-true, cond-false, false≢true}
use Rattle.std.proofs.lemmas.List.{append-nil}
use Rattle.std.specs.Option.{option_or}
use Rattle.std.specs.Str.{bytes_eq}
use Rattle.list_laws.proofs.Choices.{map-or}
use Rattle.gtid_set.specs.Position.{within_of}
use Rattle.gtid_set.specs.Text.{position_of_text}
use Rattle.gtid_set.specs.declared.fault.GtidFault.{GtidFault}
use Rattle.row_view.specs.FieldValue.{FieldValue}
use Rattle.vevent.specs.EventValue.{ChangeValue, EventValue, Gtid, Begin, Commit, Rollback, Row, Field, Vgtid, Ignored}
use Rattle.source_feed.specs.declared.fault.FeedFault.{FeedFault}
use Rattle.source_feed.specs.declared.fault.FeedFault.TheVariants.{Diverged, Misplaced, ColumnCount}
use Rattle.source_feed.specs.GroupValue.{Position, TableChangeValue, GroupValue}
use Rattle.source_feed.specs.SourceValue.{SourceValue, table_in_source, own_gtid}
use Rattle.source_feed.specs.PastEvents.{PastEvents, is_open, last_field, width_of, position_of, body_position, body_changes, changes_in}
use Rattle.source_feed.specs.Groups.{Block, block_at, block_at_position, with_block, seen, group_of_block, groups_of, row_fault, block_fault, position_fault, entry_fault, commit_fault, fault_at, first_fault}
use Rattle.event_laws.specs.Alike.{lowered_group, lowered_fault, AnswerAlike, GoOnAlike}

-- ---- a choice

map-choice : {A B : Type 0} (f : A → B) (b : Bool) (x y : Option A) → option_map f (cond b x y) ≡ cond b (option_map f x) (option_map f y)
map-choice f true x y = refl
map-choice f false x y = refl

-- a block as the group of a number
abbrev numbered : Block → ℕ → GroupValue
numbered block k = record { number = k; position = block.position; changes = block.changes }

-- ---- one event more

module _ (source : SourceValue) (fewer : ℕ) (old new : PastEvents) (a : AnswerAlike source fewer old new) where
  -- outside of a transaction an event's block is by itself
  outside : (here : Option Block) → cond (is_open new) None here ≡ cond (is_open old) None here
  outside here = ap (λ (o : Bool). cond o None here) a.inside

  pub same_block : (event : EventValue) → block_at source new event ≡ block_at source old event
  same_block Commit =
      let ended : PastEvents → Option Block = λ past. block_at_position (body_position source past) (body_changes source past) in
      elim (cases_Bool (is_open old)) [
        | inl opened ↦
            cond-true (is_open new) (ended new) None (a.inside ∙ opened)
            ∙ ap (λ (p : Option Position). block_at_position p (body_changes source new)) (a.body_at opened)
            ∙ ap (block_at_position (body_position source old)) (a.body opened)
            ∙ sym (cond-true (is_open old) (ended old) None opened)
        | inr shut ↦ cond-false (is_open new) (ended new) None (a.inside ∙ shut) ∙ sym (cond-false (is_open old) (ended old) None shut)
      ]
  same_block (Gtid text) = outside (block_at_position (position_of source (Gtid text)) [])
  same_block (Vgtid entries) = outside (block_at_position (position_of source (Vgtid entries)) [])
  same_block Begin = outside None
  same_block Rollback = outside None
  same_block (Row name rows) = outside None
  same_block (Field name columns) = outside None
  same_block (Ignored kind) = outside None

  -- ---- faults

  number : length (groups_of source new) + 1 ≡ length (groups_of source old) + 1 - fewer
  number = omega (arith, a.numbers)

  same_block_fault : (position : Position) → block_fault source new position ≡ option_map (lowered_fault fewer) (block_fault source old position)
  same_block_fault position =
      let last : ℕ → Option FeedFault = λ n. Some (Diverged n) in
      let by : Position → ℕ → Option FeedFault = λ all n. cond (within_of position all) None (cond (within_of all position) None (last n)) in
      ap (λ (all : Position). by all (length (groups_of source new) + 1)) a.reached
      ∙ ap (by (seen source old)) number
      ∙ sym (map-choice (lowered_fault fewer) (within_of position (seen source old)) None (cond (within_of (seen source old) position) None (last (length (groups_of source old) + 1)))
      ∙ ap (λ (o : Option FeedFault). cond (within_of position (seen source old)) None o) (map-choice (lowered_fault fewer) (within_of (seen source old) position) None (last (length (groups_of source old) + 1))))

  same_position_fault : (read : Result Position GtidFault) → position_fault source new read ≡ option_map (lowered_fault fewer) (position_fault source old read)
  same_position_fault (Err fault) = refl
  same_position_fault (Ok position) =
      ap (λ (o : Bool). cond o None (block_fault source new position)) a.inside
      ∙ ap (λ (f : Option FeedFault). cond (is_open old) None f) (same_block_fault position)
      ∙ sym (map-choice (lowered_fault fewer) (is_open old) None (block_fault source old position))

  same_entry_fault : (text : Option (List ℕ)) → entry_fault source new text ≡ option_map (lowered_fault fewer) (entry_fault source old text)
  same_entry_fault None = refl
  same_entry_fault (Some text) = same_position_fault (position_of_text text)

  same_commit_fault : (position : Option Position) → commit_fault source new position ≡ option_map (lowered_fault fewer) (commit_fault source old position)
  same_commit_fault None = refl
  same_commit_fault (Some position) = same_block_fault position

  same_row_fault : (width : Option ℕ) (changes : List ChangeValue) → row_fault width changes ≡ option_map (lowered_fault fewer) (row_fault width changes)
  same_row_fault None changes = refl
  same_row_fault (Some width) changes = sym (map-choice (lowered_fault fewer) _ None (Some ColumnCount))

  same_row : (name : List ℕ) (changes : List ChangeValue) → fault_at source new (Row name changes) ≡ option_map (lowered_fault fewer) (fault_at source old (Row name changes))
  same_row name changes =
      let table : List ℕ = table_in_source source name in
      let under : PastEvents → Option FeedFault = λ past. row_fault (width_of source past table) changes in
      let same : under new ≡ option_map (lowered_fault fewer) (under old) =
      ap (λ (columns : Option (List FieldValue)). row_fault (option_map length columns) changes) (a.columns table) ∙ same_row_fault (width_of source old table) changes in
      ap (λ (o : Bool). cond o (under new) (Some Misplaced)) a.inside
      ∙ ap (λ (f : Option FeedFault). cond (is_open old) f (Some Misplaced)) same
      ∙ sym (map-choice (lowered_fault fewer) (is_open old) (under old) (Some Misplaced))

  pub same_fault : (event : EventValue) → fault_at source new event ≡ option_map (lowered_fault fewer) (fault_at source old event)
  same_fault Commit = elim (cases_Bool (is_open old)) [
    | inl opened ↦
        cond-true (is_open new) (commit_fault source new (body_position source new)) None (a.inside ∙ opened)
        ∙ ap (commit_fault source new) (a.body_at opened)
        ∙ same_commit_fault (body_position source old)
        ∙ ap (option_map (lowered_fault fewer)) (sym (cond-true (is_open old) (commit_fault source old (body_position source old)) None opened))
    | inr shut ↦
        cond-false (is_open new) (commit_fault source new (body_position source new)) None (a.inside ∙ shut)
        ∙ ap (option_map (lowered_fault fewer)) (sym (cond-false (is_open old) (commit_fault source old (body_position source old)) None shut))
  ]
  same_fault (Gtid text) = same_position_fault (position_of_text text)
  same_fault (Vgtid entries) = same_entry_fault (own_gtid source entries)
  same_fault Begin = ap (λ (o : Bool). cond o (Some Misplaced) None) a.inside ∙ sym (map-choice (lowered_fault fewer) (is_open old) (Some Misplaced) None)
  same_fault Rollback = refl
  same_fault (Row name rows) = same_row name rows
  same_fault (Field name columns) = refl
  same_fault (Ignored kind) = refl

  -- ---- what is open, what stands of it, and the columns

  inside_more : (event : EventValue) → is_open (event ∷ new) ≡ is_open (event ∷ old)
  inside_more Commit = refl
  inside_more (Gtid text) = a.inside
  inside_more (Vgtid entries) = a.inside
  inside_more Begin = refl
  inside_more Rollback = refl
  inside_more (Row name rows) = a.inside
  inside_more (Field name columns) = a.inside
  inside_more (Ignored kind) = a.inside

  at_more : (event : EventValue) → is_open (event ∷ old) ≡ true → body_position source (event ∷ new) ≡ body_position source (event ∷ old)
  at_more Commit o = absurd (false≢true o)
  at_more (Gtid text) o = ap (option_or (position_of source (Gtid text))) (a.body_at o)
  at_more (Vgtid entries) o = ap (option_or (position_of source (Vgtid entries))) (a.body_at o)
  at_more Begin o = refl
  at_more Rollback o = absurd (false≢true o)
  at_more (Row name rows) o = a.body_at o
  at_more (Field name columns) o = a.body_at o
  at_more (Ignored kind) o = a.body_at o

  body_more : (event : EventValue) → is_open (event ∷ old) ≡ true → body_changes source (event ∷ new) ≡ body_changes source (event ∷ old)
  body_more Commit o = absurd (false≢true o)
  body_more (Gtid text) o = a.body o
  body_more (Vgtid entries) o = a.body o
  body_more Begin o = refl
  body_more Rollback o = absurd (false≢true o)
  body_more (Row name rows) o = ap (λ (changes : List TableChangeValue). changes ++ changes_in (table_in_source source name) rows) (a.body o)
  body_more (Field name columns) o = a.body o
  body_more (Ignored kind) o = a.body o

  columns_more : (event : EventValue) (table : List ℕ) → last_field source (event ∷ new) table ≡ last_field source (event ∷ old) table
  columns_more Commit table = a.columns table
  columns_more (Gtid text) table = a.columns table
  columns_more (Vgtid entries) table = a.columns table
  columns_more Begin table = a.columns table
  columns_more Rollback table = a.columns table
  columns_more (Row name rows) table = a.columns table
  columns_more (Field name columns) table = ap (λ (o : Option (List FieldValue)). cond (bytes_eq (table_in_source source name) table) (Some columns) o) (a.columns table)
  columns_more (Ignored kind) table = a.columns table

  -- ---- groups

  -- the groups that a block is behind the old ones
  abbrev pub group_behind : EventValue → List GroupValue
  group_behind event = group_of_block (seen source old) (length (groups_of source old) + 1) (block_at source old event)

  lowered_block : (all : Position) (n m : ℕ) (block : Option Block) → n ≡ m - fewer → group_of_block all n block ≡ map (lowered_group fewer) (group_of_block all m block)
  lowered_block all n m None e = refl
  lowered_block all n m (Some block) e = by (within_of block.position all)
    where
      by : (b : Bool) → cond b [] (numbered block n ∷ []) ≡ map (lowered_group fewer) (cond b [] (numbered block m ∷ []))
      by true = refl
      by false = ap (λ k. numbered block k ∷ []) e

  pub same_group : (event : EventValue)
      → group_of_block (seen source new) (length (groups_of source new) + 1) (block_at source new event) ≡ map (lowered_group fewer) (group_behind event)
  same_group event =
      let n : ℕ = length (groups_of source new) + 1 in
      ap (λ (all : Position). group_of_block all n (block_at source new event)) a.reached
      ∙ ap (group_of_block (seen source old) n) (same_block event)
      ∙ lowered_block (seen source old) n (length (groups_of source old) + 1) (block_at source old event) number

  reached_more : (event : EventValue) → seen source (event ∷ new) ≡ seen source (event ∷ old)
  reached_more event = ap (λ (all : Position). with_block all (block_at source new event)) a.reached ∙ ap (with_block (seen source old)) (same_block event)

length-lowered : (fewer : ℕ) (groups : List GroupValue) → length (map (lowered_group fewer) groups) ≡ length groups
length-lowered fewer [] = refl
length-lowered fewer (g ∷ groups) = let rest = length-lowered fewer groups in omega (arith, rest)

map-lowered : (fewer : ℕ) (xs ys : List GroupValue) → map (lowered_group fewer) (xs ++ ys) ≡ map (lowered_group fewer) xs ++ map (lowered_group fewer) ys
map-lowered fewer [] ys = refl
map-lowered fewer (x ∷ xs) ys = ap (λ (zs : List GroupValue). lowered_group fewer x ∷ zs) (map-lowered fewer xs ys)

alike_more : (source : SourceValue) (fewer : ℕ) (old new : PastEvents) (a : AnswerAlike source fewer old new) (event : EventValue) → AnswerAlike source fewer (event ∷ old) (event ∷ new)
alike_more source fewer old new a event =
    let one : List GroupValue = group_behind source fewer old new a event in
    let here = same_group source fewer old new a event in
    let of_new : length (groups_of source (event ∷ new)) ≡ length (groups_of source new) + length one =
    length-append (groups_of source new) _ ∙ ap (λ (gs : List GroupValue). length (groups_of source new) + length gs) here ∙ ap (λ n. length (groups_of source new) + n) (length-lowered fewer one) in
    let of_old : length (groups_of source (event ∷ old)) ≡ length (groups_of source old) + length one = length-append (groups_of source old) one in
    record {
      inside = inside_more source fewer old new a event;
      body_at = at_more source fewer old new a event;
      body = body_more source fewer old new a event;
      columns = columns_more source fewer old new a event;
      reached = reached_more source fewer old new a event;
      numbers = omega (arith, of_new, of_old, a.numbers);
    }

-- ---- all later events

pub go_on_alike : (source : SourceValue) (fewer : ℕ) (old new later : PastEvents) → AnswerAlike source fewer old new → GoOnAlike source fewer old new later
go_on_alike source fewer old new [] a = record {
  more = [];
  of_old = sym (append-nil (groups_of source old));
  of_new = sym (append-nil (groups_of source new));
  behind = a;
  faults = λ e f. f ∙ ap (option_map (lowered_fault fewer)) (sym e);
}
go_on_alike source fewer old new (event ∷ later) a =
    let g : GoOnAlike source fewer old new later = go_on_alike source fewer old new later a in
    let one : List GroupValue = group_behind source fewer (later ++ old) (later ++ new) g.behind event in
    record {
      more = g.more ++ one;
      of_old = ap (λ (gs : List GroupValue). gs ++ one) g.of_old ∙ append_assoc (groups_of source old) g.more one;
      of_new =
          ap (λ (gs : List GroupValue). gs ++ group_of_block (seen source (later ++ new)) (length (groups_of source (later ++ new)) + 1) (block_at source (later ++ new) event)) g.of_new
          ∙ append_assoc (groups_of source new) (map (lowered_group fewer) g.more) _
          ∙ ap (λ (gs : List GroupValue). groups_of source new ++ (map (lowered_group fewer) g.more ++ gs)) (same_group source fewer (later ++ old) (later ++ new) g.behind event)
          ∙ ap (λ (gs : List GroupValue). groups_of source new ++ gs) (sym (map-lowered fewer g.more one));
      behind = alike_more source fewer (later ++ old) (later ++ new) g.behind event;
      faults = λ e f.
          ap (λ (o : Option FeedFault). option_or o (fault_at source (later ++ new) event)) (g.faults e f)
          ∙ ap (option_or (option_map (lowered_fault fewer) (first_fault source (later ++ old)))) (same_fault source fewer (later ++ old) (later ++ new) g.behind event)
          ∙ sym (map-or (lowered_fault fewer) (first_fault source (later ++ old)) (fault_at source (later ++ old) event));
    }
