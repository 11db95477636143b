-- The blocks of a history are those of the grammar.
use Rattle.std.proofs.Common.{◌≡◌, ℕ, List, [], ◌∷◌, ◌++◌, IsTrue, Bool, true, false, cond, Option, None, refl, sym, ◌∙◌, ap, subst, append_assoc}
use Rattle.std.proofs.lemmas.Bool.{cond-true, cond-false}
use mathlib.Core.List.{reverse_aux, reverse_aux-eq}
use Rattle.std.specs.List.{AllByRecursion, flat_map}
use Rattle.std.specs.Option.{option_to_list, option_or}
use Rattle.std.proofs.lemmas.List.{append-nil}
use Rattle.list_laws.proofs.Choices.{or_none}
use Rattle.vevent.specs.EventValue.{EventValue, Gtid, Begin, Commit, Rollback, Row, Field, Vgtid, Ignored}
use Rattle.source_feed.specs.SourceValue.{SourceValue}
use Rattle.source_feed.specs.PastEvents.{PastEvents, is_open, last_field, position_of, body_position, body_changes}
use Rattle.source_feed.specs.Groups.{Block, block_at, block_at_position}
use Rattle.source_feed.proofs.Options.{option_or-assoc}
use Rattle.source_feed.specs.Grammar.{blocks, is_inner, last_position_in, changes_at, inside, BlockGrammar, changes_columns}

-- what an inner event does to an open transaction
record Inner (source : SourceValue) (earlier : PastEvents) (event : EventValue) : Type 0 where
  same_open : is_open (event ∷ earlier) ≡ is_open earlier
  none : is_open earlier ≡ true → block_at source earlier event ≡ None
  position : body_position source (event ∷ earlier) ≡ option_or (position_of source event) (body_position source earlier)
  changes : body_changes source (event ∷ earlier) ≡ body_changes source earlier ++ changes_at source event

inner : (source : SourceValue) (earlier : PastEvents) (event : EventValue) → is_inner event ≡ true → Inner source earlier event
inner source earlier (Gtid text) e = record { same_open = refl; none = λ o. cond-true _ _ _ o; position = refl; changes = sym (append-nil _) }
inner source earlier Begin e = cc
inner source earlier Commit e = cc
inner source earlier Rollback e = cc
inner source earlier (Row name rows) e = record { same_open = refl; none = λ o. cond-true _ _ _ o; position = refl; changes = refl }
inner source earlier (Field name columns) e = record { same_open = refl; none = λ o. cond-true _ _ _ o; position = refl; changes = sym (append-nil _) }
inner source earlier (Vgtid entries) e = record { same_open = refl; none = λ o. cond-true _ _ _ o; position = refl; changes = sym (append-nil _) }
inner source earlier (Ignored kind) e = record { same_open = refl; none = λ o. cond-true _ _ _ o; position = refl; changes = sym (append-nil _) }

-- what a body does to an open transaction
record Bodied (source : SourceValue) (earlier : PastEvents) (body : List EventValue) (behind : PastEvents) : Type 0 where
  opened : is_open behind ≡ true
  same : blocks source behind ≡ blocks source earlier
  position : body_position source behind ≡ option_or (last_position_in source body) (body_position source earlier)
  changes : body_changes source behind ≡ body_changes source earlier ++ flat_map (changes_at source) body

bodied : (source : SourceValue) (body : List EventValue) (earlier : PastEvents) → AllByRecursion (λ event. IsTrue (is_inner event)) body → is_open earlier ≡ true
    → Bodied source earlier body (reverse_aux body earlier)
bodied source [] earlier all o = record { opened = o; same = refl; position = refl; changes = sym (append-nil _) }
bodied source (event ∷ body) earlier all o =
    let first : Inner source earlier event = inner source earlier event all.0 in
    let others : Bodied source (event ∷ earlier) body (reverse_aux body (event ∷ earlier)) = bodied source body (event ∷ earlier) all.1 (first.same_open ∙ o) in
    record {
      opened = others.opened;
      same = others.same ∙ ap (λ block. blocks source earlier ++ option_to_list block) (first.none o) ∙ append-nil (blocks source earlier);
      position = others.position ∙ ap (option_or (last_position_in source body)) first.position ∙ option_or-assoc (last_position_in source body) (position_of source event) (body_position source earlier);
      changes = others.changes ∙ ap (λ before. before ++ flat_map (changes_at source) body) first.changes ∙ append_assoc (body_changes source earlier) (changes_at source event) (flat_map (changes_at source) body);
    }

begun : (source : SourceValue) (earlier : PastEvents) → blocks source (Begin ∷ earlier) ≡ blocks source earlier
begun source earlier = ap (λ block. blocks source earlier ++ option_to_list block) (nothing (is_open earlier)) ∙ append-nil (blocks source earlier)
  where
    nothing : (opened : Bool) → cond {A = Option Block} opened None None ≡ None
    nothing true = refl
    nothing false = refl

whole : (source : SourceValue) (body : List EventValue) (earlier : PastEvents) → AllByRecursion (λ event. IsTrue (is_inner event)) body → Bodied source (Begin ∷ earlier) body (inside earlier body)
whole source body earlier all =
    let P : PastEvents → Type 0 = λ behind. Bodied source (Begin ∷ earlier) body behind in
    subst P (reverse_aux-eq body (Begin ∷ earlier)) (bodied source body (Begin ∷ earlier) all refl)

pub block_grammar : (source : SourceValue) → BlockGrammar source
block_grammar source = record {
  committed = λ earlier body all. (let b : Bodied source (Begin ∷ earlier) body (inside earlier body) = whole source body earlier all in
      ap (λ before. before ++ option_to_list (block_at source (inside earlier body) Commit)) (b.same ∙ begun source earlier)
      ∙ ap (λ block. blocks source earlier ++ option_to_list block)
      (cond-true _ _ _ b.opened
      ∙ ap (λ p. block_at_position p (body_changes source (inside earlier body))) (b.position ∙ or_none (last_position_in source body))
      ∙ ap (block_at_position (last_position_in source body)) b.changes));
  rolled_back = λ earlier body all. (let b : Bodied source (Begin ∷ earlier) body (inside earlier body) = whole source body earlier all in
      ap (λ block. blocks source (inside earlier body) ++ option_to_list block) (cond-true _ _ _ b.opened) ∙ append-nil (blocks source (inside earlier body)) ∙ b.same ∙ begun source earlier);
  outside = λ earlier event closed. ap (λ block. blocks source earlier ++ option_to_list block) (outside_block source earlier event closed);
  ignored = λ earlier kind. ap (λ block. blocks source earlier ++ option_to_list block) (either (is_open earlier)) ∙ append-nil (blocks source earlier);
  columns_stay = λ earlier table event e. stays source earlier table event e;
}
  where
    either : (opened : Bool) → cond {A = Option Block} opened None None ≡ None
    either true = refl
    either false = refl

    outside_block : (source : SourceValue) (earlier : PastEvents) (event : EventValue) → is_open earlier ≡ false → block_at source earlier event ≡ block_at_position (position_of source event) []
    outside_block source earlier Commit closed = cond-false _ _ _ closed
    outside_block source earlier event closed = cond-false _ _ _ closed

    stays : (source : SourceValue) (earlier : PastEvents) (table : List ℕ) (event : EventValue) → changes_columns event ≡ false → last_field source (event ∷ earlier) table ≡ last_field source earlier table
    stays source earlier table (Field name columns) e = cc
    stays source earlier table event e = refl
