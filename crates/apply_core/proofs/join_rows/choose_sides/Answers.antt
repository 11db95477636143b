use Rattle.std.proofs.Common.{◌≡◌, List, ap, subst, sym, ◌∙◌}
use Rattle.pk_copy.specs.KeyOrder.{key_cmp}
use Rattle.pk_copy.specs.KeyValue.{KeyValue}
use Rattle.target_tables.specs.declared.merge_side.MergeSide.{MergeSide}
use Rattle.target_tables.specs.Common.{common}
use Rattle.board_laws.specs.Meaning.{TargetRows, Meaning}
use Rattle.board_laws.specs.Chosen.{all_chosen}
use Rattle.board_laws.specs.RefusedJoin.{IsFirstClash}
use Rattle.apply_core.specs.Private.Meeting.{Met, NoneClash, IsFirstMet}
use Rattle.apply_core.proofs.MeetingLaws.{none_apart, first_clash}
use Rattle.apply_core.proofs.join_rows.choose_sides.Goals as goal

pub returns-in_default-clause-apart : goal.returns-in_default-clause-apart
returns-in_default-clause-apart c =
    let one : c.a.inside.rows.entries ≡ c.args.a.now.rows = ap (λ (m : Meaning). m.rows) c.a.view_is in
    let other : c.b.inside.rows.entries ≡ c.args.b.now.rows = ap (λ (m : Meaning). m.rows) c.b.view_is in
    let keys : c.common.result ≡ common key_cmp c.args.a.now.rows c.args.b.now.rows =
    c.common.ensures ∙ ap (λ (rs : TargetRows). common key_cmp rs c.b.inside.rows.entries) one ∙ ap (λ (rs : TargetRows). common key_cmp c.args.a.now.rows rs) other in
    let none : NoneClash c.in_ok-sides.sides.items (common key_cmp c.args.a.now.rows c.args.b.now.rows) =
    subst (λ (l : List Met). NoneClash c.in_ok-sides.sides.items l) keys (subst (λ (ms : List MergeSide). NoneClash ms c.common.result) c.deref.ensures.value c.in_default.ensures) in
    none_apart (λ x y. (c.keys_tie_where_they_are_equal.ensures x y).0) c.args.a.now c.args.b.now c.in_ok-sides.sides.items c.is_lawful.ensures c.is_lawful-2.ensures c.requires c.in_ok-sides.ensures none

pub returns-clause-err : goal.returns-clause-err
returns-clause-err c =
    let one : c.a.inside.rows.entries ≡ c.args.a.now.rows = ap (λ (m : Meaning). m.rows) c.a.view_is in
    let other : c.b.inside.rows.entries ≡ c.args.b.now.rows = ap (λ (m : Meaning). m.rows) c.b.view_is in
    let keys : c.common.result ≡ common key_cmp c.args.a.now.rows c.args.b.now.rows =
    c.common.ensures ∙ ap (λ (rs : TargetRows). common key_cmp rs c.b.inside.rows.entries) one ∙ ap (λ (rs : TargetRows). common key_cmp c.args.a.now.rows rs) other in
    let first : IsFirstMet c.in_ok-sides.sides.items (common key_cmp c.args.a.now.rows c.args.b.now.rows) c.in-Some.met.key.now c.in-Some.met.later c.in-Some.met.lower =
    subst (λ (l : List Met). IsFirstMet c.in_ok-sides.sides.items l c.in-Some.met.key.now c.in-Some.met.later c.in-Some.met.lower) keys
    (subst (λ (ms : List MergeSide). IsFirstMet ms c.common.result c.in-Some.met.key.now c.in-Some.met.later c.in-Some.met.lower) c.deref.ensures.value c.in-Some.ensures) in
    subst (λ (k : KeyValue). IsFirstClash (all_chosen c.args.a.now.streams c.args.b.now.streams) k c.in-Some.met.lower) (sym c.in_ok-try_clone.ensures)
    (first_clash (λ x y. (c.keys_tie_where_they_are_equal.ensures x y).0) c.args.a.now c.args.b.now c.in_ok-sides.sides.items c.is_lawful.ensures c.is_lawful-2.ensures c.requires c.in_ok-sides.ensures
    c.in-Some.met.key.now c.in-Some.met.later c.in-Some.met.lower first)
