use Rattle.std.proofs.Common.{◌≡◌, List, length, ap, sym, subst, ◌∙◌, arith}
use Rattle.pk_copy.specs.KeyOrder.{key_cmp}
use Rattle.target_tables.specs.Merged.{AreMerged}
use Rattle.board_laws.specs.Lawful.{IsLawful}
use Rattle.board_laws.specs.Meaning.{State, TargetRows, Meaning}
use Rattle.board_laws.specs.Chosen.{all_chosen}
use Rattle.board_laws.specs.Joined.{rows_from}
use Rattle.apply_core.proofs.BoardLaws.{refilled}
use Rattle.apply_core.proofs.JoinLaws.{both_joined, both_lawful}
use Rattle.apply_core.proofs.MeetingLaws.{rows_of_both}
use Rattle.apply_core.proofs.joining.join_both.Goals as goal

pub invariant_of-result-in-Ok : goal.invariant_of-result-in-Ok
invariant_of-result-in-Ok c =
    let same : length c.keep_all_further.new.a ≡ c.a.inside.streams.len = omega (arith, c.keep_all_further.auto.a, c.deref_mut.ensures.len) in
    let here : c.deref_mut.result.now ≡ c.args.a.streams = c.deref_mut.ensures.value ∙ ap (λ (m : Meaning). m.streams) c.a.view_is in
    let there : c.deref_mut-in-Ok.result.now ≡ c.args.b.streams = c.deref_mut-in-Ok.ensures.value ∙ ap (λ (m : Meaning). m.streams) c.b.view_is in
    let one : c.a.inside.rows.entries ≡ c.args.a.rows = ap (λ (m : Meaning). m.rows) c.a.view_is in
    let other : c.b.inside.rows.entries ≡ c.args.b.rows = ap (λ (m : Meaning). m.rows) c.b.view_is in
    let merged : AreMerged key_cmp c.args.sides.now c.args.a.rows c.args.b.rows c.in-Ok.rows.entries =
    subst (λ (rs : TargetRows). AreMerged key_cmp c.args.sides.now rs c.args.b.rows c.in-Ok.rows.entries) one (subst (λ (rs : TargetRows). AreMerged key_cmp c.args.sides.now c.a.inside.rows.entries rs c.in-Ok.rows.entries) other c.in-Ok.ensures.merged) in
    let rows : c.in-Ok.rows.entries ≡ rows_from 0 (all_chosen c.args.a.streams c.args.b.streams) =
    rows_of_both (λ x y. (c.keys_tie_where_they_are_equal.ensures x y).0) c.args.a c.args.b c.args.sides.now c.is_lawful.ensures c.is_lawful-2.ensures c.requires.compatible.plans c.requires.sides c.in-Ok.rows.entries c.requires.compatible.apart merged in
    both_lawful c.args.a c.args.b _ c.in-Ok.rows.entries
    (refilled c.a.inside.streams.len c.a.inside.streams.items c.keep_all_further.new.a same ∙ c.keep_all_further.ensures ∙ ap (λ (xs : List State). all_chosen xs c.deref_mut-in-Ok.result.now) here
    ∙ ap (λ (ys : List State). all_chosen c.args.a.streams ys) there)
    rows (c.joined_boards_are_lawful.ensures.boards c.args.a c.args.b c.is_lawful.ensures c.is_lawful-2.ensures c.requires.compatible)

pub returns-in-Ok-clause-joined : goal.returns-in-Ok-clause-joined
returns-in-Ok-clause-joined c =
    let same : length c.keep_all_further.new.a ≡ c.a.inside.streams.len = omega (arith, c.keep_all_further.auto.a, c.deref_mut.ensures.len) in
    let here : c.deref_mut.result.now ≡ c.args.a.streams = c.deref_mut.ensures.value ∙ ap (λ (m : Meaning). m.streams) c.a.view_is in
    let there : c.deref_mut-in-Ok.result.now ≡ c.args.b.streams = c.deref_mut-in-Ok.ensures.value ∙ ap (λ (m : Meaning). m.streams) c.b.view_is in
    let one : c.a.inside.rows.entries ≡ c.args.a.rows = ap (λ (m : Meaning). m.rows) c.a.view_is in
    let other : c.b.inside.rows.entries ≡ c.args.b.rows = ap (λ (m : Meaning). m.rows) c.b.view_is in
    let merged : AreMerged key_cmp c.args.sides.now c.args.a.rows c.args.b.rows c.in-Ok.rows.entries =
    subst (λ (rs : TargetRows). AreMerged key_cmp c.args.sides.now rs c.args.b.rows c.in-Ok.rows.entries) one (subst (λ (rs : TargetRows). AreMerged key_cmp c.args.sides.now c.a.inside.rows.entries rs c.in-Ok.rows.entries) other c.in-Ok.ensures.merged) in
    let rows : c.in-Ok.rows.entries ≡ rows_from 0 (all_chosen c.args.a.streams c.args.b.streams) =
    rows_of_both (λ x y. (c.keys_tie_where_they_are_equal.ensures x y).0) c.args.a c.args.b c.args.sides.now c.is_lawful.ensures c.is_lawful-2.ensures c.requires.compatible.plans c.requires.sides c.in-Ok.rows.entries c.requires.compatible.apart merged in
    both_joined c.args.a c.args.b _ c.in-Ok.rows.entries
    (refilled c.a.inside.streams.len c.a.inside.streams.items c.keep_all_further.new.a same ∙ c.keep_all_further.ensures ∙ ap (λ (xs : List State). all_chosen xs c.deref_mut-in-Ok.result.now) here
    ∙ ap (λ (ys : List State). all_chosen c.args.a.streams ys) there)
    rows

pub invariant_of-result : goal.invariant_of-result
invariant_of-result c = subst (λ (rs : TargetRows). IsLawful (record { streams = c.a.inside.streams.items; rows = rs })) (sym c.in-Err.ensures.handed_back.0) c.a.invariant

pub invariant_of-result-in-Err : goal.invariant_of-result-in-Err
invariant_of-result-in-Err c = subst (λ (rs : TargetRows). IsLawful (record { streams = c.b.inside.streams.items; rows = rs })) (sym c.in-Err.ensures.handed_back.1) c.b.invariant

pub returns-in-Err-clause-handed_back : goal.returns-in-Err-clause-handed_back
returns-in-Err-clause-handed_back c =
    let with_a : TargetRows → Meaning = λ rs. record { streams = c.a.inside.streams.items; rows = rs } in
    let with_b : TargetRows → Meaning = λ rs. record { streams = c.b.inside.streams.items; rows = rs } in
    (ap with_a c.in-Err.ensures.handed_back.0 ∙ c.a.view_is, ap with_b c.in-Err.ensures.handed_back.1 ∙ c.b.view_is)
