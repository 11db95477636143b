use Rattle.std.proofs.Common.{◌≡◌, ℕ, List, [], ◌∷◌, ℤ, rules, refl, sym, ap, subst, ◌∙◌, arith}
use mir.Val.{SFits, to_z, of_z}
use Rattle.std.specs.Int.{w64}
use Rattle.std.proofs.lemmas.Int.{to_z-of_z}
use Rattle.std.proofs.lemmas.Result.{err_from_is_err_and}
use Rattle.proto_wire.specs.Varint.{varint_at, varints_of}
use Rattle.proto_wire.proofs.ReadingLaws.{empty_list, not_empty, next_err}
use Rattle.proto_wire.proofs.Sint64Laws.{sint64_refused}
use Rattle.row_view.specs.Private.Marks.{lengths_left}
use Rattle.row_view.specs.Private.Counted.{IsCounted}
use Rattle.row_view.proofs.PlaceLaws.{ends_place, ends_further}
use Rattle.row_view.proofs.ReadLaws.{number_ahead, no_numbers, no_number_fault}
use Rattle.row_view.proofs.count.Count.put_packed.Goals as goal

pub returns-in_err-length-clause-read : goal.returns-in_err-length-clause-read
returns-in_err-length-clause-read c =
    let p = err_from_is_err_and c.from_residual.result c.from_residual.ensures.1 in
    let rest = c.loop-rest.rest.now in
    let here = next_err varint_at rest (varints_of rest) c.in_err-length.field-0.0 (not_empty rest (sym c.loop-rest-test.true ∙ c.is_empty.ensures)) (sint64_refused rest c.in_err-length.field-0.0 c.in_err-length.ensures) refl in
    rw (p.1, p.2) (sym c.loop-rest.invariant.fault ∙ here.1)

pub loop-rest-smaller : goal.loop-rest-smaller
loop-rest-smaller c = (number_ahead c.loop-rest.rest.now c.in_ok-length.next.now c.in_ok-length.length c.in_ok-length.ensures).shorter

pub loop-rest-preserved : goal.loop-rest-preserved
loop-rest-preserved c =
    let message = c.args.message.now in
    let after = c.args.after.now in
    let rest = c.loop-rest.rest.now in
    let next = c.in_ok-length.next.now in
    let read = c.loop-rest.invariant in
    let n = c.in_ok-length.length in
    let ahead = number_ahead rest next n c.in_ok-length.ensures in
    let fits : SFits w64 n = search rules in
    let first : lengths_left rest after ≡ to_z w64 (of_z w64 n) ∷ lengths_left next after = ahead.left after ∙ ap (λ (m : ℤ). m ∷ lengths_left next after) (sym (to_z-of_z w64 n fits)) in
    record {
      place = ends_further message rest after ahead.front next read.place ahead.is;
      few = omega (arith, read.few, ahead.shorter, c.put_length.ensures.one);
      fault = ahead.fault ∙ read.fault;
      counted = c.put_length.ensures.counted message rest after (lengths_left next after) (ends_place message rest after _ _ read.place refl refl) first
          (subst (λ (left : List ℤ). IsCounted message left c.loop-rest.self c.loop-rest.marks) first read.counted);
    }

pub returns-clause-read : goal.returns-clause-read
returns-clause-read c =
    let after = c.args.after.now in
    let read = c.loop-rest.invariant in
    let none : c.loop-rest.rest.now ≡ [] = empty_list c.loop-rest.rest.now (sym c.loop-rest-test.false ∙ c.is_empty.ensures) in (
      sym read.fault ∙ ap (λ (r : List ℕ). (varints_of r).fault) none ∙ no_number_fault,
      subst (λ (left : List ℤ). IsCounted c.args.message.now left c.loop-rest.self c.loop-rest.marks) (ap (λ (r : List ℕ). lengths_left r after) none ∙ no_numbers after) read.counted,
    )
