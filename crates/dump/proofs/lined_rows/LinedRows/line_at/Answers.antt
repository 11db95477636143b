use denote.Ref.{Bor}
use Rattle.std.proofs.Common.{◌≡◌, ◌∙◌, ℕ, List, length, refl, sym, ap, Some}
use Rattle.std.specs.Prelude.{slice_get}
use Rattle.std.specs.Option.{option_map}
use Rattle.std.proofs.lemmas.Bool.{ltb-true}
use Rattle.std.proofs.lemmas.Option.{slice_get_read, slice_get-map}
use Rattle.pk_copy.specs.KeyValue.{KeyValue}
use Rattle.dump.specs.DumpRowsValue.{RowValue, DumpRowsValue}
use Rattle.dump.specs.Private.Known.{texts_of}
use Rattle.dump.proofs.KnownLaws.{line_there}
use Rattle.dump.proofs.lined_rows.LinedRows.line_at.Goals as goal

pub returns-clause-line : goal.returns-clause-line
returns-clause-line c =
    let now : Bor (List ℕ) → List ℕ = λ line. line.now in
    let place : ℕ = c.args.place in
    let lines = c.deref.result.now in
    let rows = c.as_slice.result.now in
    let line = c.in_ok-line.line.now in
    let row : KeyValue × RowValue = c.in_ok-key.field-0.now in
    let line_at : slice_get lines place ≡ Some line = slice_get_read lines (length lines) place line refl (ltb-true place (length lines) (sym c.in_ok-line.ensures.lookup.0)) c.in_ok-line.ensures.lookup.1 in
    let row_at : slice_get rows place ≡ Some row = slice_get_read rows (length rows) place row refl (ltb-true place (length rows) (sym c.in_ok-key.ensures.lookup.0)) c.in_ok-key.ensures.lookup.1 in
    line_there (texts_of c.self.inside.lines.items) c.self.inside.rows place line.now row c.self.invariant
    (slice_get-map now c.self.inside.lines.items place ∙ ap (λ (all : List (Bor (List ℕ))). option_map now (slice_get all place)) (sym c.deref.ensures.value) ∙ ap (option_map now) line_at)
    (ap (λ (all : DumpRowsValue). slice_get all place) (sym c.as_slice.ensures.rows) ∙ row_at)
