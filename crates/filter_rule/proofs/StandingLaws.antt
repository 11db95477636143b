-- What stands in a refused file.
use Rattle.std.proofs.Common.{◌≡◌, ℕ, List, Bool, true, false, cond, Option, Ok, Err, sym, ap, subst, ◌∙◌}
use Rattle.std.specs.Option.{ok_or}
use Rattle.std.specs.Str.{is_utf8}
use Rattle.serde_json.specs.Data.{Data}
use Rattle.serde_json.specs.Read.{read}
use Rattle.filter_rule.specs.Document.{DocumentSaid, document_of}
use Rattle.list_laws.specs.Outcome.{◌>>=◌, each}
use Rattle.filter_rule.specs.Faults.{Fault, json, shape, limit, no_such_column, key_type, bad_rule, columns_differ}
use Rattle.filter_rule.specs.FirstRule.{document_in}
use Rattle.filter_rule.specs.Limits.{is_within, known_vindexes, within_limits}
use Rattle.filter_rule.specs.Reading.{decided_from, closed_from, json_of, plans_of_document, plans_of}
use Rattle.filter_rule.specs.Resolving.{resolved}
use Rattle.filter_rule.specs.Standing.{Stands}
use Rattle.filter_rule.proofs.JsonText.{no_json}
use Rattle.filter_rule.proofs.RefusedSteps.{failed, same_fault, then_err, none_from_err}
use Rattle.filter_rule.proofs.ShapeFault.{document_of_only}
use Rattle.filter_rule.proofs.StandingRules.{streams_stand, differ_stand}
use Rattle.filter_rule.proofs.StandingTables.{StandsIn, known_stand, limits_stand, tables_stand}
use Rattle.filter_rule.proofs.TableLaws.{limits_kept}

json_fault : (b : Bool) (o : Option Data) (e : Fault) → cond b (ok_or o json) (Err json) ≡ Err e → json ≡ e
json_fault true o e h = (none_from_err o json e h).1
json_fault false o e h = same_fault {B = Data} json e h

value_fault : (text : List ℕ) (e : Fault) → json_of text ≡ Err e → json ≡ e
unfolding json_of
value_fault text e h = json_fault (is_utf8 text) (read text) e h

no_value : (text : List ℕ) (e : Fault) → json_of text ≡ Err e → Stands text e
no_value text e h =
    let is = value_fault text e h in
    subst (Stands text) is (no_json text (h ∙ ap (failed {B = Data}) (sym is)))

no_document : (text : List ℕ) (value : Data) (e : Fault) → json_of text ≡ Ok value → document_of value ≡ Err e → Stands text e
no_document text value e value_is h =
    subst (Stands text) (document_of_only value e h)
    (value, value_is, λ document is. let both : failed {B = DocumentSaid} e ≡ Ok document = sym h ∙ is in cc)

in_document : (text : List ℕ) (document : DocumentSaid) (e : Fault) → document_in text ≡ Ok document → StandsIn document e → Stands text e
in_document text document json says there = absurd there
in_document text document shape says there = absurd there
in_document text document limit says there = (document, says, there)
in_document text document (no_such_column table column) says there = (document, says, there)
in_document text document (key_type table column) says there = (document, says, there)
in_document text document (bad_rule stream rule) says there = (document, says, there)
in_document text document (columns_differ table) says there = (document, says, there)

pub stands : (text : List ℕ) (e : Fault) → plans_of text ≡ Err e → Stands text e
unfolding plans_of plans_of_document
stands text e h =
    then_err _ (json_of text) e h (λ none. no_value text e none)
    (λ value value_is h2. then_err _ (document_of value) e h2 (λ none. no_document text value e value_is none)
    (λ said said_is h2k.
    let says : document_in text ≡ Ok said = ap (λ r. r >>= document_of) value_is ∙ said_is in
    then_err _ (known_vindexes said) e h2k (λ bad. in_document text said e says (known_stand said e bad))
    (λ known known_is h3. then_err _ (within_limits said) e h3 (λ bad. in_document text said e says (limits_stand said e bad))
    (λ document document_is h4.
    let kept = limits_kept (is_within said) said document document_is in
    let says_it : document_in text ≡ Ok document = says ∙ ap Ok kept.1 in
    then_err _ (each resolved document.tables) e h4 (λ bad. in_document text document e says_it (tables_stand document e bad))
    (λ tables tables_are h5. then_err _ (decided_from tables 0 document.streams) e h5 (λ bad. in_document text document e says_it (streams_stand document tables e tables_are bad))
    (λ streams streams_are h6. then_err _ (closed_from streams 0 tables) e h6 (λ bad. in_document text document e says_it (differ_stand document tables streams e tables_are streams_are bad))
    (λ closed closed_are h7. cc)))))))
