use Rattle.std.proofs.Common.{◌≡◌, ℕ, List, false, eqb, length, sym, ap, ◌∙◌}
use Rattle.log_tables.specs.Column.{wanted_value}
use Rattle.log_tables.specs.Extra.{are_names}
use Rattle.log_tables.proofs.WalkLaws.{names_seen}
use Rattle.log_tables.proofs.names.has_names.Goals as goal

pub returns-else-is_empty : goal.returns-else-is_empty
returns-else-is_empty c =
    let none : eqb (length c.args.names.now) 0 ≡ false = sym c.if-is_empty.ensures in
    rw none (c.are_names.ensures ∙ ap (λ (names : List (List ℕ)). are_names names c.args.names.now) (names_seen wanted_value c.args.wanted.now))
