use Rattle.std.proofs.Common.{◌∙◌, ap, sym, ℕ}
use Rattle.std.specs.Prelude.{nat_lt}
use Rattle.std.specs.Arc.{arc_value}
use Rattle.std.specs.List.{list_all}
use Rattle.std.proofs.lemmas.List.{length-map}
use Rattle.vrepl_main.proofs.following_only.have_streams.Goals as goal

pub returns : goal.returns
returns c = c.are_below.ensures ∙ ap (λ (n : ℕ). list_all (λ s. nat_lt s n) c.args.only.now) (sym (length-map c.args.plans.now arc_value))
