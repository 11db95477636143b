use Rattle.std.proofs.Common.{rules, ◌≡◌, ◌∙◌, ◌++◌, ◌∷◌, [], ap, List, map, inl, inr, arith}
use Rattle.std.proofs.lemmas.List.{map-append}
use Rattle.serde_json.specs.Data.{Data, array}
use Rattle.serde_json.specs.View.{items_of, view}
use Rattle.serde_json.proofs.Views.{view-Array}
use Rattle.vdiff.proofs.DifferenceLaws.{found_all}
use Rattle.vdiff.proofs.JsonLaws.{made_none, made_one}
use Rattle.vdiff.proofs.json_differences.differences_value.Goals as goal

pub loop-init : goal.loop-init
loop-init c = rw (c.as_slice-left.ensures.rows, c.as_slice-right.ensures.rows) (made_none _ _ _ _ _ (search rules) c.as_slice-left.ensures.rising c.as_slice-right.ensures.rising)

pub loop-preserved : goal.loop-preserved
loop-preserved c =
    let grown : map view c.push.new.self.items ≡ map view c.loop.differences.items ++ view c.in_ok-difference.difference ∷ [] = search (rules, map-append) in
    rw grown (made_one _ _ _ _ _ _ _ _ _ _ _ _ c.loop-test.true c.loop.invariant c.in-Some.ensures c.in_ok-difference.ensures)

pub returns-in_default : goal.returns-in_default
returns-in_default c = (
  c.loop.invariant.found,
  found_all _ _ _ _ _ _ _ (inr (c.loop-test.true, c.in_default.ensures)) c.loop.invariant.are_found,
  view-Array c.loop.differences ∙ ap (λ (l : List Data). array (items_of l)) c.loop.invariant.are_made,
)

pub returns : goal.returns
returns c = (
  c.loop.invariant.found,
  found_all _ _ _ _ _ _ _ (inl (omega arith)) c.loop.invariant.are_found,
  view-Array c.loop.differences ∙ ap (λ (l : List Data). array (items_of l)) c.loop.invariant.are_made,
)
