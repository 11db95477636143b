use Rattle.std.proofs.Common.{◌∙◌, ◌++◌, None, Some, ap}
use Rattle.std.proofs.lemmas.Str.Pattern.{split_text_parts}
use Rattle.std.specs.Prelude.{codes}
use Rattle.refusal_json.specs.Explained.{causes_words, no_causes, no_means, no_todo, todo_words}
use Rattle.refusal_json.proofs.parts.parts_of.Goals as goal

pub returns-in_err-front : goal.returns-in_err-front
returns-in_err-front c = rw c.from_residual.ensures (no_means (split_text_parts (codes "\n\n") c.args.text.now None c.in_err-front.ensures.cases))

pub returns-in_err-means : goal.returns-in_err-means
returns-in_err-means c =
    let front = split_text_parts (codes "\n\n") c.args.text.now (Some (c.in_ok-front.front, c.in_ok-front.rest)) c.in_ok-front.ensures.cases in
    rw c.from_residual-in_err-means.ensures (no_causes _ _ front (split_text_parts causes_words c.in_ok-front.rest.now None c.in_err-means.ensures.cases))

pub returns-in_err-causes : goal.returns-in_err-causes
returns-in_err-causes c =
    let front = split_text_parts (codes "\n\n") c.args.text.now (Some (c.in_ok-front.front, c.in_ok-front.rest)) c.in_ok-front.ensures.cases in
    let means = split_text_parts causes_words c.in_ok-front.rest.now (Some (c.in_ok-means.means, c.in_ok-means.rest)) c.in_ok-means.ensures.cases in
    rw c.from_residual-in_err-causes.ensures
    (no_todo _ _ _ (front ∙ ap (λ rest. c.in_ok-front.front.now ++ (codes "\n\n" ++ rest)) means) (split_text_parts todo_words c.in_ok-means.rest.now None c.in_err-causes.ensures.cases))

pub returns : goal.returns
returns c =
    let front = split_text_parts (codes "\n\n") c.args.text.now (Some (c.in_ok-front.front, c.in_ok-front.rest)) c.in_ok-front.ensures.cases in
    let means = split_text_parts causes_words c.in_ok-front.rest.now (Some (c.in_ok-means.means, c.in_ok-means.rest)) c.in_ok-means.ensures.cases in
    let causes = split_text_parts todo_words c.in_ok-means.rest.now (Some (c.in_ok-causes.causes, c.in_ok-causes.todo)) c.in_ok-causes.ensures.cases in
    front ∙ ap (λ rest. c.in_ok-front.front.now ++ (codes "\n\n" ++ rest)) (means ∙ ap (λ rest. c.in_ok-means.means.now ++ (causes_words ++ rest)) causes)
