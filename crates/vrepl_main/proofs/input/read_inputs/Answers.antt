use Rattle.std.proofs.Common.{rules, ◌≡◌, ◌∙◌, ap, subst, sym, [], ◌∷◌, ◌++◌, ◌+◌, take, arith, List, ℕ}
use Rattle.std.proofs.lemmas.List.{length-append, map-append}
use Rattle.std.proofs.lemmas.Result.{err_from_is_err_and}
use Rattle.std.specs.Global.{Vec}
use Rattle.vrepl_main.specs.InputList.{bytes_of}
use Rattle.vrepl_main.specs.Inputs.{AreGiven}
use Rattle.vrepl_main.proofs.InputLaws.{IsUnreadAmong-one, given_all, given_more, given_none}
use Rattle.vrepl_main.proofs.input.read_inputs.Goals as goal

pub loop-name-preserved : goal.loop-name-preserved
loop-name-preserved g c =
    let gives = g.R.Source.gives c.args.rt.now in
    let names = c.args.names.now in
    let so_far = c.loop-name.inputs.items in
    let read = c.in_ok-read.read in
    let i = c.loop-name.name-index in
    let grown : c.push.new.self.items ≡ so_far ++ read ∷ [] = search rules in
    let bytes : bytes_of c.push.new.self.items ≡ bytes_of so_far ++ read.items ∷ [] = ap bytes_of grown ∙ map-append (λ (v : Vec ℕ). v.items) so_far (read ∷ []) in (
      search rules,
      search rules,
      subst (AreGiven gives (take (i + 1) names)) (sym bytes) (given_more gives names i _ (bytes_of so_far) read.items c.loop-name-test.true c.loop-name.invariant.2 c.in_ok-read.ensures.given),
    )

pub returns-in_err-read-clause-refused : goal.returns-in_err-read-clause-refused
returns-in_err-read-clause-refused g c =
    let p = err_from_is_err_and c.from_residual-in_err-read.result c.from_residual-in_err-read.ensures.1 in
    rw (p.1, p.2) (IsUnreadAmong-one c.args.names.now c.loop-name.name-index _ c.in_err-read.field-0.0 c.loop-name-test.true c.in_err-read.ensures.refused)
