use Rattle.std.proofs.Common.{◌∷◌, ◌++◌, map}
use Rattle.std.proofs.lemmas.Result.{err_from_is_err_and}
use Rattle.vrepl_main.specs.declared.input.InputName.TheVariants.{File}
use Rattle.vrepl_main.proofs.InputLaws.{unread_before, unread_behind, unread_first, unread_later}
use Rattle.vrepl_main.proofs.named_inputs.read_join.Goals as goal

pub returns-in_err-workflow-clause-refused : goal.returns-in_err-workflow-clause-refused
returns-in_err-workflow-clause-refused g c =
    let p = err_from_is_err_and c.from_residual.result c.from_residual.ensures.1 in
    let files = c.args.files.now in
    rw (p.1, p.2) (unread_first (File files.workflow) (File files.one ∷ File files.other ∷ (map File files.more.now ++ map File files.feeds.now)) c.in_err-workflow.field-0.0 c.in_err-workflow.ensures.refused)

pub returns-in_err-one-clause-refused : goal.returns-in_err-one-clause-refused
returns-in_err-one-clause-refused g c =
    let p = err_from_is_err_and c.from_residual-in_err-one.result c.from_residual-in_err-one.ensures.1 in
    let files = c.args.files.now in
    rw (p.1, p.2) (unread_later (File files.workflow) (File files.one ∷ File files.other ∷ (map File files.more.now ++ map File files.feeds.now)) c.in_err-one.field-0.0
    (unread_first (File files.one) (File files.other ∷ (map File files.more.now ++ map File files.feeds.now)) c.in_err-one.field-0.0 c.in_err-one.ensures.refused))

pub returns-in_err-others-clause-refused : goal.returns-in_err-others-clause-refused
returns-in_err-others-clause-refused g c =
    let p = err_from_is_err_and c.from_residual-in_err-others.result c.from_residual-in_err-others.ensures.1 in
    let files = c.args.files.now in
    rw (p.1, p.2) (unread_later (File files.workflow) (File files.one ∷ File files.other ∷ (map File files.more.now ++ map File files.feeds.now)) c.in_err-others.field-0.0
    (unread_later (File files.one) (File files.other ∷ (map File files.more.now ++ map File files.feeds.now)) c.in_err-others.field-0.0
    (unread_before (File files.other ∷ map File files.more.now) (map File files.feeds.now) c.in_err-others.field-0.0 (rw (c.deref.ensures.value, c.in_ok-names.ensures) at c.in_err-others.ensures.refused))))

pub returns-in_err-feeds-clause-refused : goal.returns-in_err-feeds-clause-refused
returns-in_err-feeds-clause-refused g c =
    let p = err_from_is_err_and c.from_residual-in_err-feeds.result c.from_residual-in_err-feeds.ensures.1 in
    let files = c.args.files.now in
    rw (p.1, p.2) (unread_later (File files.workflow) (File files.one ∷ File files.other ∷ (map File files.more.now ++ map File files.feeds.now)) c.in_err-feeds.field-0.0
    (unread_later (File files.one) (File files.other ∷ (map File files.more.now ++ map File files.feeds.now)) c.in_err-feeds.field-0.0
    (unread_behind (File files.other ∷ map File files.more.now) (map File files.feeds.now) c.in_err-feeds.field-0.0 c.in_err-feeds.ensures.refused)))
