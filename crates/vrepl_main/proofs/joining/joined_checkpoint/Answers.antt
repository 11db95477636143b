use Rattle.std.proofs.Common.{◌∙◌, sym, subst, Ok, Result}
use Rattle.std.proofs.lemmas.Result.{err_from_is_err_and}
use Rattle.vrepl_main.specs.InputList.{bytes_of}
use Rattle.vrepl_main.specs.OpenedFeeds.{opened_value}
use Rattle.vrepl_main.specs.Opening.{OpenedValue}
use Rattle.vrepl_main.specs.Reasons.{Reason, RefusesInputs}
use Rattle.vrepl_main.proofs.HandedOnLaws.{makes_joined}
use Rattle.vrepl_main.proofs.JoinedLaws.{saved_as, refused_as}
use Rattle.vrepl_main.proofs.RunLaws.{given_as}
use Rattle.vrepl_main.proofs.joining.joined_checkpoint.Goals as goal

pub returns-in_err-opened-clause-refused : goal.returns-in_err-opened-clause-refused
returns-in_err-opened-clause-refused g c =
    let p = err_from_is_err_and c.from_residual.result c.from_residual.ensures.1 in
    let inputs = c.args.inputs.now in
    let e = given_as inputs.feeds.items (λ feed. feed.items) inputs.feed_form inputs.workflow.items _ (rw c.deref.ensures.value at c.in-Ok.ensures) in
    rw (p.1, p.2) (subst (λ (r : Result OpenedValue Reason). RefusesInputs {X = OpenedValue} c.in_err-opened.field-0.0 r) e (rw (c.deref-2.ensures.value, c.deref-3.ensures.value) at c.in_err-opened.ensures.opened))

pub returns-in_err-board-clause-refused : goal.returns-in_err-board-clause-refused
returns-in_err-board-clause-refused g c =
    let p = err_from_is_err_and c.from_residual-in_err-board.result c.from_residual-in_err-board.ensures.1 in
    let inputs = c.args.inputs.now in
    let e = given_as inputs.feeds.items (λ feed. feed.items) inputs.feed_form inputs.workflow.items _ (rw c.deref.ensures.value at c.in-Ok.ensures) in
    rw (p.1, p.2) (refused_as inputs.one.items (bytes_of inputs.others.items) (Ok (opened_value c.in_ok-opened.opened)) _ (sym (rw (c.deref-2.ensures.value, c.deref-3.ensures.value) at c.in_ok-opened.ensures.opened) ∙ e) c.in_err-board.field-0.0
    (rw (c.deref-5.ensures.value, c.deref-6.ensures.value) at c.in_err-board.ensures.refused))

pub returns-in-Ok-checkpoint-clause-saved : goal.returns-in-Ok-checkpoint-clause-saved
returns-in-Ok-checkpoint-clause-saved g c =
    let inputs = c.args.inputs.now in
    let e = given_as inputs.feeds.items (λ feed. feed.items) inputs.feed_form inputs.workflow.items _ (rw c.deref.ensures.value at c.in-Ok.ensures) in
    saved_as inputs.one.items (bytes_of inputs.others.items) (Ok (opened_value c.in_ok-opened.opened)) _ (sym (rw (c.deref-2.ensures.value, c.deref-3.ensures.value) at c.in_ok-opened.ensures.opened) ∙ e) c.in-Ok-checkpoint.bytes.items
    (c.in_ok-board.board, (rw (c.deref-5.ensures.value, c.deref-6.ensures.value) at c.in_ok-board.ensures.joined), c.in-Ok-checkpoint.ensures)

pub returns-in-Ok-checkpoint-clause-right : goal.returns-in-Ok-checkpoint-clause-right
returns-in-Ok-checkpoint-clause-right g c =
    let inputs = c.args.inputs.now in
    let e = given_as inputs.feeds.items (λ feed. feed.items) inputs.feed_form inputs.workflow.items _ (rw c.deref.ensures.value at c.in-Ok.ensures) in
    makes_joined inputs c.in-Ok-checkpoint.bytes.items
    (saved_as inputs.one.items (bytes_of inputs.others.items) (Ok (opened_value c.in_ok-opened.opened)) _ (sym (rw (c.deref-2.ensures.value, c.deref-3.ensures.value) at c.in_ok-opened.ensures.opened) ∙ e) c.in-Ok-checkpoint.bytes.items
    (c.in_ok-board.board, (rw (c.deref-5.ensures.value, c.deref-6.ensures.value) at c.in_ok-board.ensures.joined), c.in-Ok-checkpoint.ensures))
