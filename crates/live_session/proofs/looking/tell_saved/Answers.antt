use Rattle.std.proofs.Common.{◌≡◌, ℕ, List, length, refl, subst, ap, ◌∙◌, arith}
use Rattle.checkpoint_laws.specs.Written.{checkpoint_of}
use Rattle.printing.specs.Printing.{Prints}
use Rattle.live_session.specs.Answered.{kept_line}
use Rattle.live_session.specs.Saves.{saved_then}
use Rattle.live_session.proofs.looking.tell_saved.Goals as goal

pub returns-clause-answer : goal.returns-clause-answer
returns-clause-answer g c =
    let bytes : List ℕ = checkpoint_of c.args.live.now.fed.board in
    let size : length c.in_ok-checkpoint.checkpoint.items ≡ length bytes = ap length c.in_ok-checkpoint.ensures.checkpoint in
    let many : c.len.result ≡ length bytes = omega (arith, c.len.ensures, c.in_ok-checkpoint.checkpoint.ok.0, size) in
    let are : c.deref.result.now ≡ bytes = c.deref.ensures.value ∙ c.in_ok-checkpoint.ensures.checkpoint in (
      kept_line (length bytes) c.save-kept.result,
      record {
        answer = c.save-kept.result;
        kept = c.save-kept.ensures ∙ ap (λ (checkpoint : List ℕ). saved_then checkpoint c.save-kept.result (g.A.Arrivals.saved c.args.arrivals.now)) are;
        line = refl;
      },
      subst (λ (n : ℕ). Prints c.tell_kept.result (g.O.Out.written c.args.out.now) (g.O.Out.written c.tell_kept.new.out) (kept_line n c.save-kept.result)) many c.tell_kept.ensures,
    )
