use Rattle.std.proofs.Common.{◌≡◌, ap, ◌∙◌, sym, map, take}
use Rattle.std.specs.Arc.{arc_value}
use Rattle.std.specs.List.{take-map}
use Rattle.stream_core.specs.declared.step.Move.{Move}
use Rattle.board_laws.specs.declared.answer.Answer.TheVariants.{Restarted}
use Rattle.board_laws.specs.Meaning.{State}
use Rattle.apply_core.proofs.StreamLaws.{may-restart, restart-value, restart-stream}
use Rattle.apply_core.proofs.stream.Stream.restart.Goals as goal

pub invariant_of-self : goal.invariant_of-self
invariant_of-self c =
    let count : c.read.result ≡ c.self.inside.cursor.applied = c.read.ensures ∙ ap (λ (m : Move). m.cursor.read) c.in_ok-made.ensures.made ∙ sym (ap (λ (s : State). s.applied) c.self.view_is) in
    restart-stream c.steps_keep_boards_lawful.ensures.sound _ _ c.self.view_is _ _ c.self.invariant.stream _
    (ap (map arc_value) (c.truncate.ensures.items ∙ ap (λ n. take n c.self.inside.list.items) count) ∙ sym (take-map arc_value c.self.inside.cursor.applied c.self.inside.list.items))
    c.in_ok-made.made.cursor (ap (λ (m : Move). m.cursor) c.in_ok-made.ensures.made) _ (c.clear.ensures.kept _)

pub returns : goal.returns
returns c =
    let count : c.read.result ≡ c.self.inside.cursor.applied = c.read.ensures ∙ ap (λ (m : Move). m.cursor.read) c.in_ok-made.ensures.made ∙ sym (ap (λ (s : State). s.applied) c.self.view_is) in
    record {
      allowed = may-restart _;
      answered = ap Restarted (c.applied.ensures ∙ ap (λ (m : Move). m.cursor.applied) c.in_ok-made.ensures.made);
      left = restart-value c.steps_keep_boards_lawful.ensures.sound _ _ c.self.view_is _ _ c.self.invariant.stream _
          (ap (map arc_value) (c.truncate.ensures.items ∙ ap (λ n. take n c.self.inside.list.items) count) ∙ sym (take-map arc_value c.self.inside.cursor.applied c.self.inside.list.items))
          c.in_ok-made.made.cursor (ap (λ (m : Move). m.cursor) c.in_ok-made.ensures.made);
    }
