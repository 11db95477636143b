use Rattle.std.proofs.Common.{inl, inr, ap, sym, subst, refl, map, ◌∙◌, ◌≡◌}
use Rattle.std.proofs.lemmas.Bool.{true≢false}
use Rattle.std.specs.Prelude.{IsTrue, ◌↔◌}
use Rattle.std.specs.Arc.{arc_value}
use Rattle.board_laws.specs.Meaning.{State}
use Rattle.board_laws.specs.Compatible.{IsBeginning}
use Rattle.apply_core.proofs.BesideLaws.{begins_as}
use Rattle.apply_core.proofs.stream.Stream.shares_history_with.Goals as goal

pub returns-then-begins : goal.returns-then-begins
returns-then-begins c =
    let mine : map arc_value c.deref.result.now ≡ c.args.self.now.list = ap (map arc_value) c.deref.ensures.value ∙ ap (λ (s : State). s.list) c.self.view_is in
    let theirs : map arc_value c.deref-2.result.now ≡ c.args.other.now.list = ap (map arc_value) c.deref-2.ensures.value ∙ ap (λ (s : State). s.list) c.other.view_is in
    let h : IsTrue c.begins.result ↔ IsBeginning c.args.self.now.list c.args.other.now.list = begins_as c.args.self.now c.args.other.now _ _ mine theirs c.is_sound.ensures c.is_sound-2.ensures c.requires c.begins.result c.begins.ensures in
    (λ is. inl (h.0 is), λ _. subst IsTrue (sym c.if-begins.true) refl)

pub returns-else-begins : goal.returns-else-begins
returns-else-begins c =
    let mine : map arc_value c.deref.result.now ≡ c.args.self.now.list = ap (map arc_value) c.deref.ensures.value ∙ ap (λ (s : State). s.list) c.self.view_is in
    let theirs : map arc_value c.deref-2.result.now ≡ c.args.other.now.list = ap (map arc_value) c.deref-2.ensures.value ∙ ap (λ (s : State). s.list) c.other.view_is in
    let mine_too : map arc_value c.deref-else-begins-2.result.now ≡ c.args.self.now.list = ap (map arc_value) c.deref-else-begins-2.ensures.value ∙ ap (λ (s : State). s.list) c.self.view_is in
    let theirs_too : map arc_value c.deref-else-begins.result.now ≡ c.args.other.now.list = ap (map arc_value) c.deref-else-begins.ensures.value ∙ ap (λ (s : State). s.list) c.other.view_is in
    let h : IsTrue c.begins.result ↔ IsBeginning c.args.self.now.list c.args.other.now.list = begins_as c.args.self.now c.args.other.now _ _ mine theirs c.is_sound.ensures c.is_sound-2.ensures c.requires c.begins.result c.begins.ensures in
    let k : IsTrue c.begins-else-begins.result ↔ IsBeginning c.args.other.now.list c.args.self.now.list
    = begins_as c.args.other.now c.args.self.now _ _ theirs_too mine_too c.is_sound-2.ensures c.is_sound.ensures (sym c.requires) c.begins-else-begins.result c.begins-else-begins.ensures in
    (λ is. inr (k.0 is), λ one. elim one [ inl left ↦ absurd (true≢false (sym (h.1 left) ∙ c.if-begins.false)) | inr right ↦ k.1 right ])
