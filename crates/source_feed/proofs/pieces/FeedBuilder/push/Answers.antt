use Rattle.std.proofs.Common.{rules, ◌≡◌, ℕ, ◌+◌, ◌-◌, ◌^◌, ◌<◌, List, ◌++◌, length, length-append, take, drop, Some, None, Ok, sym, ap, subst, ◌∙◌, arith}
use Rattle.proto_wire.specs.Frame.{frames_of}
use Rattle.source_feed.proofs.FrameLaws.{few_messages}
use Rattle.source_feed.specs.Pieces.{IsWholeFront, broken_by, messages_in}
use Rattle.source_feed.specs.FaultNumber.{meant_of}
use Rattle.list_laws.specs.Outcome.{Refuses}
use Rattle.source_feed.proofs.PiecesLaws.{more_front, more_broken, more_messages, messages_are, messages_broken, messages_said, refuses_broken}
use Rattle.source_feed.proofs.pieces.FeedBuilder.push.Goals as goal

pub overflow_add-self-in-Ok : goal.overflow_add-self-in-Ok
overflow_add-self-in-Ok c =
    let bytes : List ℕ = c.self.inside.bytes.items in
    let is : c.deref.result.now ≡ bytes ++ c.args.piece.now = search rules in
    let rest : List ℕ = take (length c.deref.result.now - c.self.inside.end) (drop c.self.inside.end c.deref.result.now) in
    let are : rest ≡ take (length (bytes ++ c.args.piece.now) - c.self.inside.end) (drop c.self.inside.end (bytes ++ c.args.piece.now)) =
    ap (λ (b : List ℕ). take (length b - c.self.inside.end) (drop c.self.inside.end b)) is in
    let long : length (bytes ++ c.args.piece.now) ≡ length bytes + length c.args.piece.now = length-append bytes c.args.piece.now in
    let count : c.len-before.result ≡ length bytes = search rules in
    let room = c.if-piece-before.false in
    let said = messages_said bytes c.self.inside.messages c.self.invariant.1 in
    let few : length (bytes ++ c.args.piece.now) < 2 ^ 31 = omega (arith, long, count, room, said.0) in
    let sum = more_messages bytes c.args.piece.now rest c.self.inside.end c.self.invariant.0 are in
    omega (arith, sum, said.2, c.in-Ok.ensures.messages, few_messages (bytes ++ c.args.piece.now), few)

pub invariant_of-self-in-Ok : goal.invariant_of-self-in-Ok
invariant_of-self-in-Ok c =
    let bytes : List ℕ = c.self.inside.bytes.items in
    let is : c.deref.result.now ≡ bytes ++ c.args.piece.now = search rules in
    let rest : List ℕ = take (length c.deref.result.now - c.self.inside.end) (drop c.self.inside.end c.deref.result.now) in
    let are : rest ≡ take (length (bytes ++ c.args.piece.now) - c.self.inside.end) (drop c.self.inside.end (bytes ++ c.args.piece.now)) =
    ap (λ (b : List ℕ). take (length b - c.self.inside.end) (drop c.self.inside.end b)) is in
    let long : length (bytes ++ c.args.piece.now) ≡ length bytes + length c.args.piece.now = length-append bytes c.args.piece.now in
    let count : c.len-before.result ≡ length bytes = search rules in
    let room = c.if-piece-before.false in
    let said = messages_said bytes c.self.inside.messages c.self.invariant.1 in
    let few : length (bytes ++ c.args.piece.now) < 2 ^ 31 = omega (arith, long, count, room, said.0) in
    let sum = more_messages bytes c.args.piece.now rest c.self.inside.end c.self.invariant.0 are in
    let sound : broken_by (frames_of (bytes ++ c.args.piece.now)).fault ≡ None = more_broken bytes c.args.piece.now rest c.self.inside.end c.self.invariant.0 are ∙ c.in-Ok.ensures.sound in
    let count_is : c.self.inside.messages + c.in-Ok.front.messages ≡ length (frames_of (bytes ++ c.args.piece.now)).items = omega (arith, sum, said.2, c.in-Ok.ensures.messages) in
    let now : bytes ++ c.args.piece.now ≡ c.extend_from_slice.new.self.items = sym is ∙ c.deref.ensures.value in
    subst (λ (b : List ℕ). IsWholeFront b (c.self.inside.end + c.in-Ok.front.end) × (messages_in b ≡ Ok (c.self.inside.messages + c.in-Ok.front.messages))) now (
      more_front bytes c.args.piece.now rest c.self.inside.end c.self.invariant.0 are c.in-Ok.front.end c.in-Ok.ensures.front,
      messages_are (bytes ++ c.args.piece.now) (c.self.inside.messages + c.in-Ok.front.messages) few sound count_is,
    )

pub returns-in-Ok-clause-exact : goal.returns-in-Ok-clause-exact
returns-in-Ok-clause-exact c =
    let bytes : List ℕ = c.self.inside.bytes.items in
    let is : c.deref.result.now ≡ bytes ++ c.args.piece.now = search rules in
    let rest : List ℕ = take (length c.deref.result.now - c.self.inside.end) (drop c.self.inside.end c.deref.result.now) in
    let are : rest ≡ take (length (bytes ++ c.args.piece.now) - c.self.inside.end) (drop c.self.inside.end (bytes ++ c.args.piece.now)) =
    ap (λ (b : List ℕ). take (length b - c.self.inside.end) (drop c.self.inside.end b)) is in
    let long : length (bytes ++ c.args.piece.now) ≡ length bytes + length c.args.piece.now = length-append bytes c.args.piece.now in
    let count : c.len-before.result ≡ length bytes = search rules in
    let room = c.if-piece-before.false in
    let said = messages_said bytes c.self.inside.messages c.self.invariant.1 in
    let few : length (bytes ++ c.args.piece.now) < 2 ^ 31 = omega (arith, long, count, room, said.0) in
    let sum = more_messages bytes c.args.piece.now rest c.self.inside.end c.self.invariant.0 are in
    let sound : broken_by (frames_of (bytes ++ c.args.piece.now)).fault ≡ None = more_broken bytes c.args.piece.now rest c.self.inside.end c.self.invariant.0 are ∙ c.in-Ok.ensures.sound in
    let count_is : c.self.inside.messages + c.in-Ok.front.messages ≡ length (frames_of (bytes ++ c.args.piece.now)).items = omega (arith, sum, said.2, c.in-Ok.ensures.messages) in
    ap (λ (b : List ℕ). messages_in (b ++ c.args.piece.now)) (sym c.self.view_is) ∙ messages_are (bytes ++ c.args.piece.now) (c.self.inside.messages + c.in-Ok.front.messages) few sound count_is

pub returns-in-Err-clause-exact : goal.returns-in-Err-clause-exact
returns-in-Err-clause-exact c =
    let bytes : List ℕ = c.self.inside.bytes.items in
    let is : c.deref.result.now ≡ bytes ++ c.args.piece.now = search rules in
    let rest : List ℕ = take (length c.deref.result.now - c.self.inside.end) (drop c.self.inside.end c.deref.result.now) in
    let are : rest ≡ take (length (bytes ++ c.args.piece.now) - c.self.inside.end) (drop c.self.inside.end (bytes ++ c.args.piece.now)) =
    ap (λ (b : List ℕ). take (length b - c.self.inside.end) (drop c.self.inside.end b)) is in
    let long : length (bytes ++ c.args.piece.now) ≡ length bytes + length c.args.piece.now = length-append bytes c.args.piece.now in
    let count : c.len-before.result ≡ length bytes = search rules in
    let room = c.if-piece-before.false in
    let said = messages_said bytes c.self.inside.messages c.self.invariant.1 in
    let few : length (bytes ++ c.args.piece.now) < 2 ^ 31 = omega (arith, long, count, room, said.0) in
    let broken : broken_by (frames_of (bytes ++ c.args.piece.now)).fault ≡ Some c.in-Err.fault = more_broken bytes c.args.piece.now rest c.self.inside.end c.self.invariant.0 are ∙ c.in-Err.ensures.refused in
    subst (λ (b : List ℕ). Refuses meant_of c.in-Err.fault (messages_in (b ++ c.args.piece.now))) c.self.view_is
    (refuses_broken c.in-Err.fault (bytes ++ c.args.piece.now) broken (messages_broken (bytes ++ c.args.piece.now) c.in-Err.fault few broken))
