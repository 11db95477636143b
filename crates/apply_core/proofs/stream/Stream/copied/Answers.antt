use Rattle.apply_core.proofs.CopyLaws.{key-past, moved-stream}
use Rattle.apply_core.proofs.stream.Stream.copied.Goals as goal

pub move_to-requires : goal.move_to-requires
move_to-requires c =
    key-past _ _ c.self-else-copied.view_is c.args._c c.args.step c.requires.moves c.in-Some.key c.in-Some.is
    (λ a b tie. (c.keys_tie_where_they_are_equal.ensures a b).0 tie)

pub invariant_of-self-in-Some : goal.invariant_of-self-in-Some
invariant_of-self-in-Some c =
    moved-stream _ _ c.self-else-copied.view_is c.args._c c.args.step c.requires.moves c.in-Some.key c.in-Some.is _ c.move_to.ensures.moved c.if-copied.false
    c.steps_keep_boards_lawful.ensures.sound c.requires.allowed _ _ _ c.self-else-copied.invariant
