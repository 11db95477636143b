use Rattle.std.proofs.Common.{refl, subst}
use Rattle.apply_core.specs.declared.joining.JoinSource.TheVariants.{First, Second}
use Rattle.apply_core.specs.Private.Together.{IsJoinSource}
use Rattle.apply_core.proofs.JoinLaws.{first_joined, second_joined}
use Rattle.apply_core.proofs.joining.join_by_source.Goals as goal

pub returns-in-Err-clause-handed_back : goal.returns-in-Err-clause-handed_back
returns-in-Err-clause-handed_back c = (refl, refl)

pub returns-in-Ok-First-clause-joined : goal.returns-in-Ok-First-clause-joined
returns-in-Ok-First-clause-joined c =
    let from : IsJoinSource c.args.a c.args.b First = subst (IsJoinSource c.args.a c.args.b) c.in-Ok-First.field-0-is c.in-Ok-First.ensures.ok in
    first_joined c.args.a c.args.b (c.joined_boards_are_lawful.ensures.one c.args.a c.is_lawful.ensures).1 from

pub returns-in-Ok-Second-clause-joined : goal.returns-in-Ok-Second-clause-joined
returns-in-Ok-Second-clause-joined c =
    let from : IsJoinSource c.args.a c.args.b Second = subst (IsJoinSource c.args.a c.args.b) c.in-Ok-Second.field-0-is c.in-Ok-Second.ensures.ok in
    second_joined c.args.a c.args.b (c.joined_boards_are_lawful.ensures.one c.args.b c.is_lawful-2.ensures).1 from
