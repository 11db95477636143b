use Rattle.std.proofs.Common.{◌≡◌, ◌++◌}
use Rattle.serde_json.specs.View.{members_view}
use Rattle.workflow_check.specs.Ignored.{others_of}
use Rattle.workflow_check.proofs.ignored.push_members.Given as goal

-- the notes so far, and those of the members that are left, are the whole
abbrev pub invariant-loop-key : goal.invariant-loop-key
invariant-loop-key l = l.notes.items ++ others_of l.object l.path (members_view l.key-iterator) ≡ l.fn.notes.items ++ others_of l.object l.path (members_view l.fn.members.entries)
