use Rattle.std.proofs.Common.{rules}
use Rattle.vevent.specs.Event.{accepted_at}
use Rattle.vevent.proofs.event.accept.Goals as goal

pub returns-clause-held : goal.returns-clause-held
unfolding accepted_at
returns-clause-held c = search rules

pub returns-clause-kind : goal.returns-clause-kind
unfolding accepted_at
returns-clause-kind c = search rules

pub returns-clause-sound : goal.returns-clause-sound
unfolding accepted_at
returns-clause-sound c = search rules

pub returns-in-Some-clause-kind : goal.returns-in-Some-clause-kind
unfolding accepted_at
returns-in-Some-clause-kind c = search rules

pub returns-in_err-kind-clause-kind : goal.returns-in_err-kind-clause-kind
unfolding accepted_at
returns-in_err-kind-clause-kind c = search rules

pub returns-then-not-are_used_texts-clause-kind : goal.returns-then-not-are_used_texts-clause-kind
unfolding accepted_at
returns-then-not-are_used_texts-clause-kind c = search rules

pub returns-then-parts-clause-kind : goal.returns-then-parts-clause-kind
unfolding accepted_at
returns-then-parts-clause-kind c = search rules
