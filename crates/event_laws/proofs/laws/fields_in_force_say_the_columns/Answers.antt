use Rattle.event_laws.proofs.InForceLaws.{say_the_columns}
use Rattle.event_laws.proofs.laws.fields_in_force_say_the_columns.Goals as goal

pub returns : goal.returns
returns c = say_the_columns
