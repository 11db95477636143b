use Rattle.std.proofs.Common.{refl, inl, inr}
use Rattle.std.specs.Prelude.{option_copied}
use Rattle.vevent.proofs.SoundRows.{found_is_sound}
use Rattle.vevent.proofs.row_event.row_change.Goals as goal

pub row_found-requires : goal.row_found-requires
row_found-requires c = found_is_sound 1 c.args.message.now (option_copied c.rows_in-rows.result.before) (inl refl) c.requires c.rows_in-rows.ensures.before

pub row_found-requires-2 : goal.row_found-requires-2
row_found-requires-2 c = found_is_sound 2 c.args.message.now (option_copied c.rows_in-rows.result.after) (inr refl) c.requires c.rows_in-rows.ensures.after
