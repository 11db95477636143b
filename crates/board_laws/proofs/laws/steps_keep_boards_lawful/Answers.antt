use Rattle.std.proofs.Common.{sym, ap, Option}
use Rattle.pk_copy.specs.KeyOrder.{key_cmp}
use Rattle.target_tables.specs.Contents.{value_at}
use Rattle.target_tables.specs.Touches.{touched, owner_in_the_way}
use Rattle.source_feed.specs.History.{RowValue}
use Rattle.board_laws.proofs.Sound.{sound-after}
use Rattle.board_laws.proofs.Making.{step-made, clash-of_cut}
use Rattle.board_laws.proofs.History.{short}
use Rattle.board_laws.proofs.laws.steps_keep_boards_lawful.Goals as goal

pub returns-clause-touches : goal.returns-clause-touches
returns-clause-touches c old s state event rows may clear made rising =
    step-made (λ a b. (c.keys_tie_where_they_are_equal.ensures a b).0) old may.lawful s state may.stream event may.allowed c.keys_read_are_table_keys.ensures.of_rows rows may.prepared clear made rising

pub returns-clause-still : goal.returns-clause-still
returns-clause-still c old s state event may still =
    step-made (λ a b. (c.keys_tie_where_they_are_equal.ensures a b).0) old may.lawful s state may.stream event may.allowed c.keys_read_are_table_keys.ensures.of_rows old.rows may.prepared
    (λ key. ap (λ (t : Option (Option RowValue)). owner_in_the_way s t (value_at key_cmp old.rows key)) (still key))
    (λ key. sym (ap (λ (t : Option (Option RowValue)). touched s t (value_at key_cmp old.rows key)) (still key)))
    may.lawful.rising

pub returns-clause-clashes : goal.returns-clause-clashes
returns-clause-clashes c old s state event key owner may clash =
    clash-of_cut (λ a b. (c.keys_tie_where_they_are_equal.ensures a b).0) old may.lawful s state may.stream event may.allowed key owner clash

pub returns-clause-sound : goal.returns-clause-sound
returns-clause-sound c state event sound allowed prepared = sound-after (λ a b. (c.keys_tie_where_they_are_equal.ensures a b).0) c.keys_read_are_table_keys.ensures.of_rows state event sound allowed prepared

pub returns-clause-short : goal.returns-clause-short
returns-clause-short c = short
