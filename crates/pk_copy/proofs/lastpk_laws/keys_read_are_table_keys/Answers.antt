use Rattle.pk_copy.proofs.LastpkLaws.{keys_of_rows, keys_read}
use Rattle.pk_copy.proofs.lastpk_laws.keys_read_are_table_keys.Goals as goal

pub returns-clause-of_rows : goal.returns-clause-of_rows
returns-clause-of_rows c = keys_of_rows c.shortest_texts_are_read_back.ensures

pub returns-clause-of_key_columns : goal.returns-clause-of_key_columns
returns-clause-of_key_columns c = keys_read c.shortest_texts_are_read_back.ensures
