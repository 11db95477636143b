use Rattle.std.proofs.Common.{map, refl, arith}
use Rattle.std.proofs.lemmas.Grind.{common_steps}
use Rattle.pk_copy.specs.KeyValue.{KeyValue}
use Rattle.source_feed.specs.History.{RowValue}
use Rattle.source_feed.specs.Image.{lent_row}
use Rattle.board_laws.proofs.Lookups.{all-at}
use Rattle.apply_core.specs.Private.Changes.{IsOfTable}
use Rattle.apply_core.proofs.StreamLaws.{item_at}
use Rattle.apply_core.proofs.PutLaws.{put-by_rows, rising-by_rows}
use Rattle.apply_core.proofs.puts.puts_of_rows.Goals as goal

pub owned-requires : goal.owned-requires
owned-requires c =
    all-at (λ (row : KeyValue × RowValue). IsOfTable c.args.plan.now row.0 row.1) (map lent_row c.args.rows.now) c.loop-key.key-index (lent_row c.loop-key-item.result) c.requires.of_tables
    (item_at lent_row c.args.rows.now c.loop-key.key-index c.loop-key-item.result (lent_row c.loop-key-item.result) (omega (arith, c.loop-key-test.true)) c.loop-key-item.is refl)

pub returns-clause-put : goal.returns-clause-put
returns-clause-put c = put-by_rows c.args.plan.now c.args.rows.now c.loop-key.puts.items (grind (arith, common_steps)) c.requires.rising

pub returns-clause-rising : goal.returns-clause-rising
returns-clause-rising c = rising-by_rows c.args.plan.now c.args.rows.now c.loop-key.puts.items (grind (arith, common_steps)) c.requires.rising
