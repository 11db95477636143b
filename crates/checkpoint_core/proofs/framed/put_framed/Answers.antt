use Rattle.std.proofs.Common.{map, length, ap, arith}
use Rattle.std.proofs.lemmas.List.{length-append}
use Rattle.vevent.specs.ContentView.{table_content}
use Rattle.vevent.specs.WrittenPart.{written_stream_part}
use Rattle.checkpoint_core.proofs.framed.put_framed.Goals as goal

pub make_frame-requires : goal.make_frame-requires
make_frame-requires c =
    omega (arith, c.len-start.ensures, c.args.out.now.ok.0, ap length c.in_ok-put_stream_part.ensures, length-append c.args.out.now.items (written_stream_part (record { shard = c.args.shard.now; tables = map table_content c.args.tables.now })))

pub returns : goal.returns
returns c =
    c.in_ok-make_frame.ensures c.args.out.now.items (written_stream_part (record { shard = c.args.shard.now; tables = map table_content c.args.tables.now }))
    (omega (arith, c.len-start.ensures, c.args.out.now.ok.0)) c.in_ok-put_stream_part.ensures
