use Rattle.log_events.proofs.CrcAhead.{four_told}
use Rattle.log_events.proofs.crc.CrcTable.four_ahead.Goals as goal

pub returns : goal.returns
returns c =
    four_told c.args.a c.args.b c.args.c c.args.d c.requires.first c.requires.second c.requires.third c.requires.fourth
    c.args.further c.entry.result c.entry-2.result c.entry-3.result c.entry-4.result c.entry.ensures c.entry-2.ensures c.entry-3.ensures c.entry-4.ensures
