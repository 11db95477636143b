use Rattle.std.proofs.Common.{◌≤◌, length}
use Rattle.std.specs.Io.KnownBytes.{Consumes}
use Rattle.grown_file.proofs.reading.read_up_to.Given as goal

-- what was read so far is no more than is to be read
abbrev pub invariant-loop-read : goal.invariant-loop-read
invariant-loop-read g l =
    Consumes (g.R.Read.remaining l.initial.input) (g.R.Read.remaining l.input) l.bytes.items
    × (length l.bytes.items ≤ l.most)
