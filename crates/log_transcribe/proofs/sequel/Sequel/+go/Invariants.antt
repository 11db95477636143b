use Rattle.std.proofs.Common.{◌+◌, ◌-◌, ◌*◌}
use Rattle.log_transcribe.proofs.sequel.Sequel.+go.Given as goal

-- a file's bytes are told behind its reading
abbrev pub decreases-send_bytes : goal.decreases-send_bytes
decreases-send_bytes g l = 2 * (g.L.LogFiles.many l.files.now - l.file)

abbrev pub decreases-send_file : goal.decreases-send_file
decreases-send_file g l = 2 * (g.L.LogFiles.many l.files.now - l.file) + 1
