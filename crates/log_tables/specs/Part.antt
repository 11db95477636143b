-- Parts of an event's body: so many bytes; a number that tells its own size; bytes behind their count (MySQL
-- internals manual, "Protocol::LengthEncodedInteger" and "Protocol::LengthEncodedString").
use Rattle.std.specs.Prelude.{ℕ, ◌==◌, if◌then◌else◌, nat_lt, List, [], ◌∷◌, length, take, drop, Result, Ok, Err}
use Rattle.list_laws.specs.Outcome.{◌>>=◌}
use Rattle.log_events.specs.Number.{number}
use Rattle.log_tables.specs.declared.fault.TableFault.{TableFault}
use Rattle.log_tables.specs.declared.fault.TableFault.TheVariants.{CutBody}

-- so many bytes, and the others
abbrev pub front_at : ℕ → List ℕ → Result (List ℕ × List ℕ) TableFault
front_at n bytes = if nat_lt (length bytes) n then Err CutBody else Ok (take n bytes, drop n bytes)

-- a number of so many bytes, and what stands behind it
abbrev pub wide_at : ℕ → List ℕ → Result (ℕ × List ℕ) TableFault
wide_at size bytes = if nat_lt (length bytes) size then Err CutBody else Ok (number 0 size bytes, drop size bytes)

-- A number that tells its own size, and what stands behind it: below 251 a byte is the number itself; 252, 253
-- and 254 are followed by one of 2, 3 and 8 bytes. No number begins by 251 or 255.
unfoldable pub packed_at : List ℕ → Result (ℕ × List ℕ) TableFault
packed_at [] = Err CutBody
packed_at (first ∷ bytes) =
    if nat_lt first 251 then Ok (first, bytes) else
    if first == 252 then wide_at 2 bytes else if first == 253 then wide_at 3 bytes else if first == 254 then wide_at 8 bytes else Err CutBody

-- the bytes behind their count, and what stands behind them
unfoldable pub counted_at : List ℕ → Result (List ℕ × List ℕ) TableFault
counted_at bytes = packed_at bytes >>= λ count. front_at count.0 count.1
