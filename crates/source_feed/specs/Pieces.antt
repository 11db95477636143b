-- A feed that comes in pieces: which of its bytes are whole messages, and which pieces aren't taken (this
-- profile). Nothing here says how the bytes were cut into pieces: only what they are together.
use Rattle.std.specs.Prelude.{◌≡◌, ℕ, ◌^◌, ◌≤◌, List, ◌++◌, Bool, true, false, not, Option, None, Some, Result, Ok, length, take, nat_lt, if◌then◌else◌}
use Rattle.list_laws.specs.Outcome.{◌>>=◌, unless, refused_if}
use Rattle.proto_wire.specs.Frame.{frames_of}
use Rattle.proto_wire.specs.declared.fault.FrameFault.{FrameFault}
use Rattle.proto_wire.specs.declared.fault.WireFault.{WireFault}
use Rattle.proto_wire.specs.declared.fault.WireFault.TheVariants.{VarintTooLong}
use Rattle.source_feed.specs.declared.fault.FeedFault.{FeedFault}
use Rattle.source_feed.specs.declared.fault.FeedFault.TheVariants.{FeedTooLong, Frame}

-- the bytes are messages one after another, none of them cut short or broken
abbrev pub AreWhole : List ℕ → Type 0
AreWhole bytes = (frames_of bytes).fault ≡ None

-- the longest beginning of the bytes that is whole messages
pub record IsLongestWhole (bytes whole : List ℕ) : Type 0 where
  pub rest : List ℕ
  pub parts : bytes ≡ whole ++ rest
  pub messages : AreWhole whole
  pub longest : (longer behind : List ℕ) → bytes ≡ longer ++ behind → AreWhole longer → length longer ≤ length whole

-- the longest beginning that is whole messages ends at this place
pub record IsWholeFront (bytes : List ℕ) (end : ℕ) : Type 0 where
  pub within : end ≤ length bytes
  pub longest : IsLongestWhole bytes (take end bytes)

-- a length that no further byte makes a varint; what is only cut short may still come
abbrev pub is_no_length : WireFault → Bool
is_no_length VarintTooLong = true
is_no_length cause = false

-- why no further piece can make a message of what stands behind the whole ones, where that is so
abbrev pub broken_by : Option FrameFault → Option FeedFault
broken_by None = None
broken_by (Some fault) = if is_no_length fault.cause then Some Frame else None

-- how many whole messages begin some pieces, put together; refused above the limit, before all else, and
-- where a length is no varint
abbrev pub messages_in : List ℕ → Result ℕ FeedFault
messages_in bytes =
    refused_if (not (nat_lt (length bytes) (2 ^ 31))) FeedTooLong >>= λ _.
    unless (broken_by (frames_of bytes).fault) >>= λ _.
    Ok (length (frames_of bytes).items)

-- ---- the law

-- There is one longest beginning at most, so however the bytes were cut it is the same one; and its messages
-- are those that begin all of the bytes.
pub record WholeByBytes (bytes : List ℕ) : Type 0 where
  pub one : (whole other : List ℕ) → IsLongestWhole bytes whole → IsLongestWhole bytes other → whole ≡ other
  pub counted : (whole : List ℕ) → IsLongestWhole bytes whole → (frames_of whole).items ≡ (frames_of bytes).items
