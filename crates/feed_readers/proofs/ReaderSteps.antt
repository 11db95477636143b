-- Each step of a pass keeps the rule of a reader's channel.
use Rattle.std.proofs.Common.{◌≡◌, ℕ, List, [], ◌∷◌, ◌++◌, map, refl}
use Rattle.crossbeam_channel.specs.Fifo.{Pushes, Pops}
use Rattle.source_feed.specs.Planned.{FeedValue}
use Rattle.source_feed.specs.Touches.{PreparedValue}
use Rattle.feed_readers.specs.ReaderRule.{SideOf, Reads, Works, last_sent, MaySend, AreGroupsOf, IsSent, IsReceived}
use Rattle.feed_readers.specs.Ahead.{IsGroupOf}

module _ {T : Type 0} (value : T → PreparedValue) (feed : FeedValue) where
  pushed : (items : List T) (x : T) → AreGroupsOf feed (map value items) → IsGroupOf feed (value x) → AreGroupsOf feed (map value (items ++ x ∷ []))
  pushed [] x all one = (one, tt)
  pushed (y ∷ items) x all one = (all.0, pushed items x all.1 one)

  pub sends : (n pass : ℕ) (v : SideOf) (x : T) → v ≡ Reads (last_sent v) → MaySend v (value x).number → IsGroupOf feed (value x)
      → Pushes (λ (items : List T) (views : List SideOf). AreGroupsOf feed (map value items)) n pass v x (λ w. IsSent feed v (value x) w)
  sends n pass v x reads next one items views room h at = (Reads (value x).number, pushed items x h one, record { reads = reads; next = next; prepared = one; sent = refl })

  pub receives : (pass : ℕ) (v : SideOf) → v ≡ Works
      → Pops (λ (items : List T) (views : List SideOf). AreGroupsOf feed (map value items)) pass v (λ x w. IsReceived feed v (value x) w)
  receives pass v works x items views h at = (v, h.1, record { works = works; same = refl; prepared = h.0 })
