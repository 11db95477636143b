-- What a course says of the events so far, and of a feed of which some messages were passed.
use Rattle.std.specs.Prelude.{◌≡◌, ◌⊎◌, ℕ, ◌+◌, ◌<◌, List, [], ◌++◌, length, map, reverse, true, Ok, IfSome}
use Rattle.std.specs.Option.{option_map}
use Rattle.proto_wire.specs.Varint.{IsVarint}
use Rattle.vevent.specs.Event.{event_at}
use Rattle.vevent.specs.EventValue.{EventValue}
use Rattle.source_feed.specs.Groups.{Block, seen, groups_of}
use Rattle.source_feed.specs.PastEvents.{PastEvents, is_open, body_position}
use Rattle.source_feed.specs.SourceValue.{SourceValue}
use Rattle.event_laws.specs.Cuts.{IsCut}
use Rattle.event_laws.specs.Laws.{HaveEvents}
use Rattle.feed_bytes.specs.Cut.{CarriesPosition}
use Rattle.feed_bytes.specs.FieldBytes.{AreInForce}
use Rattle.feed_bytes.specs.Private.Course.{CourseValue, Walk}

-- the first message of some bytes behind its length, and the bytes behind it
pub record IsNextMessage (bytes message rest : List ℕ) : Type 0 where
  pub size : List ℕ
  pub sized : IsVarint size (length message)
  pub parts : bytes ≡ (size ++ message) ++ rest

-- the course says what these events say, with so many groups up to the cut
pub record IsBehind (source : SourceValue) (number : ℕ) (past : PastEvents) (course : CourseValue) : Type 0 where
  pub inside : course.inside ≡ is_open past
  pub body : is_open past ≡ true → option_map (λ p. p.position) course.place ≡ body_position source past
  pub placed : IfSome course.place (λ p. CarriesPosition source p.event p.position)
  pub reached : course.reached ≡ seen source past
  pub last : (groups_of source past ≡ []) ⊎ CarriesPosition source course.last course.reached
  pub left : course.left + length (groups_of source past) ≡ number
  pub fields : AreInForce source past course.fields

-- the cut stands among some more events, behind which others are left
pub record StopsAt (source : SourceValue) (number : ℕ) (earlier : PastEvents) (events : List EventValue) (walk : Walk) : Type 0 where
  pub front : List EventValue
  pub behind : List EventValue
  pub are : events ≡ front ++ behind
  pub read : map event_at walk.rest ≡ map Ok behind
  pub at : IsBehind source number (reverse front ++ earlier) walk.course
  pub none : walk.course.left ≡ 0
  pub block : Block
  pub cut : IsCut source (reverse front ++ earlier) block

-- it doesn't, and all of them are passed
pub record GoesBy (source : SourceValue) (number : ℕ) (earlier : PastEvents) (events : List EventValue) (walk : Walk) : Type 0 where
  pub at : IsBehind source number (reverse events ++ earlier) walk.course
  pub more : 0 < walk.course.left

-- messages of a feed were passed before the cut, and this is left of its bytes
pub record IsSought (source : SourceValue) (number : ℕ) (events : List EventValue) (course : CourseValue) (rest : List ℕ) : Type 0 where
  pub before : List EventValue
  pub later : List EventValue
  pub are : events ≡ before ++ later
  pub have : HaveEvents rest later
  pub at : IsBehind source number (reverse before) course
  pub more : 0 < course.left
