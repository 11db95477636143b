-- What the parts of a checkpoint say of streams, put together of what was read of them.
use Rattle.std.proofs.Common.{◌≡◌, ◌≢◌, ℕ, suc, ◌+◌, ◌<◌, ◌≤◌, inl, inr, List, [], ◌∷◌, ◌++◌, length, map, Some, None, true, false, Result, Ok, Err, slice_get, append_assoc, append-nil, refl, sym, ap, subst, ◌∙◌, arith}
use Rattle.std.proofs.lemmas.List.{append_cancel_left, map-append, length-map, length-append}
use Rattle.std.proofs.lemmas.Option.{same_Some, none-some, slice_get_within}
use Rattle.std.specs.Prelude.{IfOk, IfErr}
use Rattle.std.specs.Result.{result_ok, is_err}
use Rattle.list_laws.proofs.Places.{place_of, slice_get-push}
use Rattle.filter_rule.specs.PlanValue.{PlanValue}
use Rattle.proto_wire.specs.declared.fault.FrameFault.{FrameFault}
use Rattle.proto_wire.specs.Frame.{frames_of}
use Rattle.proto_wire.specs.Reading.{Reading}
use Rattle.source_feed.specs.GroupValue.{Position}
use Rattle.vevent.specs.declared.fault.EventFault.{EventFault}
use Rattle.vevent.specs.CheckpointPart.{TablePartValue, StreamPartValue, stream_part_at}
use Rattle.checkpoint_laws.specs.declared.version.Version.{Version}
use Rattle.checkpoint_laws.specs.declared.version.Version.TheVariants.{One, Two}
use Rattle.checkpoint_laws.specs.Saved.{SavedStream}
use Rattle.checkpoint_laws.specs.Said.{AreStreamParts, IsNamed, SaysTable, AreSoMany, SaysStream, HaveAsMany, IsCheckpoint}
use Rattle.checkpoint_laws.specs.Written.{opening}
use Rattle.checkpoint_laws.proofs.OneThing.{one_version, same_parts}
use Rattle.checkpoint_core.specs.Fault.{IsNothing}
use Rattle.checkpoint_core.specs.declared.fault.ReadFault.{ReadFault}
use Rattle.checkpoint_core.specs.declared.fault.ReadFault.TheVariants.{Broken}
use Rattle.checkpoint_core.specs.Private.Reading.{OfEachTable, IsPartOf, AreFramed, AreSoManyParts, IsAtPosition, HasHead, SaysMark, AreMarksOf, AreRows, rows_from, SayTables, SayStreams}
use Rattle.checkpoint_core.proofs.RowLaws.{rows_said, rows_bare, rows_only}

-- ---- parts

abbrev Read : Type 0
Read = Result StreamPartValue EventFault

abbrev oks : List StreamPartValue → List Read
oks parts = map Ok parts

-- the frames so far are these parts, and the others are still to come
pub record AreParted (bytes : List ℕ) (frames : Reading (List ℕ) FrameFault) (parts : List StreamPartValue) : Type 0 where
  pub fault : frames.fault ≡ (frames_of bytes).fault
  pub items : map stream_part_at (frames_of bytes).items ≡ map Ok parts ++ map stream_part_at frames.items

pub no_part_yet : (bytes : List ℕ) (frames : Reading (List ℕ) FrameFault) (parts : List StreamPartValue) → frames ≡ frames_of bytes → parts ≡ [] → AreParted bytes frames parts
no_part_yet bytes frames parts is none = record {
  fault = ap (λ (r : Reading (List ℕ) FrameFault). r.fault) is;
  items = ap (λ (r : Reading (List ℕ) FrameFault). map stream_part_at r.items) (sym is) ∙ ap (λ (ps : List StreamPartValue). oks ps ++ map stream_part_at frames.items) (sym none);
}

-- so many parts have been read
pub record ReadsParts (bytes : List ℕ) (frames : Reading (List ℕ) FrameFault) (count : ℕ) : Type 0 where
  pub parts : List StreamPartValue
  pub are : AreParted bytes frames parts
  pub many : length parts ≡ count

pub one_part_more : (bytes message : List ℕ) (old new : Reading (List ℕ) FrameFault) (parts more : List StreamPartValue) (part : StreamPartValue) → AreParted bytes old parts
    → old.items ≡ message ∷ new.items → old.fault ≡ new.fault → stream_part_at message ≡ Ok part → more ≡ parts ++ part ∷ [] → AreParted bytes new more
one_part_more bytes message old new parts more part are items fault is pushed = record {
  fault = sym fault ∙ are.fault;
  items =
      are.items
      ∙ ap (λ (ms : List (List ℕ)). oks parts ++ map stream_part_at ms) items
      ∙ ap (λ (r : Read). oks parts ++ r ∷ map stream_part_at new.items) is
      ∙ sym (append_assoc (oks parts) (Ok part ∷ []) (map stream_part_at new.items))
      ∙ ap (λ (rs : List Read). rs ++ map stream_part_at new.items) (sym (map-append Ok parts (part ∷ [])) ∙ ap oks (sym pushed));
}

pub reads_more : (bytes message : List ℕ) (old new : Reading (List ℕ) FrameFault) (count : ℕ) (part : StreamPartValue) → ReadsParts bytes old count
    → old.items ≡ message ∷ new.items → old.fault ≡ new.fault → stream_part_at message ≡ Ok part → ReadsParts bytes new (count + 1)
reads_more bytes message old new count part reads items fault is = record {
  parts = reads.parts ++ part ∷ [];
  are = one_part_more bytes message old new reads.parts (reads.parts ++ part ∷ []) part reads.are items fault is refl;
  many = let one : length (reads.parts ++ part ∷ []) ≡ length reads.parts + 1 = length-append reads.parts (part ∷ []) in omega (arith, one, reads.many);
}

pub all_parts : (bytes : List ℕ) (count : ℕ) (frames : Reading (List ℕ) FrameFault) (parts : List StreamPartValue) → AreParted bytes frames parts → frames.items ≡ [] → frames.fault ≡ None → length parts ≡ count
    → AreFramed bytes count parts
all_parts bytes count frames parts are none ended long = record {
  messages = (frames_of bytes).items;
  framed = λ i. record { items = (frames_of bytes).items; fault = (sym are.fault ∙ ended) i };
  read = are.items ∙ ap (λ (ms : List (List ℕ)). oks parts ++ map stream_part_at ms) none ∙ append-nil (oks parts);
  long = long;
}

module _ (bytes : List ℕ) (count : ℕ) (frames : Reading (List ℕ) FrameFault) (parts : List StreamPartValue) (are : AreParted bytes frames parts) (others : List StreamPartValue) (h : AreFramed bytes count others) where
  messages : h.messages ≡ (frames_of bytes).items
  messages = ap (λ (r : Reading (List ℕ) FrameFault). r.items) (sym h.framed)

  read : oks others ≡ oks parts ++ map stream_part_at frames.items
  read = sym h.read ∙ ap (map stream_part_at) messages ∙ are.items

  lengths : length others ≡ length parts + length frames.items
  lengths =
      sym (length-map others Ok) ∙ ap length read
      ∙ length-append (oks parts) (map stream_part_at frames.items)
      ∙ ap (λ n. n + length (map stream_part_at frames.items)) (length-map parts Ok)
      ∙ ap (λ n. length parts + n) (length-map frames.items stream_part_at)

  -- a frame that is broken
  pub no_broken_frame : (fault : FrameFault) → frames.fault ≡ Some fault → ⊥
  no_broken_frame fault is = none-some fault (ap (λ (r : Reading (List ℕ) FrameFault). r.fault) (sym h.framed) ∙ sym are.fault ∙ is)

  -- too few parts
  pub no_fewer : frames.items ≡ [] → length parts ≢ count → ⊥
  no_fewer none other =
      let long : length frames.items ≡ 0 = ap length none in
      let all : length others ≡ count = h.long in
      let both : length others ≡ length parts + length frames.items = lengths in
      other (omega (arith, long, all, both))

  -- too many
  pub no_more : (message : List ℕ) (rest : List (List ℕ)) → frames.items ≡ message ∷ rest → length parts ≡ count → ⊥
  no_more message rest is long =
      let some : length frames.items ≡ suc (length rest) = ap length is in
      let all : length others ≡ count = h.long in
      let both : length others ≡ length parts + length frames.items = lengths in
      omega (arith, long, some, all, both)

  -- a message that is no part
  pub no_broken_part : (message : List ℕ) (rest : List (List ℕ)) → frames.items ≡ message ∷ rest → ((part : StreamPartValue) → ¬ IsPartOf message part) → ⊥
  no_broken_part message rest is none = by parts others (read ∙ ap (λ (ms : List (List ℕ)). oks parts ++ map stream_part_at ms) is)
    where
      by : (ps os : List StreamPartValue) → oks os ≡ oks ps ++ stream_part_at message ∷ map stream_part_at rest → ⊥
      by [] [] e = none-some (stream_part_at message) (ap (λ (rs : List Read). slice_get rs 0) e)
      by [] (o ∷ os) e = none o (sym (same_Some (Ok o) (stream_part_at message) (ap (λ (rs : List Read). slice_get rs 0) e)))
      by (p ∷ ps) [] e = none-some (Ok p) (ap (λ (rs : List Read). slice_get rs 0) e)
      by (p ∷ ps) (o ∷ os) e = by ps os (ap tail_of e)
        where
          tail_of : List Read → List Read
          tail_of [] = []
          tail_of (r ∷ rs) = rs

pub none_with_broken : (bytes : List ℕ) (count : ℕ) (frames : Reading (List ℕ) FrameFault) (many : ℕ) (message : List ℕ) (rest : List (List ℕ)) → ReadsParts bytes frames many → frames.items ≡ message ∷ rest → ((part : StreamPartValue) → ¬ IsPartOf message part)
    → (others : List StreamPartValue) → ¬ AreFramed bytes count others
none_with_broken bytes count frames many message rest reads is none others h = no_broken_part bytes count frames reads.parts reads.are others h message rest is none

-- what is known of a message by whether it is a part
pub nothing_read : {X A : Type 0} (P : A → Type 0) (r : Result X ReadFault) → is_err r ≡ true → IfErr r (IsNothing P) → IfErr r (λ fault. fault ≡ Broken) → (x : A) → ¬ P x
nothing_read P (Ok y) e none broken = λ x h. cc
nothing_read P (Err fault) e none broken = subst (λ f. IsNothing P f) broken none

pub something_read : {A : Type 0} {P : A → Type 0} (r : Result A ReadFault) → is_err r ≡ false → IfOk r P → (x : A) × P x
something_read (Ok x) e is = (x, is)
something_read (Err fault) e is = absurd cc

pub parts_there : (version : Version) (bytes rest : List ℕ) (count : ℕ) (parts : List StreamPartValue) → bytes ≡ opening version ++ rest → AreFramed rest count parts → AreSoManyParts version bytes count parts
parts_there version bytes rest count parts opened framed = record {
  are = record { rest = rest; opened = opened; messages = framed.messages; framed = framed.framed; read = framed.read };
  long = framed.long;
}

pub parts_framed : (version other : Version) (bytes rest : List ℕ) (count : ℕ) (parts : List StreamPartValue) → bytes ≡ opening version ++ rest → AreSoManyParts other bytes count parts → AreFramed rest count parts
parts_framed version other bytes rest count parts opened h =
    let same : other ≡ version = one_version bytes other version h.are.rest rest h.are.opened opened in
    let also : bytes ≡ opening version ++ h.are.rest = subst (λ (v : Version). bytes ≡ opening v ++ h.are.rest) same h.are.opened in
    record {
      messages = h.are.messages;
      framed = ap frames_of (append_cancel_left (opening version) rest h.are.rest (sym opened ∙ also)) ∙ h.are.framed;
      read = h.are.read;
      long = h.long;
    }

-- ---- a stream

pub tables_said : (version : Version) (plan : PlanValue) (tables : List TablePartValue) (saved : SavedStream) → OfEachTable (IsNamed version plan) tables → OfEachTable (HasHead plan saved.position) tables → AreMarksOf plan tables saved.marks
    → AreRows plan (rows_from 0 tables) saved.rows → SayTables version plan tables saved
tables_said version plan tables saved names heads marks rows = record {
  sound = record { tables = marks.count; marks = marks.are; upto = marks.upto; rising = rows.rising; keyed = rows.keyed };
  each_table = λ t part there.
      let head : HasHead plan saved.position t part = heads t part there in
      let mark : SaysMark plan t _ part = marks.each_table t part there in
      record {
        named = names t part there;
        mark = mark.number;
        answer = record {
          fields = head.fields;
          key_fields = head.key_fields;
          position = head.stands;
          rows = rows_said plan tables saved.rows rows t part there;
          last = mark.last;
        };
      };
  further = marks.further;
  bare = rows_bare plan tables saved.rows rows;
}

module _ (version : Version) (plan : PlanValue) (tables : List TablePartValue) (saved : SavedStream) (says : SayTables version plan tables saved) where
  pub names_of : OfEachTable (IsNamed version plan) tables
  names_of t part there = let one : SaysTable version plan saved t part = says.each_table t part there in one.named

  pub heads_of : OfEachTable (HasHead plan saved.position) tables
  heads_of t part there =
      let one : SaysTable version plan saved t part = says.each_table t part there in
      record { fields = one.answer.fields; key_fields = one.answer.key_fields; stands = one.answer.position }

  pub position_of : OfEachTable (IsAtPosition saved.position) tables
  position_of t part there = let one : SaysTable version plan saved t part = says.each_table t part there in one.answer.position

  pub marks_of : AreMarksOf plan tables saved.marks
  marks_of = record {
    count = says.sound.tables;
    are = says.sound.marks;
    upto = says.sound.upto;
    each_table = λ t part there. let one : SaysTable version plan saved t part = says.each_table t part there in record { number = one.mark; last = one.answer.last };
    further = says.further;
  }

  pub rows_of : AreRows plan (rows_from 0 tables) saved.rows
  rows_of = rows_only plan tables saved.rows says.bare says.sound.rising says.sound.keyed (λ t part there. let one : SaysTable version plan saved t part = says.each_table t part there in one.answer.rows)

  -- it is the position of the first table
  pub position_same : (position : Position) → 1 ≤ length tables → ((part : TablePartValue) → slice_get tables 0 ≡ Some part → IsAtPosition position 0 part) → saved.position ≡ position
  position_same position some first =
      let there : (part : TablePartValue) × (slice_get tables 0 ≡ Some part) = place_of tables 0 some in
      same_Some saved.position position (ap result_ok (sym (position_of 0 there.0 there.1) ∙ first there.0 there.1))

  -- so all tables have that one
  pub heads_at : (position : Position) → 1 ≤ length tables → ((part : TablePartValue) → slice_get tables 0 ≡ Some part → IsAtPosition position 0 part) → OfEachTable (HasHead plan position) tables
  heads_at position some first = subst (λ (p : Position). OfEachTable (HasHead plan p) tables) (position_same position some first) heads_of

pub stream_said : (version : Version) (plan : PlanValue) (part : StreamPartValue) (tables : List TablePartValue) (saved : SavedStream) → part.shard ≡ plan.shard → AreSoMany version plan (length part.tables) → tables ≡ part.tables
    → SayTables version plan tables saved → SaysStream version plan saved part
stream_said version plan part tables saved shard many are said =
    let says : SayTables version plan part.tables saved = subst (λ (ts : List TablePartValue). SayTables version plan ts saved) are said in
    record { sound = says.sound; shard = shard; count = many; each_table = says.each_table; further = says.further; bare = says.bare }

pub tables_of_said : (version : Version) (plan : PlanValue) (part : StreamPartValue) (tables : List TablePartValue) (saved : SavedStream) → tables ≡ part.tables → SaysStream version plan saved part → SayTables version plan tables saved
tables_of_said version plan part tables saved are says =
    let of_part : SayTables version plan part.tables saved = record { sound = says.sound; each_table = says.each_table; further = says.further; bare = says.bare } in
    subst (λ (ts : List TablePartValue). SayTables version plan ts saved) (sym are) of_part

-- a part of a table at least, and no more than there are
pub some_tables : (version : Version) (plan : PlanValue) (n : ℕ) → 1 ≤ length plan.tables → AreSoMany version plan n → 1 ≤ n
some_tables One plan n some many = omega (arith, some, many)
some_tables Two plan n some many = many.0

pub few_tables : (version : Version) (plan : PlanValue) (n : ℕ) → AreSoMany version plan n → n ≤ length plan.tables
few_tables One plan n many = omega (arith, many)
few_tables Two plan n many = many.1

-- too many tables are none that a part may have
pub too_many : (version : Version) (plan : PlanValue) (n : ℕ) → length plan.tables < n → AreSoMany version plan n → ⊥
too_many version plan n more many = let few : n ≤ length plan.tables = few_tables version plan n many in omega (arith, more, few)

-- ---- streams

-- the parts of the first s streams say this of them
pub record SayFirst (version : Version) (plans : List PlanValue) (parts : List StreamPartValue) (s : ℕ) (saved : List SavedStream) : Type 0 where
  pub count : length saved ≡ s
  pub each_stream : (i : ℕ) (plan : PlanValue) (one : SavedStream) (part : StreamPartValue)
      → slice_get plans i ≡ Some plan → slice_get saved i ≡ Some one → slice_get parts i ≡ Some part → SaysStream version plan one part

pub say_more : (version : Version) (plans : List PlanValue) (parts : List StreamPartValue) (s : ℕ) (old new : List SavedStream) (plan : PlanValue) (one : SavedStream) (part : StreamPartValue) → slice_get plans s ≡ Some plan
    → slice_get parts s ≡ Some part → SaysStream version plan one part → new ≡ old ++ one ∷ [] → SayFirst version plans parts s old → SayFirst version plans parts (s + 1) new
say_more version plans parts s old new plan one part here at says pushed first = record {
  count = let long : length old ≡ s = first.count in ap length pushed ∙ length-append old (one ∷ []) ∙ ap (λ n. n + 1) long;
  each_stream = λ i plan2 one2 part2 here2 there2 at2. elim (slice_get-push old one one2 i (ap (λ (xs : List SavedStream). slice_get xs i) (sym pushed) ∙ there2)) [
    | inl earlier ↦ first.each_stream i plan2 one2 part2 here2 earlier.1 at2
    | inr last ↦ (
        let is : i ≡ s = last.0 ∙ first.count in
        let plan_is : plan ≡ plan2 = same_Some plan plan2 (sym here ∙ ap (slice_get plans) (sym is) ∙ here2) in
        let part_is : part ≡ part2 = same_Some part part2 (sym at ∙ ap (slice_get parts) (sym is) ∙ at2) in
        subst (λ (p : PlanValue). SaysStream version p one2 part2) plan_is (subst (λ (x : SavedStream). SaysStream version plan x part2) last.1 (subst (SaysStream version plan one) part_is says)))
  ];
}

-- nothing is said of all where nothing is said of one
pub not_one : (version : Version) (plans : List PlanValue) (parts : List StreamPartValue) (s : ℕ) (plan : PlanValue) (part : StreamPartValue) → slice_get plans s ≡ Some plan → slice_get parts s ≡ Some part
    → ((one : SavedStream) → ¬ SaysStream version plan one part) → (saved : List SavedStream) → ¬ SayStreams version plans parts saved
not_one version plans parts s plan part here at none saved says =
    let inside : s < length plans = slice_get_within plans s plan here in
    let long : length saved ≡ length plans = says.count in
    let there : (one : SavedStream) × (slice_get saved s ≡ Some one) = place_of saved s (omega (arith, inside, long)) in
    none there.0 (says.each_stream s plan there.0 part here there.1 at)

-- ---- the checkpoint

pub checkpoint_said : (version : Version) (plans : List PlanValue) (bytes : List ℕ) (parts : List StreamPartValue) (saved : List SavedStream) → AreSoManyParts version bytes (length plans) parts → HaveAsMany version parts
    → SayStreams version plans parts saved → IsCheckpoint plans bytes saved
checkpoint_said version plans bytes parts saved are many says = record {
  version = version;
  parts = parts;
  are = are.are;
  count = are.long;
  same_count = says.count;
  as_many = many;
  each_stream = says.each_stream;
}

module _ (version : Version) (plans : List PlanValue) (bytes : List ℕ) (parts : List StreamPartValue) (saved : List SavedStream) (are : AreStreamParts version bytes parts) (h : IsCheckpoint plans bytes saved) where
  of_version : h.version ≡ version
  of_version = one_version bytes h.version version h.are.rest are.rest h.are.opened are.opened

  of_parts : h.parts ≡ parts
  of_parts = same_parts version bytes h.parts parts (subst (λ (v : Version). AreStreamParts v bytes h.parts) of_version h.are) are

  pub streams_of_checkpoint : SayStreams version plans parts saved
  streams_of_checkpoint = record {
    count = h.same_count;
    each_stream = λ s plan one part here there at.
        subst (λ (v : Version). SaysStream v plan one part) of_version (h.each_stream s plan one part here there (ap (λ (ps : List StreamPartValue). slice_get ps s) of_parts ∙ at));
  }

  pub many_of_checkpoint : HaveAsMany version parts
  many_of_checkpoint = subst (λ (v : Version). HaveAsMany v parts) of_version (subst (HaveAsMany h.version) of_parts h.as_many)
