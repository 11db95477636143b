-- The text of what is said as JSON, part by part.
use Rattle.std.proofs.Common.{◌≡◌, ◌∙◌, ℕ, ◌+◌, ◌<◌, Bool, true, false, List, [], ◌∷◌, ◌++◌, append_assoc, drop, get_or, length, map, refl, sym, ap, subst, Option}
use Rattle.std.specs.Prelude.{◌-◌, codes, decimal, slice_get}
use Rattle.std.proofs.lemmas.List.{drop_more}
use Rattle.filter_rule.specs.PlanTable.{TableValue}
use Rattle.json.specs.Print.{escape_byte, quoted, token_text}
use Rattle.json.specs.Token.{Token}
use Rattle.serde_json.specs.Data.{Data, null, string, array, object, no_members, member, no_items, item}
use Rattle.serde_json.specs.View.{items_of}
use Rattle.serde_json.specs.Written.{comma_if, compact_text, items_text}
use Rattle.source_feed.specs.Image.{ImageRows}
use Rattle.feed_check.specs.Checked.{CheckedValue, touching, passing_groups, rows_of_table}
use Rattle.feed_check.specs.Report.{file_name}
use Rattle.feed_check.specs.Shared.{SharedValue}
use Rattle.printing.specs.Printing.{Written}
use Rattle.workflow_check.specs.Notes.{NoteValue}
use Rattle.workflow_check.specs.Passed.{PassedValue}
use Rattle.json_pieces.specs.Telling.{LineValue, Place, Tells, at, fresh}
use Rattle.json_pieces.specs.Pieces.{list_data}
use Rattle.check_said.specs.Items.{ItemValue}
use Rattle.check_said.specs.Private.Parts.{first_part, groups_part, shard_part, stream_part, begin_part, end_part}
use Rattle.check_said.specs.Json.{count_data, counts_data, finding_data, name_data, note_data, passed_data, position_data, shared_if, skipped_data, stream_data, streams_data, streams_from, tables_data, tables_from, told_data, whole_data}

-- ---- parts

join : (a q b r : List ℕ) → (a ++ (q ++ b)) ++ r ≡ a ++ (q ++ (b ++ r))
join a q b r = append_assoc a (q ++ b) r ∙ ap (λ x. a ++ x) (append_assoc q b r)

join-three : (a p b n c q d r : List ℕ) → (a ++ (p ++ (b ++ (n ++ (c ++ (q ++ d)))))) ++ r ≡ a ++ (p ++ (b ++ (n ++ (c ++ (q ++ (d ++ r))))))
join-three a p b n c q d r = join a p (b ++ (n ++ (c ++ (q ++ d)))) r ∙ ap (λ x. a ++ (p ++ x)) (join b n (c ++ (q ++ d)) r ∙ ap (λ x. b ++ (n ++ x)) (join c q d r))

-- the text of a stream
pub stream-text : (i : ℕ) (file : List ℕ) (check : CheckedValue)
    → first_part file ++ (compact_text (list_data (finding_data check) check.findings) ++ (groups_part check ++ (compact_text (list_data (finding_data check) check.moves)
    ++ (shard_part check ++ (compact_text (list_data skipped_data check.skipped) ++ (stream_part i ++ (compact_text (tables_data check)
    ++ (codes ",\"unknown\":" ++ (compact_text (list_data (name_data check.plan) check.unknown) ++ 125 ∷ [])))))))))
    ≡ compact_text (stream_data i file check)
unfolding escape_byte
stream-text i file check =
    let findings = compact_text (list_data (finding_data check) check.findings) in
    let moves = compact_text (list_data (finding_data check) check.moves) in
    let skipped = compact_text (list_data skipped_data check.skipped) in
    let first = compact_text (position_data (slice_get check.history 0)) in
    let last = compact_text (position_data (slice_get check.history (length check.history - 1))) in
    let end = compact_text (tables_data check) ++ (codes ",\"unknown\":" ++ (compact_text (list_data (name_data check.plan) check.unknown) ++ 125 ∷ [])) in
    let at_number = stream_part i ++ end in
    let at_shard = shard_part check ++ (skipped ++ at_number) in
    join (codes "{\"file\":") (quoted file) (codes ",\"findings\":") (findings ++ (groups_part check ++ (moves ++ at_shard)))
    ∙ ap (λ x. codes "{\"file\":" ++ (quoted file ++ (codes ",\"findings\":" ++ (findings ++ x))))
    (join-three (codes ",\"first\":") first (codes ",\"groups\":") (decimal (length check.history)) (codes ",\"last\":") last (codes ",\"moves\":") (moves ++ at_shard)
    ∙ ap (λ x. codes ",\"first\":" ++ (first ++ (codes ",\"groups\":" ++ (decimal (length check.history) ++ (codes ",\"last\":" ++ (last ++ (codes ",\"moves\":" ++ (moves ++ x))))))))
    (join (codes ",\"shard\":") (quoted check.plan.shard) (codes ",\"skipped\":") (skipped ++ at_number)
    ∙ ap (λ x. codes ",\"shard\":" ++ (quoted check.plan.shard ++ (codes ",\"skipped\":" ++ (skipped ++ x))))
    (join (codes ",\"stream\":") (decimal i) (codes ",\"tables\":") end)))

end-text : (warned : Bool) → end_part warned ≡ codes ",\"warned\":" ++ (token_text (Token.boolean warned) ++ 125 ∷ [])
end-text true = refl
end-text false = refl

begin-text : (noted : Bool) (rest : List ℕ) → begin_part noted ++ rest ≡ codes "{\"noted\":" ++ (token_text (Token.boolean noted) ++ (codes ",\"notes\":" ++ rest))
begin-text true rest = refl
begin-text false rest = refl

-- the text of the whole
pub whole-text : (noted : Bool) (notes rules streams told touched : Data) (warned : Bool)
    → begin_part noted ++ (compact_text notes ++ (codes ",\"rules\":" ++ (compact_text rules ++ (codes ",\"streams\":" ++ (compact_text streams ++ (codes ",\"told\":" ++ (compact_text told
    ++ (codes ",\"touched\":" ++ (compact_text touched ++ end_part warned)))))))))
    ≡ compact_text (whole_data noted notes rules streams told touched warned)
unfolding escape_byte
whole-text noted notes rules streams told touched warned =
    begin-text noted (compact_text notes ++ (codes ",\"rules\":" ++ (compact_text rules ++ (codes ",\"streams\":" ++ (compact_text streams ++ (codes ",\"told\":" ++ (compact_text told ++ (codes ",\"touched\":" ++ (compact_text touched ++ end_part warned)))))))))
    ∙ ap (λ x. codes "{\"noted\":" ++ (token_text (Token.boolean noted) ++ (codes ",\"notes\":" ++ (compact_text notes ++ (codes ",\"rules\":" ++ (compact_text rules ++ (codes ",\"streams\":" ++ (compact_text streams ++ (codes ",\"told\":" ++ (compact_text told ++ (codes ",\"touched\":" ++ (compact_text touched ++ x))))))))))))
    (end-text warned)

-- the same of what is asked for
pub whole-same : (noted : Bool) (notes notes2 : List NoteValue) (rules rules2 : List PassedValue) (files : List (List ℕ)) (streams streams2 : List CheckedValue) (told told2 : List ItemValue) (tables : List TableValue)
    (shared shared2 : Option SharedValue) (warned : Bool) → notes ≡ notes2 → rules ≡ rules2 → streams ≡ streams2 → told ≡ told2 → shared ≡ shared2
    → compact_text (whole_data noted (list_data note_data notes) (list_data passed_data rules) (streams_data files streams) (told_data told notes) (shared_if tables shared) warned)
    ≡ compact_text (whole_data noted (list_data note_data notes2) (list_data passed_data rules2) (streams_data files streams2) (told_data told2 notes2) (shared_if tables shared2) warned)
whole-same noted notes notes2 rules rules2 files streams streams2 told told2 tables shared shared2 warned a b c d e =
    ap (λ (x : List NoteValue). compact_text (whole_data noted (list_data note_data x) (list_data passed_data rules) (streams_data files streams) (told_data told x) (shared_if tables shared) warned)) a
    ∙ ap (λ (x : List PassedValue). compact_text (whole_data noted (list_data note_data notes2) (list_data passed_data x) (streams_data files streams) (told_data told notes2) (shared_if tables shared) warned)) b
    ∙ ap (λ (x : List CheckedValue). compact_text (whole_data noted (list_data note_data notes2) (list_data passed_data rules2) (streams_data files x) (told_data told notes2) (shared_if tables shared) warned)) c
    ∙ ap (λ (x : List ItemValue). compact_text (whole_data noted (list_data note_data notes2) (list_data passed_data rules2) (streams_data files streams2) (told_data x notes2) (shared_if tables shared) warned)) d
    ∙ ap (λ (x : Option SharedValue). compact_text (whole_data noted (list_data note_data notes2) (list_data passed_data rules2) (streams_data files streams2) (told_data told2 notes2) (shared_if tables x) warned)) e

-- a line that is told from its beginning on
pub told-from : (begun : Written) (line : LineValue) (now : Place) (text whole : List ℕ) → line ≡ fresh → text ≡ whole → Tells (at begun line) now text → Tells (at begun fresh) now whole
told-from begun line now text whole is same tells = subst (Tells (at begun fresh) now) same (subst (λ (l : LineValue). Tells (at begun l) now text) is tells)

-- ---- a key that two feeds touch

two : (a b r : List ℕ) → a ++ (44 ∷ (b ++ (93 ∷ r))) ≡ (a ++ (44 ∷ (b ++ (93 ∷ [])))) ++ r
two a b r = sym (append_assoc a (44 ∷ (b ++ (93 ∷ []))) r ∙ ap (λ x. a ++ (44 ∷ x)) (append_assoc b (93 ∷ []) r))

pub shared-text : (key : Data) (one other : ℕ) (table : List ℕ)
    → codes "{\"key\":" ++ (compact_text key ++ (codes ",\"streams\":[" ++ (decimal one ++ (44 ∷ (decimal other ++ (codes "],\"table\":" ++ (quoted table ++ (125 ∷ []))))))))
    ≡ compact_text (object (member (codes "key") key (member (codes "streams") (array (item (count_data one) (item (count_data other) no_items))) (member (codes "table") (string table) no_members))))
unfolding escape_byte
shared-text key one other table =
    ap (λ x. codes "{\"key\":" ++ (compact_text key ++ (codes ",\"streams\":[" ++ x))) (two (decimal one) (decimal other) (codes ",\"table\":" ++ (quoted table ++ (125 ∷ []))))

-- ---- an item of the file

pub note-text : (class kind place : List ℕ) (table : Data)
    → codes "{\"class\":" ++ (quoted class ++ (codes ",\"count\":" ++ (decimal 1 ++ (codes ",\"kind\":" ++ (quoted kind ++ (codes ",\"path\":" ++ (quoted place ++ (codes ",\"position\":null,\"stream\":null,\"table\":" ++ (compact_text table ++ (125 ∷ []))))))))))
    ≡ compact_text
    (object
    (member (codes "class") (string class)
    (member (codes "count") (count_data 1)
    (member (codes "kind") (string kind)
    (member (codes "path") (string place)
    (member (codes "position") null
    (member (codes "stream") null
    (member (codes "table") table no_members))))))))
unfolding escape_byte
note-text class kind place table = refl

-- ---- lists by their numbers

-- the first table of what is left
pub table-at : (check : CheckedValue) (rows : ImageRows) (later : Bool) (tables : List TableValue) (t : ℕ) (table : TableValue) → t < length tables → table ≡ get_or tables t table
    → items_text later (items_of (tables_from check rows t (drop t tables)))
    ≡ comma_if later ++ (compact_text (counts_data table.name (touching t check.history) (passing_groups t check.history) (rows_of_table t rows)) ++ items_text true (items_of (tables_from check rows (t + 1) (drop (t + 1) tables))))
table-at check rows later tables t table within is =
    ap (λ l. items_text later (items_of (tables_from check rows t l))) (drop_more tables t table within)
    ∙ ap (λ (one : TableValue). comma_if later ++ (compact_text (counts_data one.name (touching t check.history) (passing_groups t check.history) (rows_of_table t rows)) ++ items_text true (items_of (tables_from check rows (t + 1) (drop (t + 1) tables))))) (sym is)

-- the first stream of what is left
pub stream-at : (files : List (List ℕ)) (later : Bool) (checks : List CheckedValue) (i : ℕ) (check : CheckedValue) → i < length checks → check ≡ get_or checks i check
    → items_text later (items_of (streams_from files i (drop i checks))) ≡ comma_if later ++ (compact_text (stream_data i (file_name files i) check) ++ items_text true (items_of (streams_from files (i + 1) (drop (i + 1) checks))))
stream-at files later checks i check within is =
    ap (λ l. items_text later (items_of (streams_from files i l))) (drop_more checks i check within)
    ∙ ap (λ (c : CheckedValue). comma_if later ++ (compact_text (stream_data i (file_name files i) c) ++ items_text true (items_of (streams_from files (i + 1) (drop (i + 1) checks))))) (sym is)

-- ---- a list that goes on with others

-- the first item of what is left, before the others
pub item-before : {X : Type 0} (data_of : X → Data) (later : Bool) (xs : List X) (others : List Data) (k : ℕ) (x : X) → k < length xs → x ≡ get_or xs k x
    → items_text later (items_of (map data_of (drop k xs) ++ others)) ≡ comma_if later ++ (compact_text (data_of x) ++ items_text true (items_of (map data_of (drop (k + 1) xs) ++ others)))
item-before data_of later xs others k x within is =
    ap (λ l. items_text later (items_of (map data_of l ++ others))) (drop_more xs k x within)
    ∙ ap (λ y. comma_if later ++ (compact_text (data_of y) ++ items_text true (items_of (map data_of (drop (k + 1) xs) ++ others)))) (sym is)
