-- What is said of the numbers of refusals (this profile).
use Rattle.std.specs.Prelude.{ℕ, Bool, List, [], ◌∷◌, Option, None, Some, ◌==◌, find, is_some, option_map, unwrap_or}
use Rattle.std.specs.Option.{option_or}
use Rattle.refusal_words.specs.declared.list.TheConstants.{LIST}
use Rattle.refusal_words.specs.declared.wire.TheConstants.{ENDS_INSIDE, LONG_VARINT, GROUP_WIRE_TYPE, BAD_WIRE_TYPE, BAD_FIELD_NUMBER, ROW_IS_NO_LIST, LENGTHS_PAST_VALUES, MANY_COLUMNS, LONG_ROW, EVENT_IS_NO_LIST, MESSAGE_TWICE, EVENT_TYPE, NOT_UTF8, PARTIAL_ROW}
use Rattle.refusal_words.specs.declared.position.TheConstants.{FLAVOUR, UUID, INTERVAL, COLON, LONG_POSITION, RANGE, NULL_UNDER_VINDEX, NUMBER_UNDER_VINDEX}
use Rattle.refusal_words.specs.declared.workflow.TheConstants.{NOT_JSON, SHAPE, NO_COLUMN, COLUMN_TYPE, RULE, LIMIT, OTHER_COLUMNS, NULL_KEY, BAD_KEY}
use Rattle.refusal_words.specs.declared.target.TheConstants.{OTHER_ROW, MEMORY}
use Rattle.refusal_words.specs.declared.feed.TheConstants.{CUT_MESSAGE, BAD_EVENT, NO_POSITION, DIVERGES, FIELDS_DIFFER, NO_FIELDS, ROW_WIDTH, OPEN_AT_END, OTHER_SHARD, BAD_ROW, NO_GROUP, MISPLACED, NOT_HEX, BAD_POSITION, LONG_FEED}
use Rattle.refusal_words.specs.declared.steps.TheConstants.{GAP, NOTHING_READ, SNAPSHOT_REACHED, NOT_COPYING, SNAPSHOT_OPEN, SNAPSHOT_BEHIND, SNAPSHOT_NOT_READ, NO_SNAPSHOT, NOT_REACHED, OTHER_PLAN, OTHER_GROUP, OTHER_HISTORY, NO_STREAM}
use Rattle.refusal_words.specs.declared.files.TheConstants.{BAD_CHECKPOINT, OTHER_ROWS, UNKNOWN_POSITION, FEED_COUNT, BAD_SCRIPT, BAD_DUMP, CHANGED, CANNOT_READ, CANNOT_WRITE, BAD_TEXT, UNKNOWN_TABLE, NO_REQUEST, NO_TABLE, OTHER_KEY, OTHER_FILE, SHORT_FEED}
use Rattle.refusal_words.specs.declared.logs.TheConstants.{NO_LOG, CUT_LOG, SMALL_EVENT, LOG_SUM, LOG_VERSION, LOG_CHECKS, CUT_BODY, NOT_ALL, LOG_COLUMNS, LOG_TYPE, LOG_VALUE, LOG_STATEMENT, LOG_ALTERED, LOG_PACKED, LOG_INCIDENT, LOG_EVENT, LOG_ORDER, LOG_UNNAMED, LOG_BACK, LOG_BEGINS}

-- the text that stands beside a number
abbrev pub text_among : List (ℕ × List ℕ) → ℕ → Option (List ℕ)
text_among texts number = option_map (λ it. it.1) (find (λ it. it.0 == number) texts)

-- bytes that aren't the messages which they should be
abbrev pub wire_texts : List (ℕ × List ℕ)
wire_texts =
    (1, ENDS_INSIDE.now) ∷
    (2, LONG_VARINT.now) ∷
    (3, GROUP_WIRE_TYPE.now) ∷
    (4, BAD_WIRE_TYPE.now) ∷
    (5, BAD_FIELD_NUMBER.now) ∷
    (11, ROW_IS_NO_LIST.now) ∷
    (12, LENGTHS_PAST_VALUES.now) ∷
    (13, MANY_COLUMNS.now) ∷
    (14, LONG_ROW.now) ∷
    (21, EVENT_IS_NO_LIST.now) ∷
    (22, MESSAGE_TWICE.now) ∷
    (23, EVENT_TYPE.now) ∷
    (24, NOT_UTF8.now) ∷
    (25, PARTIAL_ROW.now) ∷
    []

-- positions, ranges, and values under a vindex
abbrev pub position_texts : List (ℕ × List ℕ)
position_texts =
    (31, FLAVOUR.now) ∷
    (32, UUID.now) ∷
    (33, INTERVAL.now) ∷
    (35, COLON.now) ∷
    (36, LONG_POSITION.now) ∷
    (41, RANGE.now) ∷
    (43, NULL_UNDER_VINDEX.now) ∷
    (44, NUMBER_UNDER_VINDEX.now) ∷
    []

-- the workflow file, and the keys of its tables
abbrev pub workflow_texts : List (ℕ × List ℕ)
workflow_texts =
    (51, NOT_JSON.now) ∷
    (52, SHAPE.now) ∷
    (53, NO_COLUMN.now) ∷
    (54, COLUMN_TYPE.now) ∷
    (55, RULE.now) ∷
    (56, LIMIT.now) ∷
    (57, OTHER_COLUMNS.now) ∷
    (61, NULL_KEY.now) ∷
    (62, BAD_KEY.now) ∷
    []

-- rows of two streams, and memory
abbrev pub target_texts : List (ℕ × List ℕ)
target_texts =
    (71, OTHER_ROW.now) ∷
    (72, MEMORY.now) ∷
    []

-- feeds
abbrev pub feed_texts : List (ℕ × List ℕ)
feed_texts =
    (81, CUT_MESSAGE.now) ∷
    (82, BAD_EVENT.now) ∷
    (83, NO_POSITION.now) ∷
    (84, DIVERGES.now) ∷
    (85, FIELDS_DIFFER.now) ∷
    (86, NO_FIELDS.now) ∷
    (87, ROW_WIDTH.now) ∷
    (88, OPEN_AT_END.now) ∷
    (89, OTHER_SHARD.now) ∷
    (90, BAD_ROW.now) ∷
    (91, NO_GROUP.now) ∷
    (92, MISPLACED.now) ∷
    (93, NOT_HEX.now) ∷
    (94, BAD_POSITION.now) ∷
    (95, LONG_FEED.now) ∷
    []

-- steps on a board, and boards that don't fit
abbrev pub steps_texts : List (ℕ × List ℕ)
steps_texts =
    (101, GAP.now) ∷
    (102, NOTHING_READ.now) ∷
    (103, SNAPSHOT_REACHED.now) ∷
    (104, NOT_COPYING.now) ∷
    (105, SNAPSHOT_OPEN.now) ∷
    (106, SNAPSHOT_BEHIND.now) ∷
    (107, SNAPSHOT_NOT_READ.now) ∷
    (108, NO_SNAPSHOT.now) ∷
    (109, NOT_REACHED.now) ∷
    (111, OTHER_PLAN.now) ∷
    (112, OTHER_GROUP.now) ∷
    (113, OTHER_HISTORY.now) ∷
    (115, NO_STREAM.now) ∷
    []

-- checkpoints, scripts, dumps, requests of a session, and files
abbrev pub files_texts : List (ℕ × List ℕ)
files_texts =
    (116, BAD_CHECKPOINT.now) ∷
    (117, OTHER_ROWS.now) ∷
    (118, UNKNOWN_POSITION.now) ∷
    (119, FEED_COUNT.now) ∷
    (120, BAD_SCRIPT.now) ∷
    (121, BAD_DUMP.now) ∷
    (123, UNKNOWN_TABLE.now) ∷
    (124, NO_REQUEST.now) ∷
    (125, NO_TABLE.now) ∷
    (126, OTHER_KEY.now) ∷
    (127, OTHER_FILE.now) ∷
    (128, SHORT_FEED.now) ∷
    (129, CHANGED.now) ∷
    (131, CANNOT_READ.now) ∷
    (132, CANNOT_WRITE.now) ∷
    (133, BAD_TEXT.now) ∷
    []

-- a server's binary logs
abbrev pub logs_texts : List (ℕ × List ℕ)
logs_texts =
    (140, NO_LOG.now) ∷
    (141, CUT_LOG.now) ∷
    (142, SMALL_EVENT.now) ∷
    (143, LOG_SUM.now) ∷
    (144, LOG_VERSION.now) ∷
    (145, LOG_CHECKS.now) ∷
    (146, CUT_BODY.now) ∷
    (147, NOT_ALL.now) ∷
    (148, LOG_COLUMNS.now) ∷
    (149, LOG_TYPE.now) ∷
    (150, LOG_VALUE.now) ∷
    (151, LOG_STATEMENT.now) ∷
    (152, LOG_ALTERED.now) ∷
    (153, LOG_PACKED.now) ∷
    (154, LOG_INCIDENT.now) ∷
    (155, LOG_EVENT.now) ∷
    (156, LOG_ORDER.now) ∷
    (157, LOG_UNNAMED.now) ∷
    (158, LOG_BACK.now) ∷
    (159, LOG_BEGINS.now) ∷
    []

-- the text of a number that isn't of a server's logs
abbrev pub text_of_others : ℕ → Option (List ℕ)
text_of_others number = option_or (option_or (option_or (option_or (option_or (option_or (text_among wire_texts number) (text_among position_texts number)) (text_among workflow_texts number)) (text_among target_texts number)) (text_among feed_texts number)) (text_among steps_texts number)) (text_among files_texts number)

-- the text of a number, if it has one
abbrev pub text_of_number : ℕ → Option (List ℕ)
text_of_number number = option_or (text_of_others number) (text_among logs_texts number)

-- something is said of the number
abbrev pub has_text : ℕ → Bool
has_text number = is_some (text_of_number number)

-- what is printed of a number; the list of all where none is asked for
abbrev pub explained : Option ℕ → List ℕ
explained None = LIST.now
explained (Some number) = unwrap_or (text_of_number number) []
