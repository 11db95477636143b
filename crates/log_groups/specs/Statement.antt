-- What a statement of the log is, by its text (MySQL manual, "SQL Statements"). The texts around a transaction are the
-- server's own; any other one is judged by its first words alone.
use Rattle.std.specs.Prelude.{ℕ, ◌-◌, ◌&&◌, ◌||◌, not, nat_le, if◌then◌else◌, Bool, true, List, [], ◌∷◌, length, take, drop, codes}
use Rattle.std.specs.List.{list_any}
use Rattle.std.specs.Str.{bytes_eq, str_eq_ignore_ascii_case}
use Rattle.log_groups.specs.declared.statement.Statement.{Statement}
use Rattle.log_groups.specs.declared.statement.Statement.TheVariants.{Begins, Commits, RollsBack, Saves, BacksTo, XaCommits, XaRollsBack, Alters, AltersAndBegins, Harmless, Passes, Unknown}

-- ---- texts

-- whether a text begins by another
unfoldable pub begins_by : List ℕ → List ℕ → Bool
begins_by front text = nat_le (length front) (length text) && bytes_eq (take (length front) text) front

-- whether it ends by another
unfoldable pub ends_by : List ℕ → List ℕ → Bool
ends_by end text = nat_le (length end) (length text) && bytes_eq (drop (length text - length end) text) end

-- a letter of ASCII
abbrev pub is_letter : ℕ → Bool
is_letter b = (nat_le 65 b && nat_le b 90) || (nat_le 97 b && nat_le b 122)

-- whether no letter stands in front
abbrev pub ends_word : List ℕ → Bool
ends_word [] = true
ends_word (b ∷ text) = not (is_letter b)

-- whether a text begins by these words, in letters of either case
unfoldable pub has_words : List ℕ → List ℕ → Bool
has_words words text = nat_le (length words) (length text) && str_eq_ignore_ascii_case (take (length words) text) words && ends_word (drop (length words) text)

-- ---- the server's own

-- a name as the server quotes it, of ASCII alone
unfoldable pub is_quoted : List ℕ → Bool
is_quoted text = nat_le 2 (length text) && begins_by (codes "`") text && ends_by (codes "`") text && not (list_any (λ b. nat_le 128 b) text)

-- whether a text is this beginning and a quoted name
unfoldable pub is_named : List ℕ → List ℕ → Bool
is_named front text = begins_by front text && is_quoted (drop (length front) text)

-- ---- statements of clients

-- what changes tables, or the columns of some
abbrev pub alters : List ℕ → Bool
alters text = has_words (codes "CREATE") text || has_words (codes "ALTER") text || has_words (codes "DROP") text || has_words (codes "RENAME") text || has_words (codes "TRUNCATE") text

-- a CREATE TABLE .. SELECT as MySQL has it, whose rows are behind it
abbrev pub creates_and_begins : List ℕ → Bool
creates_and_begins text = has_words (codes "CREATE") text && ends_by (codes " START TRANSACTION") text

-- what changes neither rows nor the columns of a table: rights, upkeep of tables, and the server's own
abbrev pub of_rights : List ℕ → Bool
of_rights text = has_words (codes "GRANT") text || has_words (codes "REVOKE") text || has_words (codes "SET PASSWORD") text || has_words (codes "SET DEFAULT") text

abbrev pub of_upkeep : List ℕ → Bool
of_upkeep text = has_words (codes "FLUSH") text || has_words (codes "ANALYZE TABLE") text || has_words (codes "OPTIMIZE") text || has_words (codes "REPAIR") text || has_words (codes "CHECK") text

abbrev pub of_server : List ℕ → Bool
of_server text = has_words (codes "RESET") text || has_words (codes "PURGE") text || has_words (codes "INSTALL") text || has_words (codes "UNINSTALL") text

abbrev pub is_harmless : List ℕ → Bool
is_harmless text = of_rights text || of_upkeep text || of_server text

-- by the first words: any that isn't known may change rows
unfoldable pub by_words : List ℕ → Statement
by_words text = if creates_and_begins text then AltersAndBegins else if alters text then Alters else if is_harmless text then Harmless else Unknown

-- of an XA transaction, and else by the first words
unfoldable pub of_xa : List ℕ → Statement
of_xa text =
    if begins_by (codes "XA START ") text then Begins else if begins_by (codes "XA END ") text then Passes else if begins_by (codes "XA COMMIT ") text then XaCommits
    else if begins_by (codes "XA ROLLBACK ") text then XaRollsBack else by_words text

-- of savepoints, and else as above
unfoldable pub of_savepoints : List ℕ → Statement
of_savepoints text =
    if is_named (codes "SAVEPOINT ") text then Saves else if is_named (codes "ROLLBACK TO ") text then BacksTo else if is_named (codes "RELEASE SAVEPOINT ") text then Passes
    else of_xa text

-- what a statement is
unfoldable pub statement_of : List ℕ → Statement
statement_of text =
    if bytes_eq text (codes "BEGIN") then Begins else if bytes_eq text (codes "COMMIT") then Commits else if bytes_eq text (codes "ROLLBACK") then RollsBack else of_savepoints text

-- the quoted name of a savepoint, in a statement that makes one, and in one that goes back to one
abbrev pub saved_name : List ℕ → List ℕ
saved_name text = drop 10 text

abbrev pub back_name : List ℕ → List ℕ
back_name text = drop 12 text
