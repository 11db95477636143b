use Rattle.std.proofs.Common.{◌∙◌, ap, map, string_bytes}
use Rattle.vrepl_words.specs.commands.{faults_of, words_of}
use Rattle.vrepl_words.proofs.TakenWords.{no_word, no_words_asked, no_words_taken, some_word}
use Rattle.vrepl_words.proofs.reading.read.Goals as goal

pub returns-then-is_empty-clause-read : goal.returns-then-is_empty-clause-read
returns-then-is_empty-clause-read c = ap (λ ws. words_of (map string_bytes ws)) (no_word c.args.words.now c.if-is_empty.ensures) ∙ no_words_asked

pub returns-then-is_empty-clause-refused : goal.returns-then-is_empty-clause-refused
returns-then-is_empty-clause-refused c = ap (λ ws. faults_of (map string_bytes ws)) (no_word c.args.words.now c.if-is_empty.ensures) ∙ no_words_taken

pub read_by-requires-clause-some : goal.read_by-requires-clause-some
read_by-requires-clause-some c = some_word c.args.words.now c.if-is_empty.ensures
