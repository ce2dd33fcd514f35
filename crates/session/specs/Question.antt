-- Document 01, "Calls": lookup, list, stat and read, which "answer from the view": what the questions answer, where the program may
-- ask.
use Rattle.std.specs.Prelude.{ℕ, []}
use Rattle.volume_tree.specs.Volume.{Volume}
use Rattle.volume_lookup.specs.Lookup.{lookup_answer, reached_number, reached_results}
use Rattle.volume_questions.specs.Answer.{list_answer, list_leaves, list_number, list_results, stat_answer, stat_number, stat_results, read_answer, read_leaves, read_number, read_results}
use Rattle.session.specs.Class.{Question, lookup, list, stat, read}
use Rattle.session.specs.Call.{Call, Answer, answer}
use Rattle.session.specs.Model.{Model, unless, program_rows}

-- "3 Bad program", "4 Marked", then the question's own answer
abbrev pub asked : Call → ℕ → Model → Answer → Answer
asked c p x a = unless c (program_rows x.log p) a

-- what a question answers of a view, and leaves in its own buffer
abbrev pub question_answer : Volume → Question → Answer
question_answer v (lookup path) = let r = lookup_answer v path in answer (reached_number r) (reached_results r) []
question_answer v (list o own) = let r = list_answer v o own in answer (list_number r) (list_results r) (list_leaves v o own)
question_answer v (stat o) = let r = stat_answer v o in answer (stat_number r) (stat_results r) []
question_answer v (read o f own) = let r = read_answer v o f own in answer (read_number r) (read_results r) (read_leaves v o f own)
