-- Joins `Words` to the code.
use Rattle.run_words.specs.WordsSeen.{design_seen, input_seen}
use Rattle.why_words.specs.Words.{Asked, Question, a_net, a_violation}
use Rattle.why_words.specs.declared.questions.Question as code_question
use Rattle.why_words.specs.declared.questions.Question.TheVariants as question
use Rattle.why_words.specs.declared.words.Asked as code

abbrev pub question_seen : code_question.Question → Question
question_seen (question.Net name time) = a_net name.now time
question_seen (question.Violation line) = a_violation line.now

abbrev pub asked_seen : code.Asked → Asked
asked_seen a = record { design = design_seen a.design; input = input_seen a.input; rounds = a.rounds; question = question_seen a.question }
