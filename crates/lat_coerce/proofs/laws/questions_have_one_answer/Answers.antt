use Rattle.lat_coerce.proofs.AnswersExist.{question_has_answer}
use Rattle.lat_coerce.proofs.AnswersDetermined.{question_has_one_answer}
use Rattle.lat_coerce.proofs.laws.questions_have_one_answer.Goals as goal

pub returns-clause-exists : goal.returns-clause-exists
returns-clause-exists c = question_has_answer

pub returns-clause-determined : goal.returns-clause-determined
returns-clause-determined c = question_has_one_answer
