-- The value of a question.
use Rattle.opgp_hash.specs.declared.question.Question.{Question}
use Rattle.opgp_hash.specs.QuestionValue.{QuestionValue}
use Rattle.opgp_hash.specs.Subject.{subject_value}

abbrev pub question_value : Question → QuestionValue
question_value q = record {
  version = q.version;
  salt = q.salt.now;
  subject = subject_value q.subject;
  kind = q.kind;
  algorithm = q.algorithm;
  hash = q.hash;
  area = q.area.now;
}
