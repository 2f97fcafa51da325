use Rattle.std.proofs.Common.{ℕ, List, subst}
use Rattle.opgp_hash.specs.Question.{question_value}
use Rattle.opgp_hash.specs.Subject.{subject_value}
use Rattle.opgp_hash.specs.SubjectValue.{SubjectValue}
use Rattle.opgp_explain.specs.Area.{area_fields}
use Rattle.opgp_explain.specs.Fields.{fields_of, subject_fields}
use Rattle.opgp_explain.specs.Telling.{Tells}
use Rattle.opgp_explain.proofs.Told.{told_all, told_both}
use Rattle.opgp_explain.proofs.explaining.tell_all.Goals as goal

pub returns : goal.returns
returns c =
    let q = question_value c.args.question.now in
    let salt = c.in_ok-telling.ensures.tells in
    let subject : Tells c.in_ok-telling.telling c.in_ok-telling-2.telling (subject_fields q.version q.subject)
    = subst (λ (s : SubjectValue). Tells c.in_ok-telling.telling c.in_ok-telling-2.telling (subject_fields q.version s)) c.subject-subject.ensures.value
    (subst (λ (v : ℕ). Tells c.in_ok-telling.telling c.in_ok-telling-2.telling (subject_fields v (subject_value c.subject-subject.result))) c.version.ensures c.in_ok-telling-2.ensures.tells) in
    let front = c.in_ok-telling-3.ensures.tells in
    let area : Tells c.in_ok-telling-3.telling c.in_ok-telling-4.telling (area_fields q.area)
    = subst (λ (o : List ℕ). Tells c.in_ok-telling-3.telling c.in_ok-telling-4.telling (area_fields o)) c.hashed_area.ensures c.in_ok-telling-4.ensures.tells in
    told_all c.new.result c.in_ok-telling-5.telling (fields_of q) c.new.ensures.fields c.new.ensures.end
    (told_both (told_both (told_both (told_both salt subject) front) area) c.in_ok-telling-5.ensures)
