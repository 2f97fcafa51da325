-- A question and its hashed octets.
use Rattle.std.proofs.Common.{◌≡◌, List, ℕ, Option, Some, None, sym, ap, ◌∙◌}
use Rattle.std.specs.Prelude.{IfSome, IfNone}
use Rattle.opgp_octets.specs.Octets.{IsOctets}
use Rattle.opgp_hash.specs.QuestionValue.{QuestionValue}
use Rattle.opgp_hash.specs.Hashed.{hashed}
use Rattle.opgp_hash.specs.QuestionValue.{IsQuestion}
use Rattle.opgp_hash.specs.Reading.{Gives}
use Rattle.opgp_hash.specs.Reopening.{question_at}
use Rattle.opgp_hash.proofs.Again.{question_again}
use Rattle.opgp_hash.proofs.Fields.{FieldsLaw}
use Rattle.opgp_hash.proofs.Steps.{same_some}
use Rattle.opgp_hash.proofs.TakesWhole.{question_takes}

module _ (law : FieldsLaw) where
  pub is_read : (q : QuestionValue) (o : List ℕ) → IsQuestion q → hashed q ≡ o → question_at o ≡ Some q
  is_read q o is e = ap question_at (sym e) ∙ question_again law q is

  pub was_read : (q : QuestionValue) (o : List ℕ) → IsOctets o → question_at o ≡ Some q → IsQuestion q × (hashed q ≡ o)
  was_read q o fits e = let t = question_takes law o q fits e in (t.question, sym t.parts)

  pub one_question : (q r : QuestionValue) → IsQuestion q → IsQuestion r → hashed q ≡ hashed r → q ≡ r
  one_question q r is also e = same_some q r (sym (question_again law q is) ∙ ap question_at e ∙ question_again law r also)

  -- the clauses of what reads a question
  module _ {X : Type 0} (view : X → QuestionValue) (o : List ℕ) where
    pub read_found : (r : Option X) → IsOctets o → Gives view r (question_at o) → IfSome r (λ x. IsQuestion (view x) × (hashed (view x) ≡ o))
    read_found (Some x) fits e = was_read (view x) o fits e
    read_found None fits e = tt

    pub read_only : (r : Option X) → Gives view r (question_at o) → (q : QuestionValue) → IsQuestion q → hashed q ≡ o → Gives view r (Some q)
    read_only (Some x) e q is k = sym (is_read q o is k) ∙ e
    read_only None e q is k = sym (is_read q o is k) ∙ e

    pub read_none : (r : Option X) → Gives view r (question_at o) → IfNone r ((q : QuestionValue) → IsQuestion q → hashed q ≡ o → ⊥)
    read_none (Some x) e = tt
    read_none None e = λ q is k. let now = is_read q o is k in cc
