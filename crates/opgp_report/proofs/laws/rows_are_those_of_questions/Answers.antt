use Rattle.std.proofs.Common.{◌≡◌, ◌∙◌, ℕ, List, [], ◌∷◌, map, Ok, Err, refl, ap}
use Rattle.opgp_report.specs.Asked.{PosedValue, asked_by, posed_by, question_of}
use Rattle.opgp_report.specs.Report.{Says, finding_of, keys_in, row_of}
use Rattle.opgp_report.specs.Standing.{Standing, standing_in}
use Rattle.opgp_report.specs.Told.{Told, asked_told, finding_told, row_told}
use Rattle.opgp_report.proofs.laws.rows_are_those_of_questions.Goals as goal

module _ (says : Says) (keys : List (List ℕ)) where
  finding : (posed : PosedValue) → finding_told (finding_of says keys posed) ≡ asked_told (question_of posed)
  finding (Ok x) = refl
  finding (Err why) = refl

  told : (list : List Standing) → map row_told (map (row_of says keys) list) ≡ map asked_told (map asked_by list)
  told [] = refl
  told (s ∷ list) =
      ap (λ (t : Told). t ∷ map row_told (map (row_of says keys) list)) (finding (posed_by s)) ∙ ap (λ (l : List Told). asked_told (asked_by s) ∷ l) (told list)

pub returns : goal.returns
returns c says r = told says (keys_in r) (standing_in r)
