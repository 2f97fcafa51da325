use Rattle.std.proofs.Common.{ℕ, List, [], ◌∷◌, IfOk, subst, sym}
use Rattle.opgp_explain.specs.Key.{cut}
use Rattle.opgp_explain.specs.Telling.{Tells}
use Rattle.opgp_explain.specs.declared.meaning.KeyPart.{KeyPart}
use Rattle.opgp_explain.specs.declared.meaning.KeyPart.TheVariants as key
use Rattle.opgp_explain.proofs.Keys.{cut_one, sizes_six}
use Rattle.opgp_explain.proofs.key.tell_key_body.Goals as goal

pub returns-clause-tells : goal.returns-clause-tells
returns-clause-tells c =
    let role = c.args.role in
    let r = c.with-5.result in
    let four : List (KeyPart × ℕ) = (key.MaterialLength, 4) ∷ [] in
    let three : List (KeyPart × ℕ) = (key.Algorithm, 1) ∷ four in
    let two : List (KeyPart × ℕ) = (key.Created, 4) ∷ three in
    subst (λ (s : List (KeyPart × ℕ)). IfOk r (λ t. Tells c.args.telling t (cut role s c.args.body.now))) (sym (sizes_six c.args.version c.if-version-eq4.false))
    (cut_one role key.Version 1 two c.args.telling c.in_ok-telling.telling r c.args.body.now c.front.result.0.now c.front.result.1.now c.front.ensures.first c.front.ensures.rest c.in_ok-telling.ensures
    (cut_one role key.Created 4 three c.in_ok-telling.telling c.in_ok-telling-2.telling r c.front.result.1.now c.front-2.result.0.now c.front-2.result.1.now c.front-2.ensures.first c.front-2.ensures.rest c.in_ok-telling-2.ensures
    (cut_one role key.Algorithm 1 four c.in_ok-telling-2.telling c.in_ok-telling-3.telling r c.front-2.result.1.now c.front-3.result.0.now c.front-3.result.1.now c.front-3.ensures.first c.front-3.ensures.rest c.in_ok-telling-3.ensures
    (cut_one role key.MaterialLength 4 [] c.in_ok-telling-3.telling c.in_ok-telling-4.telling r c.front-3.result.1.now c.front-4.result.0.now c.front-4.result.1.now c.front-4.ensures.first c.front-4.ensures.rest c.in_ok-telling-4.ensures
    c.with-5.ensures))))
