use Rattle.std.proofs.Common.{◌∷◌, [], sym, subst, refl, arith}
use Rattle.opgp_frame.specs.declared.deframe.State.{State}
use Rattle.opgp_frame.specs.Fed.{IsRest}
use Rattle.opgp_frame.proofs.FedLemmas.{Fed-grows}
use Rattle.opgp_frame.proofs.Steps.{begins_fault, begins_packet}
use Rattle.opgp_frame.proofs.deframe.Deframe.begin.Goals as goal

pub returns-in-Some-clause-fed : goal.returns-in-Some-clause-fed
returns-in-Some-clause-fed c limits block given taken f =
    let d = c.args.self.now in
    let state = subst (λ (s : State). IsRest limits s d.exponents.items d.body.items f.rest) c.requires.between f.state in
    Fed-grows limits block d _ given (c.args.octet ∷ []) taken f refl c.requires.free refl refl refl refl
    (begins_fault limits c.args.octet d.exponents.items d.body.items f.rest c.in-Some.reason state (sym c.in-Some.ensures))

pub returns-in-None-clause-fed : goal.returns-in-None-clause-fed
returns-in-None-clause-fed c limits block given taken f =
    let d = c.args.self.now in
    let state = subst (λ (s : State). IsRest limits s d.exponents.items d.body.items f.rest) c.requires.between f.state in
    Fed-grows limits block d _ given (c.args.octet ∷ []) taken f refl c.requires.free refl refl refl refl
    (begins_packet limits c.args.octet (0 ∷ 0 ∷ 0 ∷ 0 ∷ 0 ∷ []) d.exponents.items d.body.items f.rest state (omega arith) (sym c.in-None.ensures))
