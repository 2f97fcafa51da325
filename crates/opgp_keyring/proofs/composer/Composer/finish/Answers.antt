use Rattle.std.proofs.Common.{inl, inr, ap, subst, Bool}
use Rattle.opgp_keyring.specs.Fed.{IsFaultOf}
use Rattle.opgp_keyring.specs.State.{fault_of_state, is_broken_state}
use Rattle.opgp_keyring.proofs.composer.Composer.finish.Goals as goal

pub returns-in-Disordered-clause-ok : goal.returns-in-Disordered-clause-ok
returns-in-Disordered-clause-ok c limits given taken f =
    let fault = c.in-Disordered.fault in
    elim c.in-Disordered.is [
      | inl e ↦ inr (subst (λ (b : Bool). IsFaultOf b limits given fault) (ap is_broken_state e) (f.fault fault (ap fault_of_state e)))
      | inr e ↦ inl (subst (λ (b : Bool). IsFaultOf b limits given fault) (ap is_broken_state e) (f.fault fault (ap fault_of_state e)))
    ]
