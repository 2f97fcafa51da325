use Rattle.std.proofs.Common.{[], ◌∷◌, List, All, sym, subst, ◌∙◌}
use Rattle.std.proofs.lemmas.List.Elements.{All-head}
use Rattle.opgp_octets.specs.declared.malformed.Malformed.{Malformed}
use Rattle.opgp_frame.specs.declared.packet.Placed.{Placed}
use Rattle.opgp_keyring.specs.Bodies.{IsSound, IsFirstBodyFault}
use Rattle.opgp_keyring.proofs.SignedStates.{block_stays, end_known}
use Rattle.opgp_keyring.proofs.detached_gathering.DetachedGathering.add.Goals as goal

pub returns-in-Some : goal.returns-in-Some
returns-in-Some c policy given g =
    let p : Placed = c.args.placed in
    let here : IsFirstBodyFault policy (p ∷ []) c.in-Some.fault = subst (λ (m : Malformed). IsFirstBodyFault m (p ∷ []) c.in-Some.fault) g.policy_kept (subst (λ (ps : List Placed). IsFirstBodyFault c.args.self.now.malformed ps c.in-Some.fault) c.from_ref.ensures.value c.in-Some.ensures) in
    record {
      policy_kept = c.break_off.ensures.malformed ∙ g.policy_kept;
      state = c.break_off.ensures.state policy given p here g.state;
      block = c.break_off.ensures.block ∙ g.block ∙ sym (block_stays given p);
      end = c.break_off.ensures.end ∙ end_known given p c.spelled_len.result c.saturating_add-self.result c.spelled_len.ensures c.saturating_add-self.ensures;
    }

pub returns-in_ok-keep-in-None : goal.returns-in_ok-keep-in-None
returns-in_ok-keep-in-None c = λ policy given g.
    let p : Placed = c.args.placed in
    let all : All (IsSound c.args.self.now.malformed) (p ∷ []) = subst (All (IsSound c.args.self.now.malformed)) c.from_ref.ensures.value c.in-None.ensures in
    let sound : IsSound policy p = subst (λ (m : Malformed). IsSound m p) g.policy_kept (All-head (IsSound c.args.self.now.malformed) p [] all) in
    record {
      policy_kept = c.keep.ensures.malformed ∙ g.policy_kept;
      state = c.in_ok-keep-in-None.ensures.state policy given sound g.state;
      block = c.keep.ensures.block ∙ g.block ∙ sym (block_stays given p);
      end = c.keep.ensures.end ∙ end_known given p c.spelled_len.result c.saturating_add-self.result c.spelled_len.ensures c.saturating_add-self.ensures;
    }
