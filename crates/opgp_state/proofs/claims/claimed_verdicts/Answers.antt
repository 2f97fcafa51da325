use Rattle.std.proofs.Common.{◌∙◌, List, [], None, Ok, sym}
use Rattle.opgp_report.specs.Standing.{Standing, standing_in}
use Rattle.opgp_state.proofs.AllClaims.{all_claims}
use Rattle.opgp_state.proofs.Gathered.{of_list, of_none}
use Rattle.opgp_state.proofs.claims.claimed_verdicts.Goals as goal

pub returns : goal.returns
returns c =
    let here : List Standing = standing_in c.args.keyring.now in
    (of_list None c.new-claiming.result c.visit.new.visitor here c.new-claiming.ensures.own c.new-claiming.ensures.verdicts c.new-claiming.ensures.revokers
    (c.in_ok-visit.ensures [] (Ok c.visit.new.visitor) (of_none c.visit.new.visitor))).0
    ∙ sym (all_claims c.args.keyring.now)
