use Rattle.std.proofs.Common.{◌∙◌, List, [], Ok, append-nil, refl, sym}
use Rattle.opgp_report.specs.Standing.{Standing, standing_in}
use Rattle.opgp_valid.proofs.listing.list_revocations.Goals as goal

pub returns : goal.returns
returns c =
    let here : List Standing = standing_in c.args.keyring.now in
    c.in_ok-visit.ensures [] (Ok c.visit.new.visitor) (sym (append-nil c.visit.new.visitor.found.items))
    ∙ rw (append-nil here, c.new.ensures.items) refl
