use Rattle.std.proofs.Common.{rules, ◌∙◌, List, [], Ok, append-nil, sym, subst}
use Rattle.std.specs.declared.alloc.AllocError.{AllocError}
use Rattle.opgp_report.specs.Standing.{Standing, standing_in}
use Rattle.opgp_bound.specs.Gathering.{GathersIssuers}
use Rattle.opgp_bound.specs.declared.issuers.Issuers.{Issuers}
use Rattle.opgp_bound.proofs.issuers.revocation_issuers.Goals as goal

pub returns : goal.returns
returns c =
    let here : List Standing = standing_in c.args.keyring.now in
    let old : Issuers = record { known = c.args.known; verdicts = c.args.verdicts; prints = c.new.result } in
    let added : GathersIssuers {E = AllocError} old here (Ok c.visit.new.visitor) =
    subst (λ (l : List Standing). GathersIssuers {E = AllocError} old l (Ok c.visit.new.visitor)) (append-nil here)
    (c.in_ok-visit.ensures [] (Ok c.visit.new.visitor) (sym (append-nil c.visit.new.visitor.prints.items))) in
    c.in_ok-index.ensures ∙ c.deref.ensures.value ∙ added ∙ search rules
