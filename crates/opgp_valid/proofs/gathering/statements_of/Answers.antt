use Rattle.std.proofs.Common.{◌≡◌, ◌∙◌, List, [], Ok, append-nil, ap, refl, subst}
use Rattle.std.specs.Prelude.{IfOk}
use Rattle.std.specs.List.{fold, list_any}
use Rattle.opgp_report.specs.First.{print_of}
use Rattle.opgp_report.specs.Standing.{Standing, certificate_standing}
use Rattle.opgp_report.specs.declared.verifier.Verdict.{Verdict}
use Rattle.opgp_keyring.specs.Keyring.{CertificateValue}
use Rattle.opgp_valid.specs.KnownKeys.{knowns}
use Rattle.opgp_valid.specs.Told.{revokers_of, told, with_revocations, with_verdicts}
use Rattle.opgp_valid.specs.declared.known_keys.Known.{Known}
use Rattle.opgp_valid.specs.declared.policy.Policy.{Policy}
use Rattle.opgp_valid.specs.declared.statement.Statement.{Statement}
use Rattle.opgp_valid.proofs.Unmarked.{told_unmarked}
use Rattle.opgp_valid.proofs.gathering.statements_of.Goals as goal

-- all that is told
abbrev all_told : List Known → Policy → CertificateValue → List Verdict → List Statement
all_told known policy c founds =
    fold (told known policy (print_of c.primary.body) (revokers_of known c founds)) []
    (with_verdicts founds (certificate_standing 0 c))

pub with_revocations-requires : goal.with_revocations-requires
with_revocations-requires c =
    let here : List Standing = certificate_standing 0 c.args.certificate.now in
    let is : c.visit_certificate.new.visitor.statements.items ≡ all_told (knowns c.args.context.known.now) c.args.context.policy c.args.certificate.now c.args.verdicts.now =
    c.in_ok-visit_certificate.ensures [] (Ok c.visit_certificate.new.visitor) refl
    ∙ rw (append-nil here, c.new.ensures.items, c.in_ok-revokers.ensures, c.requires) refl in
    ap (λ (l : List Statement). list_any (λ s. s.is_revoked) l) is
    ∙ told_unmarked (knowns c.args.context.known.now) c.args.context.policy (print_of c.args.certificate.now.primary.body) (revokers_of (knowns c.args.context.known.now) c.args.certificate.now c.args.verdicts.now) (with_verdicts c.args.verdicts.now here) [] refl

pub returns : goal.returns
returns c =
    let here : List Standing = certificate_standing 0 c.args.certificate.now in
    let is : c.visit_certificate.new.visitor.statements.items ≡ all_told (knowns c.args.context.known.now) c.args.context.policy c.args.certificate.now c.args.verdicts.now =
    c.in_ok-visit_certificate.ensures [] (Ok c.visit_certificate.new.visitor) refl
    ∙ rw (append-nil here, c.new.ensures.items, c.in_ok-revokers.ensures, c.requires) refl in
    subst (λ (l : List Statement). IfOk c.with_revocations.result (λ v. v.items ≡ with_revocations l)) is c.with_revocations.ensures
