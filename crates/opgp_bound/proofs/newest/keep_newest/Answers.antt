use Rattle.std.proofs.Common.{◌∙◌, ◌++◌, ◌∷◌, [], List, All, ap, sym, subst}
use Rattle.std.proofs.lemmas.List.Elements.{All-append, All-cons, All-nil}
use Rattle.opgp_keyring.specs.Keyring.{CertificateValue, IsCertificate}
use Rattle.opgp_report.specs.declared.verifier.Verdict.{Verdict}
use Rattle.opgp_valid.specs.KnownKeys.{knowns}
use Rattle.opgp_bound.proofs.NewestFirst.{AreNewest, AreVerdicts, all_newest, all_verdicts, newest_more, verdicts_more}
use Rattle.opgp_bound.proofs.newest.keep_newest.Goals as goal

pub loop-certificate-preserved : goal.loop-certificate-preserved
loop-certificate-preserved c =
    let l = c.loop-certificate in
    let at = c.args.at in
    let known = knowns c.in_ok-known.known in
    let newest : CertificateValue = c.in_ok-newest.newest in
    let kept : List CertificateValue = l.kept.items in
    let new : List CertificateValue = c.push.new.self.items in
    let founds : List Verdict = c.newest_certificate.new.founds.items in
    let behind : List Verdict = c.in_ok-newest.behind.now in
    let P : List CertificateValue → Type 0 = λ cs. All IsCertificate cs in
    let first : AreNewest at known (l.yielded ++ c.in-Some.certificate ∷ []) c.args.verdicts.now new behind =
    newest_more at known l.yielded c.in-Some.certificate c.args.verdicts.now l.rest.now behind kept new l.invariant.value c.in_ok-newest.ensures.rest
    (c.in_ok-push.ensures.items ∙ ap (λ (d : CertificateValue). kept ++ d ∷ []) c.in_ok-newest.ensures.value) in
    let verdicts : AreVerdicts at known (l.yielded ++ c.in-Some.certificate ∷ []) c.args.verdicts.now founds behind =
    verdicts_more at known l.yielded c.in-Some.certificate c.args.verdicts.now l.rest.now behind l.founds.items founds l.invariant.verdicts c.in_ok-newest.ensures.rest c.in_ok-newest.ensures.founds in
    record {
      value = first;
      done = all_newest at known (l.yielded ++ c.in-Some.certificate ∷ []) c.args.verdicts.now behind new first;
      verdicts = verdicts;
      told = all_verdicts at known (l.yielded ++ c.in-Some.certificate ∷ []) c.args.verdicts.now behind founds verdicts;
      sound = subst P (sym c.in_ok-push.ensures.items) (All-append IsCertificate kept (newest ∷ []) l.invariant.sound (All-cons IsCertificate newest [] c.in_ok-newest.ensures.certificate (All-nil IsCertificate)));
    }
