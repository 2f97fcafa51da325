use Rattle.std.proofs.Common.{◌∙◌, ◌++◌, ◌∷◌, [], List, All, ap, sym, subst}
use Rattle.std.proofs.lemmas.List.Elements.{All-append, All-cons, All-nil}
use Rattle.opgp_keyring.specs.Keyring.{CertificateValue, IsCertificate}
use Rattle.opgp_report.specs.KeyIndex.{prints_shown}
use Rattle.opgp_valid.specs.KnownKeys.{knowns}
use Rattle.opgp_bound.proofs.First.{AreFirst, all_first, first_more}
use Rattle.opgp_bound.proofs.bounding.keep_bound.Goals as goal

pub loop-certificate-preserved : goal.loop-certificate-preserved
loop-certificate-preserved c =
    let l = c.loop-certificate in
    let known = knowns c.in_ok-known.known in
    let issuers = prints_shown c.in_ok-issuers.issuers in
    let bound : CertificateValue = c.in_ok-bound.bound in
    let kept : List CertificateValue = l.kept.items in
    let new : List CertificateValue = c.push.new.self.items in
    let P : List CertificateValue → Type 0 = λ cs. All IsCertificate cs in
    let first : AreFirst known issuers (l.yielded ++ c.in-Some.certificate ∷ []) c.args.verdicts.now new c.in_ok-bound.behind.now =
    first_more known issuers l.yielded c.in-Some.certificate c.args.verdicts.now l.rest.now c.in_ok-bound.behind.now kept new l.invariant.value c.in_ok-bound.ensures.rest
    (c.in_ok-push.ensures.items ∙ ap (λ (d : CertificateValue). kept ++ d ∷ []) c.in_ok-bound.ensures.value) in
    record {
      value = first;
      done = all_first known issuers (l.yielded ++ c.in-Some.certificate ∷ []) c.args.verdicts.now c.in_ok-bound.behind.now new first;
      sound = subst P (sym c.in_ok-push.ensures.items) (All-append IsCertificate kept (bound ∷ []) l.invariant.sound (All-cons IsCertificate bound [] c.in_ok-bound.ensures.certificate (All-nil IsCertificate)));
    }
