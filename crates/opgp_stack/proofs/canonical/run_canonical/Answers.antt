use Rattle.std.proofs.Common.{inl, inr, refl}
use Rattle.opgp_codec.specs.Draft.{DraftHas}
use Rattle.opgp_stack.specs.Canonical.{IsTextOf}
use Rattle.opgp_stack.specs.Running.{Text}
use Rattle.opgp_stack.proofs.CanonicalText.{refused_text}
use Rattle.opgp_stack.proofs.Runs.{ran_of, stopped_of}
use Rattle.opgp_stack.proofs.canonical.run_canonical.Goals as goal

pub returns-in_err-text : goal.returns-in_err-text
returns-in_err-text g c =
    stopped_of (λ octets answer. IsTextOf (DraftHas g.S.Spool.serves g.S.Spool.tells g.S.Spool.holds g.S.Spool.has_failed) c.args.limits.now octets answer) (λ fault. inl (refl, refl)) _ _ (λ octets fault h. refused_text c.args.limits.now octets fault h) c.in_err-text.ensures c.from_residual.ensures

pub returns : goal.returns
returns g c =
    ran_of (λ octets answer. IsTextOf (DraftHas g.S.Spool.serves g.S.Spool.tells g.S.Spool.holds g.S.Spool.has_failed) c.args.limits.now octets answer) (λ fault. inl (refl, refl)) _ _ _ c.in_ok-text.text
    (λ octets h. (Text h.1, inl (h.0, h.1, h.2, refl), inr (c.write_draft.ensures h.1 h.3))) c.in_ok-text.ensures refl
