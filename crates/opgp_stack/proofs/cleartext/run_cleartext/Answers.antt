use Rattle.std.proofs.Common.{List, ℕ, Err, Ok, ap, inl, inr, refl, subst}
use Rattle.opgp_codec.specs.Cleartext.{at_length}
use Rattle.opgp_stack.specs.CleartextRun.{HasPart}
use Rattle.opgp_stack.specs.Octets.{AreOctets}
use Rattle.opgp_stack.specs.Running.{Text}
use Rattle.opgp_stack.proofs.CleartextParts.{PartAnswer, part_read}
use Rattle.opgp_stack.proofs.ReadFor.{reads_for}
use Rattle.opgp_stack.proofs.Runs.{ran_of, stopped_of}
use Rattle.opgp_stack.proofs.cleartext.run_cleartext.Goals as goal

pub returns-in_err-text : goal.returns-in_err-text
returns-in_err-text g c =
    stopped_of (AreOctets c.args.limits.now) (λ fault. (refl, refl)) _ _ (λ octets fault h. inr (fault, at_length h.0 (ap Err h.1), refl))
    (reads_for g.R.Source.left g.R.Source.has_failed c.args.reader.now c.read_octets.new.source c.args.limits.now (AreOctets c.args.limits.now) c.in_err-text.field-0.0 c.in_err-text.ensures) c.from_residual.ensures

pub returns-in_err-octets : goal.returns-in_err-octets
returns-in_err-octets g c =
    stopped_of (PartAnswer c.args.limits.now c.args.part) (λ fault. (refl, refl)) _ _ (λ octets fault h. inr (fault, h, refl))
    (part_read g.R.Source.left g.R.Source.has_failed c.args.reader.now c.read_octets.new.source c.args.limits.now c.args.part c.in_ok-text.text (Err c.in_err-octets.field-0.0) c.in_ok-text.ensures (subst (λ (t : List ℕ). HasPart c.args.limits.now c.args.part t (Err c.in_err-octets.field-0.0)) c.deref.ensures.value c.in_err-octets.ensures)) c.from_residual-in_err-octets.ensures

pub returns : goal.returns
returns g c =
    ran_of (PartAnswer c.args.limits.now c.args.part) (λ fault. (refl, refl)) _ _ _ c.in_ok-octets.octets
    (λ octets h. (Text c.in_ok-octets.octets.items, inl (c.in_ok-octets.octets.items, h, refl), (c.write.result, c.end.ensures, rw c.deref-2.ensures.value at c.write.ensures)))
    (part_read g.R.Source.left g.R.Source.has_failed c.args.reader.now c.read_octets.new.source c.args.limits.now c.args.part c.in_ok-text.text (Ok c.in_ok-octets.octets) c.in_ok-text.ensures (subst (λ (t : List ℕ). HasPart c.args.limits.now c.args.part t (Ok c.in_ok-octets.octets)) c.deref.ensures.value c.in_ok-octets.ensures)) refl
