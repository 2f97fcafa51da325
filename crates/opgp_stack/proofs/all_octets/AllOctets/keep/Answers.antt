use Rattle.std.proofs.Common.{◌++◌, List, subst, sym}
use Rattle.opgp_codec.specs.Draft.{DraftHas}
use Rattle.opgp_report.specs.Asked.{Asked, asked_of}
use Rattle.opgp_keyring.specs.Keyring.{CertificateValue, KeyringValue}
use Rattle.opgp_stack.specs.AllOctets.{HasRows}
use Rattle.opgp_stack.specs.OnePart.{asked_among, certificates_in}
use Rattle.opgp_stack.proofs.Looking.{all_pushed, lead_push}
use Rattle.opgp_stack.proofs.all_octets.AllOctets.keep.Goals as goal

pub returns-in_default : goal.returns-in_default
returns-in_default g c = rw c.in_default.ensures.1 (λ parts h. subst (λ (cs : List CertificateValue). HasRows (DraftHas g.S.Spool.serves g.S.Spool.tells g.S.Spool.holds g.S.Spool.has_failed) c.args.self.now.rows c.args.self.now.draft (asked_among cs)) (sym (lead_push parts _)) h)

pub returns : goal.returns
returns g c = rw c.in-Some.ensures (λ parts h. subst (λ (l : List Asked). HasRows (DraftHas g.S.Spool.serves g.S.Spool.tells g.S.Spool.holds g.S.Spool.has_failed) c.add_ring.new.self.rows c.add_ring.new.self.draft l) (all_pushed parts c.in-Some.certificate)
    (subst (λ (r : KeyringValue). HasRows (DraftHas g.S.Spool.serves g.S.Spool.tells g.S.Spool.holds g.S.Spool.has_failed) c.add_ring.new.self.rows c.add_ring.new.self.draft (asked_among (certificates_in parts) ++ asked_of r)) c.in_ok-ring.ensures (c.in_ok-add_ring.ensures (asked_among (certificates_in parts)) h)))
