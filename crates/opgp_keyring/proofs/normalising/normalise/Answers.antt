use Rattle.opgp_keyring.specs.Keyring.{flat}
use Rattle.opgp_keyring.proofs.Normalised.{flat_normal, all_current, keyring_normal}
use Rattle.opgp_keyring.proofs.normalising.normalise.Goals as goal

pub new-requires : goal.new-requires
new-requires c =
    let parts = c.into_parts-lead in
    rw (c.reframe.ensures, c.reframe_all.ensures, parts.ensures.lead, parts.ensures.certificates) (keyring_normal c.args.ring parts.ensures.keyring)

pub returns-clause-packets : goal.returns-clause-packets
returns-clause-packets c =
    let parts = c.into_parts-lead in
    rw (c.new.ensures, c.reframe.ensures, c.reframe_all.ensures, parts.ensures.lead, parts.ensures.certificates) (flat_normal c.args.ring)

pub returns-clause-current : goal.returns-clause-current
returns-clause-current c =
    let parts = c.into_parts-lead in
    rw (c.new.ensures, c.reframe.ensures, c.reframe_all.ensures, parts.ensures.lead, parts.ensures.certificates, flat_normal c.args.ring) (all_current (flat c.args.ring))
