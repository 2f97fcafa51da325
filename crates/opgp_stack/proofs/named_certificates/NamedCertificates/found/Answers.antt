use Rattle.std.proofs.Common.{◌∙◌, map}
use Rattle.opgp_stack.specs.KeyName.{name_octets}
use Rattle.opgp_stack.proofs.Wanted.{first_missing}
use Rattle.opgp_stack.proofs.named_certificates.NamedCertificates.found.Goals as goal

pub returns-clause-found : goal.returns-clause-found
returns-clause-found g c = λ cs h. c.missing-missing.ensures ∙ first_missing (map name_octets c.args.self.wanted.names.now) c.args.self.wanted.notes cs h
