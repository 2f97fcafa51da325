use Rattle.opgp_hash.specs.CertificateHasher.{hasher_subject}
use Rattle.opgp_valid.proofs.Asked.{hashed_as}
use Rattle.opgp_valid.proofs.asking.is_hashed.Goals as goal

pub returns-in-Question : goal.returns-in-Question
returns-in-Question c = hashed_as c.args.met.now.site (hasher_subject c.args.hasher.now) c.args.met.now.signature _ c.in-Question.ensures.exact

pub returns-in-Nothing : goal.returns-in-Nothing
returns-in-Nothing c = hashed_as c.args.met.now.site (hasher_subject c.args.hasher.now) c.args.met.now.signature _ c.in-Nothing.ensures.exact
