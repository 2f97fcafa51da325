use Rattle.opgp_hash.specs.Signed.{signed_value}
use Rattle.opgp_hash.specs.Subject.{subject_value}
use Rattle.opgp_hash.proofs.Asks.{passed}
use Rattle.opgp_hash.proofs.asking.asked.Goals as goal

pub invariant_of-question-clause-about : goal.invariant_of-question-clause-about
invariant_of-question-clause-about c = c.requires.about (passed c.args.stands (signed_value c.args.signed) (subject_value c.args.subject) c.in-None.ensures).is

pub invariant_of-question-clause-keys : goal.invariant_of-question-clause-keys
invariant_of-question-clause-keys c = (passed c.args.stands (signed_value c.args.signed) (subject_value c.args.subject) c.in-None.ensures).keys

pub invariant_of-question-clause-hash_known : goal.invariant_of-question-clause-hash_known
invariant_of-question-clause-hash_known c = (passed c.args.stands (signed_value c.args.signed) (subject_value c.args.subject) c.in-None.ensures).hash

pub invariant_of-question-clause-salt_size : goal.invariant_of-question-clause-salt_size
invariant_of-question-clause-salt_size c = c.args.signed.salt_size (passed c.args.stands (signed_value c.args.signed) (subject_value c.args.subject) c.in-None.ensures).hash
