use Rattle.std.proofs.Common.{ap, Option}
use Rattle.opgp_hash.specs.declared.fingerprints.Fingerprint.{Fingerprint}
use Rattle.opgp_io.proofs.Extended.{extends_same}
use Rattle.opgp_stack.specs.Differing.{place_words, octets_of}
use Rattle.opgp_stack.proofs.differing.add_place.Goals as goal

pub returns-in-None : goal.returns-in-None
returns-in-None g c =
    extends_same (ap (λ (o : Option Fingerprint). place_words c.args.word.now (octets_of o) c.args.place) c.in-None.is) c.add_words_of-in-None.ensures
