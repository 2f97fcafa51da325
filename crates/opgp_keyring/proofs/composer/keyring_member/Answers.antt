use Rattle.opgp_keyring.proofs.Packing.{may_stand}
use Rattle.opgp_frame.specs.View.{viewed_packet}
use Rattle.opgp_keyring.proofs.composer.keyring_member.Goals as goal

pub of-requires : goal.of-requires
of-requires c = may_stand c.args.malformed (viewed_packet c.args.packet) c.kind-known.ensures.packet c.requires.stands c.requires.sound
