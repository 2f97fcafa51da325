use Rattle.std.proofs.Common.{arith}
use Rattle.opgp_keyring.specs.Keyring.{octets_of}
use Rattle.opgp_keyring.proofs.laws.bodies_and_8_a_packet_are_at_most_4_times_the_octets.Goals as goal

pub returns : goal.returns
unfolding octets_of
returns c = λ ps. omega (arith, c.two_octets_beside_each_body.ensures ps)
