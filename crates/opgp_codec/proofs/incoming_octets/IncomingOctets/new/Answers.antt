use Rattle.std.proofs.Common.{arith, refl}
use Rattle.opgp_codec.proofs.Coming.{none_taken}
use Rattle.opgp_codec.proofs.incoming_octets.IncomingOctets.new.Goals as goal

pub returns : goal.returns
returns c before = record {
  each = λ i. omega arith;
  taken = none_taken before;
  limit = c.input.ensures.value;
  count = refl;
}
