use Rattle.opgp_octets.proofs.Digits.{upper_is_text}
use Rattle.opgp_octets.proofs.hexadecimal.write_hexadecimal.Goals as goal

pub unreachable-requires : goal.unreachable-requires
unreachable-requires c = absurd (c.in-Err.ensures.cases.0
    (rw c.write_digits.ensures (upper_is_text c.args.octets.now)))
