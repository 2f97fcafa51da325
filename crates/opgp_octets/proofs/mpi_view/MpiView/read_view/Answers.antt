use Rattle.std.proofs.Common.{arith}
use Rattle.opgp_octets.specs.Octets.{IsOctets}
use Rattle.opgp_octets.proofs.Bytes.{IsOctets-take, IsOctets-drop}
use Rattle.opgp_octets.proofs.mpi_view.MpiView.read_view.Goals as goal

pub invariant_of-view : goal.invariant_of-view
invariant_of-view c =
    let each : IsOctets c.args.o.now = λ i. omega (arith, c.type_inv.o i) in
    record {
      whole = omega (arith, c.split_at.ensures.front_len, c.from.ensures);
      each = rw (c.split_at.ensures.front, c.in-Some.ensures.rest) (IsOctets-take _ _ (IsOctets-drop 2 c.args.o.now each));
    }
