use Rattle.std.proofs.Common.{length}
use Rattle.opgp_octets.specs.MpiView.{mpi_seen}
use Rattle.opgp_packet.proofs.SpanLaws.{mpi_placed}
use Rattle.opgp_packet.proofs.cursor.Cursor.mpi.Goals as goal

pub returns-in-Ok-clause-reads : goal.returns-in-Ok-clause-reads
returns-in-Ok-clause-reads c =
    let s = c.args.self.now in
    mpi_placed (length s.body.now) c.args.strict s.body.now c.rest.result.now s.at c.in-Ok.count c.bits.result (mpi_seen c.in-Ok.view) c.rest.ensures c.bits.ensures c.in-Ok.ensures.found c.in-Ok.ensures.exact
