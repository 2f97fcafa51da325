use Rattle.opgp_keyring.proofs.Sorting.{untyped}
use Rattle.opgp_frame.specs.View.{viewed}
use Rattle.opgp_keyring.proofs.checking.view_fault.Goals as goal

pub returns-in-Some : goal.returns-in-Some
returns-in-Some c =
    let p = viewed c.args.placed in
    record {
      why = c.in-Some.fault;
      octets = c.kind.ensures.packet.octets;
      here = untyped c.args.malformed p.packet c.kind.result c.from.result c.body.result.now c.in-Some.fault c.kind.ensures.value c.from.ensures.0 c.body.ensures.value c.in-Some.ensures.fault;
      is = c.placed.ensures;
    }
