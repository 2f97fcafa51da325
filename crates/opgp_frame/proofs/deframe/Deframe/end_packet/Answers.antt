use Rattle.std.proofs.Common.{◌≡◌}
use Rattle.opgp_frame.proofs.deframe.Deframe.end_packet.Goals as goal

pub returns-clause-whole : goal.returns-clause-whole
returns-clause-whole c limits from until rest at full last =
    let d = c.args.self.now in
    let body : c.replace-body.result ≡ d.body = c.replace-body.ensures.value in
    let exponents : c.replace-exponents.result ≡ d.exponents = c.replace-exponents.ensures.value in
    c.placed.ensures.whole limits from until rest (rw (body, exponents) at) (rw body full) last
