use Rattle.std.proofs.Common.{[], ◌∷◌, ◌++◌, Some, None}
use Rattle.opgp_keyring.specs.Grouped.{component_of, hangs_left}
use Rattle.opgp_keyring.specs.Member.{member_packet}
use Rattle.opgp_difference.specs.Entries.{Entry, Standing, component_standing, hang_standing, hangs_on, numbered, packet_name, place_of}
use Rattle.opgp_difference.proofs.Walking.{joined}
use Rattle.opgp_difference.proofs.visiting.visit_component.Goals as goal

pub returns-clause-met : goal.returns-clause-met
returns-clause-met g c met e has knows =
    let head : Standing = hangs_on e (place_of c.args.certificate (Some c.args.number) None) (member_packet c.head.result) in
    let top : Entry = packet_name (member_packet c.head.result) ∷ e in
    joined g.V.Visitor.has c.visit_hangs.new.visitor met (head ∷ [])
    (numbered (hang_standing top c.args.certificate (Some c.args.number)) 0 (hangs_left c.hangs.result))
    (component_standing e c.args.certificate c.args.number (component_of c.args.component))
    (λ i. hangs_on e (place_of c.args.certificate (Some c.args.number) None) (c.head.ensures.value i)
    ∷ numbered (hang_standing (packet_name (c.head.ensures.value i) ∷ e) c.args.certificate (Some c.args.number)) 0 (c.hangs.ensures i))
    (c.in_ok-visit_hangs.ensures.met (met ++ head ∷ []) top (c.in_ok-head.ensures.met met e has knows) (c.in_ok-head.ensures.node met e has knows))

pub returns-clause-keeps : goal.returns-clause-keeps
returns-clause-keeps g c met e has knows f n known =
    let head : Standing = hangs_on e (place_of c.args.certificate (Some c.args.number) None) (member_packet c.head.result) in
    c.in_ok-visit_hangs.ensures.keeps (met ++ head ∷ []) (packet_name (member_packet c.head.result) ∷ e)
    (c.in_ok-head.ensures.met met e has knows) (c.in_ok-head.ensures.node met e has knows) f n (c.in_ok-head.ensures.keeps met e has knows f n known)
