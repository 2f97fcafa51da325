use Rattle.std.proofs.Common.{List, [], ◌∷◌, ◌++◌, None, refl}
use Rattle.opgp_keyring.specs.Grouped.{components_left, hangs_left}
use Rattle.opgp_keyring.specs.Member.{member_packet}
use Rattle.opgp_difference.specs.Entries.{Entry, Standing, certificate_standing, component_standing, hang_standing, hangs_on, numbered, packet_name, place_of}
use Rattle.opgp_difference.proofs.Walking.{joined}
use Rattle.opgp_difference.proofs.visiting.visit_certificate.Goals as goal

pub returns-clause-met : goal.returns-clause-met
returns-clause-met g c met has knows =
    let top : Entry = packet_name (member_packet c.primary.result) ∷ [] in
    let first : List Standing = hangs_on [] (place_of c.args.number None None) (member_packet c.primary.result) ∷ [] in
    let hangs : List Standing = numbered (hang_standing top c.args.number None) 0 (hangs_left c.hangs.result) in
    let components : List Standing = numbered (component_standing top c.args.number) 0 (components_left c.components.result) in
    let begun = c.in_ok-primary.ensures.met met [] has knows in
    let node = c.in_ok-primary.ensures.node met [] has knows in
    let hung = c.in_ok-visit_hangs.ensures.met (met ++ first) top begun node in
    let kept = c.in_ok-visit_hangs.ensures.keeps (met ++ first) top begun node top c.in_ok-primary.primary node in
    joined g.V.Visitor.has c.visit_components.new.visitor met first (hangs ++ components) (certificate_standing c.args.number c.args.certificate.now)
    (λ i. hangs_on [] (place_of c.args.number None None) (c.primary.ensures.value i)
    ∷ (numbered (hang_standing (packet_name (c.primary.ensures.value i) ∷ []) c.args.number None) 0 (c.hangs.ensures.value i)
    ++ numbered (component_standing (packet_name (c.primary.ensures.value i) ∷ []) c.args.number) 0 (c.components.ensures.value i)))
    (joined g.V.Visitor.has c.visit_components.new.visitor (met ++ first) hangs components (hangs ++ components) refl
    (c.in_ok-visit_components.ensures.met ((met ++ first) ++ hangs) top hung kept))

pub returns-clause-keeps : goal.returns-clause-keeps
returns-clause-keeps g c met has knows f n known =
    let top : Entry = packet_name (member_packet c.primary.result) ∷ [] in
    let first : List Standing = hangs_on [] (place_of c.args.number None None) (member_packet c.primary.result) ∷ [] in
    let hangs : List Standing = numbered (hang_standing top c.args.number None) 0 (hangs_left c.hangs.result) in
    let begun = c.in_ok-primary.ensures.met met [] has knows in
    let node = c.in_ok-primary.ensures.node met [] has knows in
    let hung = c.in_ok-visit_hangs.ensures.met (met ++ first) top begun node in
    let kept = c.in_ok-visit_hangs.ensures.keeps (met ++ first) top begun node top c.in_ok-primary.primary node in
    c.in_ok-visit_components.ensures.keeps ((met ++ first) ++ hangs) top hung kept f n
    (c.in_ok-visit_hangs.ensures.keeps (met ++ first) top begun node f n (c.in_ok-primary.ensures.keeps met [] has knows f n known))
