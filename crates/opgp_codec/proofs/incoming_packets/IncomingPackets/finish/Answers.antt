use Rattle.opgp_codec.specs.Packets.{ArePackets, any_label}
use Rattle.opgp_codec.specs.declared.accepts.Accepts.TheVariants.{Any}
use Rattle.opgp_codec.proofs.Coming.{of_input}
use Rattle.opgp_codec.proofs.Concluding.{answer_fault}
use Rattle.opgp_codec.proofs.Packeted.{packets_faulty, packets_sound}
use Rattle.opgp_codec.proofs.incoming_packets.IncomingPackets.finish.Goals as goal

pub returns-in-None : goal.returns-in-None
returns-in-None c mode limits before now packets p over =
    let ended = rw c.in-Ok-Ok.field-0-is at (c.in-Ok-Ok.ensures Any mode limits before now p.items p.came over.1) in
    of_input before now limits _ _ (λ octets h. packets_sound mode limits octets c.args.self.malformed p.items packets _ p.policy (rw c.in-None.is at p.so_far) h) ended

pub returns-in-Some : goal.returns-in-Some
returns-in-Some c mode limits before now packets p over =
    let ended = rw c.in-Ok-Ok.field-0-is at (c.in-Ok-Ok.ensures Any mode limits before now p.items p.came over.1) in
    of_input before now limits _ _ (λ octets h. packets_faulty mode limits octets c.args.self.malformed p.items packets _ p.policy c.in-Some.fault c.a_block_has_no_more_octets_than_the_text.ensures (rw c.in-Some.is at p.so_far) h) ended

pub returns-in-Ok-Err : goal.returns-in-Ok-Err
returns-in-Ok-Err c mode limits before now packets p over =
    let ended = rw c.in-Ok-Err.field-0-is at (c.in-Ok-Err.ensures Any mode limits before now p.items p.came over.1) in
    of_input before now limits _ _ (λ octets h. answer_fault any_label (ArePackets limits) mode limits octets p.items c.in-Ok-Err.fault h) ended
