use Rattle.opgp_codec.specs.declared.accepts.Accepts.TheVariants.{Any}
use Rattle.opgp_codec.proofs.Readers.{ends_below, ends_faulty, ends_sound}
use Rattle.opgp_codec.proofs.packet_reader.PacketReader.finish.Goals as goal

pub returns-in-None : goal.returns-in-None
returns-in-None c u used =
    let answer = c.in_ok-ended.ensures Any u.mode u.limits u.input used.items used.fed in
    ends_sound u c.args.self.malformed c.args.self.waiting used.items _ used.policy c.a_block_has_no_more_octets_than_the_text.ensures (rw c.in-None.is at used.so_far) (rw c.in-Ok.is at answer)

pub returns-in-Some : goal.returns-in-Some
returns-in-Some c u used =
    let answer = c.in_ok-ended.ensures Any u.mode u.limits u.input used.items used.fed in
    ends_faulty u c.args.self.malformed c.args.self.waiting used.items c.in-Some.fault _ used.policy c.a_block_has_no_more_octets_than_the_text.ensures (rw c.in-Some.is at used.so_far) (rw c.in-Ok.is at answer)

pub returns-in-Err : goal.returns-in-Err
returns-in-Err c u used = ends_below u used.items c.in-Err.fault (rw c.in-Err.is at (c.in_ok-ended.ensures Any u.mode u.limits u.input used.items used.fed))
