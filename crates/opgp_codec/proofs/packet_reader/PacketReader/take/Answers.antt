use Rattle.std.proofs.Common.{◌≡◌, ◌++◌, List, sym, ap, ◌∙◌, append_assoc}
use Rattle.opgp_frame.specs.declared.packet.Placed.{Placed}
use Rattle.opgp_codec.specs.PacketReader.{handed, packets_in, taking}
use Rattle.opgp_codec.specs.Used.{one_if}
use Rattle.opgp_codec.proofs.Readers.{counted_more, one_handed}
use Rattle.opgp_codec.proofs.SoundSoFar.{so_far_kept}
use Rattle.opgp_codec.proofs.packet_reader.PacketReader.take.Goals as goal

-- what was taken and what waits are the same packets
pub returns-clause-used : goal.returns-clause-used
returns-clause-used c u used =
    let r = c.args.self.now in
    let packet = handed c.take-packet.result in
    let new = packets_in c.take-packet.new.self in
    record {
      items = used.items;
      fed = used.fed;
      policy = used.policy;
      so_far = so_far_kept r.malformed (λ ps. ps ≡ u.taken ++ packets_in r.waiting) (λ ps. ps ≡ (u.taken ++ packet) ++ new) r.fault _
          (λ ps e. e ∙ ap (λ (l : List Placed). u.taken ++ l) c.take-packet.ensures.packets ∙ sym (append_assoc u.taken packet new)) used.so_far;
      counted = counted_more u.taken packet r.taken c.counted-self.result _ used.counted (one_handed c.take-packet.result ∙ ap one_if (sym c.is_some.ensures)) c.counted-self.ensures;
      done = used.done;
    }

pub returns-clause-going : goal.returns-clause-going
returns-clause-going c limits r = record {
  so_far = taking r.so_far (handed c.take-packet.result);
  limits_kept = r.limits_kept;
  used = returns-clause-used c r.so_far r.used;
  held = r.held;
}
