use Rattle.std.proofs.Common.{◌++◌, List, refl, sym, ap, ◌∙◌, append_assoc}
use Rattle.opgp_keyring.specs.Composed.{PartValue}
use Rattle.opgp_keyring.specs.State.{ready_parts}
use Rattle.opgp_codec.specs.PartReader.{taking}
use Rattle.opgp_codec.specs.Waiting.{parts_in}
use Rattle.opgp_codec.specs.Used.{one_if}
use Rattle.opgp_codec.proofs.Readers.{counted_more, one_part, used_as}
use Rattle.opgp_codec.proofs.part_reader.PartReader.take.Goals as goal

-- what was taken and what waits are the same parts
pub returns-clause-used : goal.returns-clause-used
returns-clause-used c u used =
    let part = ready_parts c.take-part.result in
    record {
      used = used_as u.mode u.limits _ _ _ _ c.args.self.now.parts refl
          (ap (λ (l : List PartValue). u.taken ++ l) c.take-part.ensures.parts ∙ sym (append_assoc u.taken part (parts_in c.take-part.new.self))) used.used;
      counted = counted_more u.taken part c.args.self.now.taken c.counted-self.result _ used.counted (one_part c.take-part.result ∙ ap one_if (sym c.is_some.ensures)) c.counted-self.ensures;
      done = used.done;
    }

pub returns-clause-going : goal.returns-clause-going
returns-clause-going c limits r = record {
  so_far = taking r.so_far (ready_parts c.take-part.result);
  limits_kept = r.limits_kept;
  used = returns-clause-used c r.so_far r.used;
  held = r.held;
}
