use Rattle.std.proofs.Common.{◌≡◌, ◌-◌, ◌≤◌, ◌++◌, ℕ, List, length, take, drop, ap, subst, ◌∙◌, arith, append-nil, length-take-le}
use Rattle.opgp_octets.specs.declared.limits.Limits.{Limits}
use Rattle.opgp_keyring.specs.Composition.{Item}
use Rattle.opgp_codec.specs.declared.accepts.Accepts.TheVariants.{Any}
use Rattle.opgp_codec.specs.Items.{Fed}
use Rattle.opgp_codec.specs.PacketReader.{given, most_held}
use Rattle.opgp_codec.proofs.Readers.{input_all, input_more, kept_found, packets_held}
use Rattle.opgp_codec.proofs.Stepping.{fits}
use Rattle.opgp_codec.proofs.packet_reader.PacketReader.push.Goals as goal

pub step-requires-clause-fed : goal.step-requires-clause-fed
step-requires-clause-fed c =
    let r = c.requires.used in
    let f = c.steps.invariant.used r.0 r.1 in
    (_, r.0.mode, r.0.limits, _, _, f.fed)

pub steps-preserved : goal.steps-preserved
steps-preserved c =
    let piece = c.args.piece.now in
    let at = c.steps.at in
    let n = c.in-Some.n in
    let slice : List ℕ = take (length piece - at) (drop at piece) in
    let r = rw c.in-Some.is at c.in_ok-n.ensures.fed in
    let within : n ≤ length slice = rw c.in-Some.is at c.in_ok-n.ensures.within in
    let size : length (take n slice) ≡ n = length-take-le n slice within in
    let count = rw c.in-Some.is at c.in_ok-n.ensures.count in
    record {
      within = fits piece at n c.steps.invariant.within within;
      used = λ u used.
          let f = c.steps.invariant.used u used in
          record {
            items = f.items ++ r.0;
            fed = c.keep.ensures.fed Any u.mode u.limits _ _ (subst (λ (l : List ℕ). Fed Any u.mode u.limits c.step.new.self l (f.items ++ r.0)) (input_more u.input piece at n) (r.2 Any u.mode u.limits (u.input ++ take at piece) f.items f.fed));
            policy = f.policy;
            so_far = kept_found c.steps.self.malformed u.taken c.steps.self.fault c.keep.new.fault c.steps.self.waiting c.keep.new.waiting f.items r.0 _ r.1.0 r.1.2 (λ l. c.in_ok-keep.ensures.kept r.1.0 u.taken l r.1.1) f.so_far;
          };
      counted = c.steps.invariant.counted;
      count = omega (arith, count, size, c.steps.invariant.count);
    }

pub returns-clause-used : goal.returns-clause-used
returns-clause-used c u used =
    let f = c.steps.invariant.used u used in
    let r = rw c.in_default.is at c.in_ok-n.ensures.fed in
    let same : f.items ++ r.0 ≡ f.items = ap (λ (l : List Item). f.items ++ l) r.1 ∙ append-nil f.items in
    let next = r.2 Any u.mode u.limits (u.input ++ take c.steps.at c.args.piece.now) f.items f.fed in
    record {
      items = f.items;
      fed = subst (λ (l : List ℕ). Fed Any u.mode u.limits c.step.new.self l f.items) (input_all u.input c.args.piece.now c.steps.at) (subst (Fed Any u.mode u.limits c.step.new.self _) same next);
      policy = f.policy;
      so_far = f.so_far;
      counted = c.steps.invariant.counted ∙ used.counted;
      done = c.in_ok-n.ensures.done c.in_default.is;
    }

pub returns-clause-held : goal.returns-clause-held
returns-clause-held c u used =
    let next = returns-clause-used c u used in
    packets_held (given u c.args.piece.now) c.step.new.self next.items next.fed

pub returns-clause-going : goal.returns-clause-going
returns-clause-going c limits r = record {
  so_far = given r.so_far c.args.piece.now;
  limits_kept = r.limits_kept;
  used = returns-clause-used c r.so_far r.used;
  held = subst (λ (l : Limits). _ ≤ most_held l) r.limits_kept (returns-clause-held c r.so_far r.used);
}
