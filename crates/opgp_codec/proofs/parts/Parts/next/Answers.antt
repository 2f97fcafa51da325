use Rattle.std.proofs.Common.{◌≡◌, ◌+◌, ◌-◌, ◌<◌, ◌≤◌, ◌∷◌, ℕ, List, [], length, take, drop, ap, subst, arith, length-take-le}
use Rattle.opgp_keyring.specs.State.{part_of}
use Rattle.opgp_codec.specs.Items.{left_of}
use Rattle.opgp_codec.specs.Parts.{given}
use Rattle.opgp_codec.proofs.Stepping.{fits, rest_length}
use Rattle.opgp_codec.proofs.Parting.{composed_found, held_within, none_taking, taking_none, used_all, used_more}
use Rattle.opgp_codec.proofs.parts.Parts.next.Goals as goal

pub step-requires-clause-fed : goal.step-requires-clause-fed
step-requires-clause-fed c =
    let r = c.requires.used in
    let u = c.steps.invariant.used r.0 r.1 in
    (_, r.0.mode, r.0.limits, _, _, u.1)

pub returns-in-Some-take-clause-used : goal.returns-in-Some-take-clause-used
returns-in-Some-take-clause-used c u used =
    let r = rw c.in-Some.is at c.in_ok-n.ensures.fed in
    let parts = part_of c.in-Some-take.part ∷ [] in
    let composed = composed_found c.steps.self.composer c.open_block.new.composer c.compose.new.composer c.take.new.self r.0 _ c.step.new.self.framer.opening _ r.1.0 parts c.opening.ensures (c.packet.ensures r.1.0 r.1.1) r.1.2 c.open_block.ensures.fed c.in_ok-compose.ensures.fed c.in-Some-take.ensures.fed in
    used_more u c.steps.self.items c.step.new.self c.steps.self.composer c.take.new.self c.args.piece.now c.steps.at c.in-Some.n r.0 parts r.2 composed (c.steps.invariant.used u used)

pub steps-preserved : goal.steps-preserved
steps-preserved c =
    let piece = c.args.piece.now in
    let at = c.steps.at in
    let n = c.in-Some.n in
    let slice : List ℕ = take (length piece - at) (drop at piece) in
    let r = rw c.in-Some.is at c.in_ok-n.ensures.fed in
    let within : n ≤ length slice = rw c.in-Some.is at c.in_ok-n.ensures.within in
    let size : length (take n slice) ≡ n = length-take-le n slice within in
    let count = rw c.in-Some.is at c.in_ok-n.ensures.count in
    let rest : length slice ≡ length piece - at = rest_length piece at in
    let behind : length slice - n ≡ length piece - (at + n) = omega (arith, rest) in
    let lessens = rw c.in-Some.is at c.in_ok-n.ensures.lessens in
    let more : left_of c.step.new.self (length piece - (at + n)) < left_of c.steps.self.items (length slice) = subst (λ (k : ℕ). left_of c.step.new.self k < left_of c.steps.self.items (length slice)) behind lessens in
    let same : left_of c.steps.self.items (length slice) ≡ left_of c.steps.self.items (length piece - at) = ap (λ (k : ℕ). left_of c.steps.self.items k) rest in
    let composed = composed_found c.steps.self.composer c.open_block.new.composer c.compose.new.composer c.take.new.self r.0 _ c.step.new.self.framer.opening _ r.1.0 [] c.opening.ensures (c.packet.ensures r.1.0 r.1.1) r.1.2 c.open_block.ensures.fed c.in_ok-compose.ensures.fed c.in_default-take.ensures.fed in
    record {
      within = fits piece at n c.steps.invariant.within within;
      used = λ u used. taking_none (given u (take (at + n) piece)) c.step.new.self c.take.new.self
          (used_more u c.steps.self.items c.step.new.self c.steps.self.composer c.take.new.self piece at n r.0 [] r.2 composed (c.steps.invariant.used u used));
      count = omega (arith, count, size, c.steps.invariant.count);
      left = omega (arith, more, same, c.steps.invariant.left);
    }

pub returns-clause-used : goal.returns-clause-used
returns-clause-used c u used =
    let r = rw c.in_default.is at c.in_ok-n.ensures.fed in
    none_taking (given u c.args.piece.now) c.step.new.self c.steps.self.composer (used_all u c.steps.self.items c.step.new.self c.steps.self.composer c.args.piece.now c.steps.at r.0 r.1 r.2 (c.steps.invariant.used u used))

pub returns-in-Some-take-clause-held : goal.returns-in-Some-take-clause-held
returns-in-Some-take-clause-held c u used = held_within _ c.step.new.self c.take.new.self c.take.ensures.free (returns-in-Some-take-clause-used c u used)

pub returns-clause-held : goal.returns-clause-held
returns-clause-held c u used = held_within _ c.step.new.self c.steps.self.composer c.steps.self.free (returns-clause-used c u used)
