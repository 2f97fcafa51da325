use Rattle.std.proofs.Common.{◌≡◌, ◌+◌, ◌≤◌, ◌^◌, ℕ, length, get_or, arith}
use Rattle.std.proofs.lemmas.Grind.{common_steps}
use Rattle.opgp_frame.proofs.Cuts.{rest_small, rest_room}
use Rattle.opgp_frame.proofs.spelling.Spelling.next.Goals as goal

pub invariant_of-self-in-len1-up-clause-each : goal.invariant_of-self-in-len1-up-clause-each
invariant_of-self-in-len1-up-clause-each c = rest_small c.args.self.now.exponents.now c.in-len1-up.len_at_least c.args.self.now.each

pub invariant_of-self-in-len1-up-clause-pieces : goal.invariant_of-self-in-len1-up-clause-pieces
invariant_of-self-in-len1-up-clause-pieces c =
    let d = c.args.self.now in
    let k : ℕ = get_or d.exponents.now 0 0 in
    let small : k ≤ 30 = d.each 0 0 c.in-len1-up.len_at_least in
    let left : length c.split_at.result.1.now + 2 ^ k ≡ length d.body.now = grind (arith, common_steps) in
    rest_room d.exponents.now d.body.now (length c.split_at.result.1.now) c.in-len1-up.len_at_least d.pieces left
