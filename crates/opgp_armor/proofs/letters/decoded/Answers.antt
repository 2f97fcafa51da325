use Rattle.std.proofs.Common.{◌≡◌, length, arith}
use Rattle.opgp_armor.proofs.Empty.{nothing_decodes, nothing_encodes}
use Rattle.opgp_armor.proofs.letters.decoded.Goals as goal

pub returns-then-is_empty-clause-ok : goal.returns-then-is_empty-clause-ok
returns-then-is_empty-clause-ok c =
    let none : length c.args.groups.now ≡ 0 = grind (arith, c.is_empty.ensures, c.if-is_empty.true) in
    nothing_decodes c.args.groups.now c.new.result.items none c.new.ensures.items

pub returns-then-is_empty-clause-exact : goal.returns-then-is_empty-clause-exact
returns-then-is_empty-clause-exact c =
    let none : length c.args.groups.now ≡ 0 = grind (arith, c.is_empty.ensures, c.if-is_empty.true) in
    nothing_encodes c.args.groups.now c.new.result.items none c.new.ensures.items
