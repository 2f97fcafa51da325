use Rattle.std.proofs.Common.{◌≡◌, false}
use Rattle.opgp_keyring.specs.Keyring.{is_filler}
use Rattle.opgp_keyring.proofs.Sorting.{stray}
use Rattle.opgp_keyring.proofs.sorted.sort.Goals as goal

pub returns-in_default-2 : goal.returns-in_default-2
returns-in_default-2 c =
    let filler : is_filler c.args.kind ≡ false = cc in
    let n = c.in_default-2 in
    stray c.from.result c.args.kind c.from.ensures.0 n.not-Signature n.not-PublicKey n.not-UserId n.not-PublicSubkey n.not-UserAttribute filler
