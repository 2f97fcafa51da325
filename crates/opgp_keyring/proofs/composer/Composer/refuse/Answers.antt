use Rattle.opgp_keyring.proofs.States.{refused, behind}
use Rattle.std.proofs.Common.{sym}
use Rattle.opgp_keyring.proofs.HandedOut.{fed_of, standing_of}
use Rattle.opgp_keyring.proofs.composer.Composer.refuse.Goals as goal

pub returns-then-is_open-clause-fed : goal.returns-then-is_open-clause-fed
returns-then-is_open-clause-fed c limits given taken i f sound here =
    let opened = sym c.if-is_open.ensures in
    fed_of (record { limits_kept = f.limits_kept; state = rw c.replace.ensures.after (refused limits c.args.self.now.state given _ i _ (standing_of f).state sound opened (here opened)) })

pub returns-else-is_open-clause-fed : goal.returns-else-is_open-clause-fed
returns-else-is_open-clause-fed c limits given taken i f sound here =
    fed_of (record { limits_kept = f.limits_kept; state = behind limits c.args.self.now.state given _ i (standing_of f).state sound (sym c.if-is_open.ensures) })
