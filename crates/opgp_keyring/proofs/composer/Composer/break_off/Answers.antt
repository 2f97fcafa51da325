use Rattle.std.proofs.Common.{sym, subst}
use Rattle.opgp_octets.specs.declared.limits.Limits.{Limits}
use Rattle.opgp_octets.specs.Limits.{malformed_of}
use Rattle.opgp_keyring.specs.Bodies.{HasFault}
use Rattle.opgp_keyring.proofs.States.{breaks, broken}
use Rattle.opgp_keyring.proofs.HandedOut.{fed_of, standing_of}
use Rattle.opgp_keyring.proofs.composer.Composer.break_off.Goals as goal

pub returns-then-not-is_broken-clause-fed : goal.returns-then-not-is_broken-clause-fed
returns-then-not-is_broken-clause-fed c p octets here limits given taken f =
    fed_of (record { limits_kept = f.limits_kept; state = rw (c.replace.ensures.after, c.placed-fault.ensures) (breaks limits c.args.self.now.state given _ (record { packet = p; block = c.args.block; pos = c.args.pos }) c.args.fault (standing_of f).state (sym c.if-not-is_broken.ensures) octets (subst (λ (l : Limits). HasFault (malformed_of l) p c.args.fault) f.limits_kept here)) })

pub returns-else-not-is_broken-clause-fed : goal.returns-else-not-is_broken-clause-fed
returns-else-not-is_broken-clause-fed c p octets here limits given taken f =
    fed_of (record { limits_kept = f.limits_kept; state = broken limits c.args.self.now.state given _ (record { packet = p; block = c.args.block; pos = c.args.pos }) (standing_of f).state (sym c.if-not-is_broken.ensures) })
