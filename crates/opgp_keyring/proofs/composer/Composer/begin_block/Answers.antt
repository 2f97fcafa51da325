use Rattle.std.proofs.Common.{refl}
use Rattle.opgp_keyring.specs.Composition.{of_label}
use Rattle.opgp_keyring.proofs.Keeping.{kept_one}
use Rattle.opgp_keyring.proofs.States.{labelled}
use Rattle.opgp_keyring.proofs.HandedOut.{fed_of, standing_of}
use Rattle.opgp_keyring.proofs.composer.Composer.begin_block.Goals as goal

pub returns-then-not-label_fits-clause-fed : goal.returns-then-not-label_fits-clause-fed
returns-then-not-label_fits-clause-fed c =
    kept_one c.args.self.now c.refuse.new.self (of_label c.args.block c.args.label_fits)
    (λ limits given taken f. c.refuse.ensures.fed limits given taken (of_label c.args.block c.args.label_fits) f tt (λ _. (c.if-not-label_fits.true, refl)))

pub returns-else-not-label_fits-clause-fed : goal.returns-else-not-label_fits-clause-fed
returns-else-not-label_fits-clause-fed c =
    kept_one c.args.self.now c.args.self.now (of_label c.args.block c.args.label_fits)
    (λ limits given taken f. fed_of (record { limits_kept = f.limits_kept; state = rw c.if-not-label_fits.false (labelled limits c.args.self.now.state given _ c.args.block (standing_of f).state) }))
