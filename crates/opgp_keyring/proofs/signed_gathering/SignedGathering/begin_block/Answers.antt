use Rattle.std.proofs.Common.{◌∷◌, [], ◌++◌, Bool, refl, sym, subst, ◌∙◌}
use Rattle.opgp_keyring.specs.Composition.{of_label}
use Rattle.opgp_keyring.specs.SignedState.{IsSignedIn}
use Rattle.opgp_keyring.proofs.SignedStates.{block_begins, end_none, labelled}
use Rattle.opgp_keyring.proofs.signed_gathering.SignedGathering.begin_block.Goals as goal

pub returns-then-not-label_fits : goal.returns-then-not-label_fits
returns-then-not-label_fits c policy given g =
    let block = c.args.block in
    let fits = c.args.label_fits in
    record {
      policy_kept = c.refuse.ensures.malformed ∙ g.policy_kept;
      state = c.refuse.ensures.state policy given (of_label block fits) tt (λ e. (c.if-not-label_fits.true, refl)) g.state;
      block = c.refuse.ensures.block ∙ sym (block_begins given block fits);
      end = c.refuse.ensures.end ∙ end_none given block fits;
    }

pub returns-else-not-label_fits : goal.returns-else-not-label_fits
returns-else-not-label_fits c policy given g =
    let block = c.args.block in
    let fits = c.args.label_fits in
    record {
      policy_kept = g.policy_kept;
      state = subst (λ (b : Bool). IsSignedIn policy c.args.self.now.state (given ++ of_label block b ∷ []) c.args.self.now.flat.items) (sym c.if-not-label_fits.false) (labelled policy c.args.self.now.state given c.args.self.now.flat.items block g.state);
      block = sym (block_begins given block fits);
      end = end_none given block fits;
    }
