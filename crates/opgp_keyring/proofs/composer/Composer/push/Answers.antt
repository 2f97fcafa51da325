use Rattle.std.proofs.Common.{◌∷◌, [], OnOk, subst}
use Rattle.opgp_frame.specs.declared.packet.Placed.{Placed}
use Rattle.opgp_keyring.specs.Composition.{of_packet}
use Rattle.opgp_keyring.specs.Fed.{KeepsFed}
use Rattle.opgp_keyring.proofs.composer.Composer.push.Goals as goal

pub returns-clause-fed : goal.returns-clause-fed
returns-clause-fed c = subst (λ (p : Placed). OnOk c.push_view.result (KeepsFed c.args.self.now c.push_view.new.self (of_packet p ∷ []) [])) c.of.ensures c.push_view.ensures.fed
