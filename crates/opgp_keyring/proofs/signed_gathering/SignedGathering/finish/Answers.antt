use Rattle.std.proofs.Common.{List, sym, subst, ◌∙◌}
use Rattle.opgp_frame.specs.Packet.{PacketValue}
use Rattle.opgp_octets.specs.declared.malformed.Malformed.{Malformed}
use Rattle.opgp_keyring.specs.declared.signed_gathering.SignedState.{SignedState}
use Rattle.opgp_keyring.specs.Composition.{Item}
use Rattle.opgp_keyring.specs.Signed.{told_end}
use Rattle.opgp_keyring.specs.SignedState.{IsSignedIn}
use Rattle.opgp_keyring.proofs.SignedBodies.{all_kept}
use Rattle.opgp_keyring.proofs.SignedStates.{kept_sound, early}
use Rattle.opgp_keyring.proofs.signed_gathering.SignedGathering.finish.Goals as goal

pub new-requires-clause-sound : goal.new-requires-clause-sound
new-requires-clause-sound c =
    let kept : List PacketValue = c.args.self.flat.items in
    let policy : Malformed = c.requires.0 in
    let items : List Item = c.requires.1.0 in
    all_kept policy kept (kept_sound policy c.in-Open.shape items kept (subst (λ (s : SignedState). IsSignedIn policy s items kept) c.in-Open.is c.requires.1.1.state))

pub returns-in-Open-2 : goal.returns-in-Open-2
returns-in-Open-2 c = λ policy items g.
    let kept : List PacketValue = c.args.self.flat.items in
    early policy c.in-Open.shape items kept c.args.self.block c.args.self.end (told_end items) (sym c.is_whole.ensures ∙ c.if-is_whole.false) (subst (λ (s : SignedState). IsSignedIn policy s items kept) c.in-Open.is g.state) g.block g.end
