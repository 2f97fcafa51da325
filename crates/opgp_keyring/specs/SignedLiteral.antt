-- The value of a signed literal.
use Rattle.std.specs.Prelude.{◌≡◌, ℕ, List, Result, Ok, Err}
use Rattle.opgp_octets.specs.declared.fault.BodyFault.{BodyFault}
use Rattle.opgp_frame.specs.Packet.{PacketValue}
use Rattle.opgp_packet.specs.declared.sig_view.SigView.{SigView}
use Rattle.opgp_packet.specs.SignatureBody.{signature_at}
use Rattle.opgp_packet.specs.SigView.{sig_view_octets}
use Rattle.opgp_keyring.specs.declared.signatures.Signatures.{Signatures}
use Rattle.opgp_keyring.specs.declared.signed_literal.SignedLiteral.{SignedLiteral}
use Rattle.opgp_keyring.specs.Signed.{signature_bodies}

-- all its packets, in order
abbrev pub signed_packets : SignedLiteral → List PacketValue
signed_packets l = l.flat.items

-- the bodies of the signatures that are left to be visited, in order
abbrev pub signatures_left : Signatures → List (List ℕ)
signatures_left s = signature_bodies s.packets.now

-- a signature's body as it is read: as that signature, or by the fault of a malformed one (5.2.5)
abbrev pub IsReadAs : List ℕ → Result SigView BodyFault → Type 0
IsReadAs body (Ok view) = sig_view_octets view ≡ body
IsReadAs body (Err fault) = signature_at body ≡ Err fault
