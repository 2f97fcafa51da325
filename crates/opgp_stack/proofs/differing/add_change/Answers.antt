use Rattle.std.proofs.Common.{◌≡◌, ◌∙◌, ℕ, List, ◌++◌, Option, sym, ap}
use Rattle.opgp_frame.specs.Packet.{PacketValue}
use Rattle.opgp_hash.specs.declared.fingerprints.Fingerprint.{Fingerprint}
use Rattle.opgp_io.proofs.Extended.{extends_stop, extends_then}
use Rattle.opgp_keyring.specs.Keyring.{KeyringValue}
use Rattle.opgp_difference.specs.Entries.{PlacedValue}
use Rattle.opgp_difference.specs.declared.place.PacketPlace.{PacketPlace}
use Rattle.opgp_stack.specs.Differing.{changed_line, place_words, print_at, octets_of}
use Rattle.opgp_stack.specs.ValuedListing.{valued_packet_line}
use Rattle.opgp_stack.proofs.differing.add_change.Goals as goal

changed : (word : List ℕ) (r : KeyringValue) (p : PlacedValue) (print : Option Fingerprint) (n : ℕ) (place : PacketPlace) (packet : PacketValue)
    → print ≡ print_at r n → n ≡ p.place.certificate → place ≡ p.place → packet ≡ p.packet
    → changed_line word r p ≡ place_words word (octets_of print) place ++ valued_packet_line packet
changed word r p print n place packet is named placed packed =
    ap (λ (o : Option Fingerprint). place_words word (octets_of o) p.place ++ valued_packet_line p.packet) (sym (is ∙ ap (print_at r) named))
    ∙ ap (λ (q : PacketPlace). place_words word (octets_of print) q ++ valued_packet_line p.packet) (sym placed)
    ∙ ap (λ (q : PacketValue). place_words word (octets_of print) place ++ valued_packet_line q) (sym packed)

pub returns-in_err-add_place : goal.returns-in_err-add_place
returns-in_err-add_place g c =
    extends_stop (valued_packet_line c.args.packet.now.packet)
    (changed c.args.word.now c.args.named.keyring.now c.args.packet.now c.args.named.print c.args.named.number c.place.result c.args.packet.now.packet
    c.args.named.is c.requires.named c.place.ensures (λ i. c.args.packet.now.packet))
    c.from_residual.ensures.0 c.in_err-add_place.ensures

pub returns : goal.returns
returns g c =
    extends_then
    (changed c.args.word.now c.args.named.keyring.now c.args.packet.now c.args.named.print c.args.named.number c.place.result _
    c.args.named.is c.requires.named c.place.ensures c.packet.ensures)
    c.in_ok-add_place.ensures c.add_valued_line.ensures
