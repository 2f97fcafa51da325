-- What is written of each part of a keyring.
use Rattle.std.specs.Prelude.{ℕ, List, []}
use Rattle.opgp_frame.specs.Packet.{packets_octets}
use Rattle.opgp_keyring.specs.Composed.{PartValue, of_lead, of_certificate}
use Rattle.opgp_keyring.specs.Keyring.{certificate_packets}
use Rattle.opgp_keyring.specs.Parts.{normal_part, part_packets}
use Rattle.opgp_merge.specs.Chosen.{chosen_part}
use Rattle.opgp_merge.specs.declared.choice.Choice.{Choice}
use Rattle.opgp_codec.specs.declared.out.Out.{Out}
use Rattle.opgp_codec.specs.Writing.{packets_text}
use Rattle.opgp_stack.specs.Listing.{listing}
use Rattle.opgp_stack.specs.ValuedListing.{valued_listing}

-- the lines of its listing
abbrev pub part_lines : PartValue → List ℕ
part_lines part = listing (part_packets part)

-- those with values
abbrev pub part_valued_lines : PartValue → List ℕ
part_valued_lines part = valued_listing (part_packets part)

-- its packets, as they are and in the current format
abbrev pub part_octets : PartValue → List ℕ
part_octets part = packets_octets (part_packets part)

abbrev pub normal_octets : PartValue → List ℕ
normal_octets part = packets_octets (part_packets (normal_part part))

-- what is chosen of it, as it is
abbrev pub chosen_octets : Choice → PartValue → List ℕ
chosen_octets choice part = packets_octets (part_packets (chosen_part choice part))

-- a certificate on its own; nothing of the lead
abbrev pub certificate_text : Out → PartValue → List ℕ
certificate_text out (of_lead ps) = []
certificate_text out (of_certificate c) = packets_text out (certificate_packets c)
