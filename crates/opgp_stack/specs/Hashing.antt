-- What the signatures on a signed literal hash (RFC 9580, 5.2.4, 10.3).
use Rattle.std.specs.Prelude.{ℕ, List, [], ◌∷◌, map, Result, Ok, Err}
use Rattle.opgp_octets.specs.declared.fault.BodyFault.{BodyFault}
use Rattle.opgp_packet.specs.FieldReading.{body_at}
use Rattle.opgp_packet.specs.Fields.{Field, bare}
use Rattle.opgp_frame.specs.Packet.{PacketValue}
use Rattle.opgp_hash.specs.declared.why.Why.TheVariants.{Opaque}
use Rattle.opgp_hash.specs.Asking.{ask_of}
use Rattle.opgp_hash.specs.SubjectValue.{binary}
use Rattle.opgp_packet.specs.LiteralBody.{literal}
use Rattle.opgp_report.specs.Asked.{Asked}
use Rattle.opgp_keyring.specs.Signed.{literal_bodies, signature_bodies}
use Rattle.opgp_packet.specs.SignatureBody.{SignatureValue, signature_at}

-- the fourth field of a literal is its content (5.9)
abbrev pub content_of : Result (List Field) BodyFault → List ℕ
content_of (Ok (format ∷ name ∷ date ∷ bare content ∷ rest)) = content
content_of other = []

abbrev pub first_content : List (List ℕ) → List ℕ
first_content [] = []
first_content (body ∷ bodies) = content_of (body_at literal body)

-- the content of the literal among packets
abbrev pub content_in : List PacketValue → List ℕ
content_in packets = first_content (literal_bodies packets)

-- what a signature hashes over content
abbrev pub asked_about : List ℕ → Result SignatureValue BodyFault → Asked
asked_about content (Ok v) = ask_of v (binary content)
asked_about content (Err fault) = Err Opaque

-- what the signatures among packets hash over the literal, in order
abbrev pub message_asked : List PacketValue → List Asked
message_asked packets =
    map (λ body. asked_about (content_in packets) (signature_at body)) (signature_bodies packets)
