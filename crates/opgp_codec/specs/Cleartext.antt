-- A cleartext message with its signatures (RFC 9580, 7): the one result for a text.
use Rattle.std.specs.Prelude.{◌≡◌, ℕ, ◌+◌, ◌<◌, ◌≤◌, List, length, drop, Result, Ok, Err}
use Rattle.opgp_octets.specs.declared.fault.Fault.{Fault}
use Rattle.opgp_octets.specs.declared.fault.Layer.{Layer}
use Rattle.opgp_octets.specs.declared.fault.Layer.TheVariants as layer
use Rattle.opgp_octets.specs.declared.limits.Limits.{Limits}
use Rattle.opgp_octets.specs.declared.outside.Outside.TheVariants as policy
use Rattle.opgp_octets.specs.Limits.{body_limit, cert_limit, input_limit, line_limit, malformed_of}
use Rattle.opgp_octets.specs.Limits.{outside_of, pieces_limit}
use Rattle.opgp_frame.specs.Packet.{PacketValue}
use Rattle.opgp_keyring.specs.declared.detached_signatures.DetachedSignatures.{DetachedSignatures}
use Rattle.opgp_keyring.specs.DetachedSignatures.{detached_packets}
use Rattle.opgp_cleartext.specs.declared.cleartext.Cleartext.{Cleartext}
use Rattle.opgp_cleartext.specs.Cleartext.{HasCleartext}
use Rattle.opgp_cleartext.specs.Faults.{IsCleartextFault}
use Rattle.opgp_cleartext.specs.View.{document_of}
use Rattle.opgp_codec.specs.declared.mode.Mode.TheVariants.{Armor}
use Rattle.opgp_codec.specs.declared.read_error.ReadError.{ReadError}
use Rattle.opgp_codec.specs.declared.read_error.ReadError.TheVariants as read
use Rattle.opgp_codec.specs.Reading.{AnswerOf, Outcome, too_long}
use Rattle.opgp_codec.specs.Signatures.{AreDetachedSignatures, signature_label}

-- the same limits, by which a line outside of armored blocks must be blank
pub record AreStrict (limits strict : Limits) : Type 0 where
  pub line : line_limit strict ≡ line_limit limits
  pub body : body_limit strict ≡ body_limit limits
  pub cert : cert_limit strict ≡ cert_limit limits
  pub input : input_limit strict ≡ input_limit limits
  pub pieces : pieces_limit strict ≡ pieces_limit limits
  pub outside : outside_of strict ≡ policy.Refuse
  pub malformed : malformed_of strict ≡ malformed_of limits

-- The result for what is behind a message's document: an armored text of signatures alone.
pub record AnswerOfRest (limits : Limits) (rest : List ℕ)
    (answer : Outcome (List PacketValue)) : Type 0 where
  pub strict : Limits
  pub are_strict : AreStrict limits strict
  pub is : AnswerOf signature_label (AreDetachedSignatures strict) Armor strict rest answer

-- a fault in what begins at this place: the place of an armored line is counted in the whole text
abbrev pub moved_by : Layer → ℕ → Fault → Fault
moved_by layer.Input place f = f
moved_by layer.Armor place f = record f { pos = place + f.pos }
moved_by layer.Framing place f = f
moved_by layer.Body place f = f
moved_by layer.Composition place f = f
moved_by layer.Text place f = f
moved_by layer.Cleartext place f = f

abbrev pub moved : ℕ → Fault → Fault
moved place f = moved_by f.layer place f

-- the lines of a document, and the packets of its signatures
abbrev pub SignedLines : Type 0
SignedLines = List (List ℕ) × List PacketValue

abbrev pub of_rest : List (List ℕ) → ℕ → Outcome (List PacketValue) → Outcome SignedLines
of_rest document place (Ok packets) = Ok (document, packets)
of_rest document place (Err fault) = Err (moved place fault)

-- The result for a text: it is too long; else it is no message; else the document, and what its
-- rest makes of the signatures.
pub data CleartextAnswer (limits : Limits) (text : List ℕ)
    (answer : Outcome SignedLines) : Type 0 where
  at_length : input_limit limits < length text → answer ≡ Err (too_long limits)
      → CleartextAnswer limits text answer
  at_lines : length text ≤ input_limit limits → (f : Fault)
      → IsCleartextFault (line_limit limits) text f → answer ≡ Err f
      → CleartextAnswer limits text answer
  at_rest : length text ≤ input_limit limits → (document : List (List ℕ)) → (place : ℕ)
      → place ≤ length text
      → HasCleartext (line_limit limits) text document (drop place text)
      → (found : Outcome (List PacketValue)) → AnswerOfRest limits (drop place text) found
      → answer ≡ of_rest document place found
      → CleartextAnswer limits text answer

-- What reading returns: the result for the text, or memory ran out.
abbrev pub ReadsCleartext : Limits → List ℕ → Result (Cleartext × DetachedSignatures) ReadError
    → Type 0
ReadsCleartext limits text (Ok r) =
    CleartextAnswer limits text (Ok (document_of r.0, detached_packets r.1))
ReadsCleartext limits text (Err (read.Refused fault)) = CleartextAnswer limits text (Err fault)
ReadsCleartext limits text (Err read.Read) = ⊥
ReadsCleartext limits text (Err read.Memory) = Unit {0}
