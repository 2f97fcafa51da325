-- The fields of a meaning, by its form alone.
use Rattle.std.specs.Prelude.{Option, Some, None}
use Rattle.opgp_packet.specs.Forms.{Form, Fields}
use Rattle.opgp_packet.specs.Forms as form
use Rattle.opgp_packet.specs.Meaning.{Meaning, typed, unfit, unknown}
use Rattle.opgp_packet.specs.declared.sub_fields.SubFields.{SubFields}
use Rattle.opgp_packet.specs.declared.sub_fields.SubFields.TheVariants as sub

-- a form with its fields
abbrev pub Formed : Type 0
Formed = (f : Form) × Fields f

abbrev pub fields_in : Meaning → Option Formed
fields_in (typed kind f x) = Some (f, x)
fields_in unfit = None
fields_in unknown = None

abbrev pub fields_shown : SubFields → Formed
fields_shown (sub.Number n) = (form.number, n)
fields_shown (sub.Octet n) = (form.octet, n)
fields_shown (sub.TwoOctets a b) = (form.two_octets, (a, b))
fields_shown (sub.EndedText text) = (form.ended_text, text.now)
fields_shown (sub.Octets o) = (form.octets, o.now)
fields_shown (sub.Revoker class algorithm print) = (form.revoker, (class, algorithm, print.now))
fields_shown (sub.KeyId id) = (form.key_id, id)
fields_shown (sub.Notation flags name value) = (form.notation, (flags, name.now, value.now))
fields_shown (sub.CodeAndText code text) = (form.code_and_text, (code, text.now))
fields_shown (sub.Target algorithm hash digest) = (form.target, (algorithm, hash, digest.now))
fields_shown (sub.Signature body) = (form.signature, body.now)
fields_shown (sub.Fingerprint version print) = (form.fingerprint, (version, print.now))
fields_shown (sub.Pairs o) = (form.pairs, o.now)
