-- What the call says that reads a cleartext message.
use Rattle.std.specs.Prelude.{ℕ, List}
use Rattle.opgp_octets.specs.declared.limits.Limits.{Limits}
use Rattle.opgp_codec.specs.Cleartext.{CleartextAnswer, SignedLines}
use Rattle.opgp_codec.specs.Reading.{Outcome}
use Rattle.opgp_tables.specs.GivenLimits.{AreThese}
use Rattle.opgp_tables.specs.declared.given_limits.GivenLimits.{GivenLimits}

-- this is the answer to a text within the given limits: the lines of a cleartext message's document
-- and the packets of its signatures, or a fault (RFC 9580, 7)
abbrev pub MessageBy : GivenLimits → List ℕ → Outcome SignedLines → Type 0
MessageBy given text answer = (l : Limits) × AreThese l given × CleartextAnswer l text answer
