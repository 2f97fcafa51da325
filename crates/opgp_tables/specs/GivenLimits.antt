-- Limits as a caller gives them.
use Rattle.std.specs.Prelude.{◌≡◌, ◌<◌, ◌==◌, ◌||◌, if◌then◌else◌, ℕ}
use Rattle.opgp_octets.specs.declared.limits.Limits.{Limits}
use Rattle.opgp_octets.specs.Limits.{line_limit, body_limit, cert_limit, input_limit, pieces_limit}
use Rattle.opgp_octets.specs.Limits.{malformed_of, outside_of}
use Rattle.opgp_octets.specs.declared.malformed.Malformed.{Malformed}
use Rattle.opgp_octets.specs.declared.malformed.Malformed.TheVariants as signatures
use Rattle.opgp_octets.specs.declared.outside.Outside.{Outside}
use Rattle.opgp_octets.specs.declared.outside.Outside.TheVariants as lines
use Rattle.opgp_octets.specs.Ranges.{AreAllowed, line_range, body_range, cert_range, input_range}
use Rattle.opgp_octets.specs.Ranges.{pieces_range}
use Rattle.opgp_tables.specs.declared.given_limits.GivenLimits.{GivenLimits}

-- the policies by their number, the sum of those that are wanted: 1 for lines outside of armored
-- blocks, 2 for malformed signatures
abbrev pub outside_by : ℕ → Outside
outside_by n = if (n == 1) || (n == 3) then lines.Refuse else lines.Skip

abbrev pub malformed_by : ℕ → Malformed
malformed_by n = if (n == 2) || (n == 3) then signatures.Keep else signatures.Refuse

-- the limits and the policies are the given ones
pub record AreThese (l : Limits) (g : GivenLimits) : Type 0 where
  pub line : line_limit l ≡ g.line
  pub body : body_limit l ≡ g.body
  pub cert : cert_limit l ≡ g.cert
  pub input : input_limit l ≡ g.input
  pub pieces : pieces_limit l ≡ g.pieces
  pub outside : outside_of l ≡ outside_by g.policies
  pub malformed : malformed_of l ≡ malformed_by g.policies

-- each is in its range, and each policy stands for something
abbrev pub MayBeGiven : GivenLimits → Type 0
MayBeGiven g = AreAllowed g.line g.body g.cert g.input g.pieces × (g.policies < 4)

-- the usual limits
abbrev pub usual_limits : GivenLimits
usual_limits = record {
  line = line_range.usual;
  body = body_range.usual;
  cert = cert_range.usual;
  input = input_range.usual;
  pieces = pieces_range.usual;
  policies = 0;
}
