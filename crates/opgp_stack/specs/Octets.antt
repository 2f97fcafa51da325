-- All octets of a source.
use Rattle.std.specs.Prelude.{◌≡◌, ℕ, ◌<◌, ◌≤◌, List, length, Ok, Err}
use Rattle.std.specs.Global.{Vec}
use Rattle.opgp_octets.specs.Limits.{input_limit}
use Rattle.opgp_octets.specs.declared.limits.Limits.{Limits}
use Rattle.opgp_codec.specs.Reading.{Outcome, too_long}

-- these are the octets; or they are more than the limit
abbrev pub AreOctets : Limits → List ℕ → Outcome (Vec ℕ) → Type 0
AreOctets limits octets (Ok found) =
    (length octets ≤ input_limit limits) × (found.items ≡ octets)
AreOctets limits octets (Err fault) =
    (input_limit limits < length octets) × (fault ≡ too_long limits)
