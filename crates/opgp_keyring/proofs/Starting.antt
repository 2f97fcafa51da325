-- Nothing is the keyring of nothing.
use Rattle.std.proofs.Common.{◌≤◌, [], refl, arith}
use Rattle.std.proofs.lemmas.List.Elements.{All-nil}
use Rattle.opgp_octets.specs.declared.limits.Limits.{Limits}
use Rattle.opgp_octets.specs.Limits.{cert_limit, malformed_of}
use Rattle.opgp_keyring.specs.Bodies.{IsSound}
use Rattle.opgp_keyring.specs.Composed.{IsKeyringOf}
use Rattle.opgp_keyring.specs.Keyring.{IsFiller, IsCertificate, octets_of}
use Rattle.opgp_keyring.proofs.Adding.{keyring, IsShort}

no_octets : (limits : Limits) → octets_of [] ≤ cert_limit limits
unfolding octets_of
no_octets limits = omega arith

pub starts : (limits : Limits) → IsKeyringOf limits [] (keyring [] [])
starts limits = record {
  labels = refl;
  sound = All-nil (IsSound (malformed_of limits));
  composes = record {
    keyring = record { lead = All-nil IsFiller; certificates = All-nil IsCertificate };
    whole = refl;
    fits = record { lead = no_octets limits; certificates = All-nil (IsShort limits) };
  };
}
