-- The keys of a keyring that can be named as issuers.
use Rattle.std.specs.Prelude.{ℕ, List, map}
use Rattle.opgp_packet.specs.Parsed.{body_octets}
use Rattle.opgp_report.specs.declared.signers.Signers.{Signers}

-- their bodies, in order
abbrev pub signers_keys : Signers → List (List ℕ)
signers_keys s = map (λ k. body_octets k.key) s.keys.items
