-- The keys of a keyring that its signatures may name as their issuers'.
use Rattle.std.specs.Prelude.{ℕ, List, map, Option, slice_get}
use Rattle.std.specs.Option.{option_and_then}
use Rattle.opgp_packet.specs.SignatureBody.{SignatureValue}
use Rattle.opgp_keyring.specs.Keyring.{KeyringValue}
use Rattle.opgp_report.specs.First.{print_of}
use Rattle.opgp_report.specs.Report.{keys_in}
use Rattle.opgp_report.specs.Signer.{signer_of}
use Rattle.opgp_valid.specs.declared.known_keys.Known.{Known}
use Rattle.opgp_valid.specs.declared.known_keys.KnownKeys.{KnownKeys}
use Rattle.opgp_valid.specs.Policy.{created_of, is_strong, least_digest}

-- what is known of a key: its fingerprint, when it was created, and what a policy asks of it
abbrev pub known_of : List ℕ → Known
known_of body = record {
  print = print_of body;
  created = created_of body;
  is_strong = is_strong body;
  least_digest = least_digest body;
}

abbrev pub knowns : KnownKeys → List Known
knowns k = k.keys.items

-- the keys of a keyring, in order
abbrev pub known_in : KeyringValue → List Known
known_in r = map known_of (keys_in r)

-- the first of them that a signature names as its issuer's
abbrev pub issuer_among : List Known → SignatureValue → Option Known
issuer_among ks v = option_and_then (λ i. slice_get ks i) (signer_of (map (λ k. k.print) ks) v)
