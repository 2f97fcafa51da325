-- The signer among the keys of a keyring.
use Rattle.std.proofs.Common.{◌≡◌, ◌∙◌, ℕ, List, [], ◌∷◌, ◌++◌, map, Option, Some, None, refl, sym, ap, slice_get}
use Rattle.std.specs.Option.{option_map, option_and_then}
use Rattle.std.proofs.lemmas.List.{map-append}
use Rattle.std.proofs.lemmas.Option.{slice_get-map}
use Rattle.opgp_hash.specs.declared.fingerprints.Fingerprint.{Fingerprint}
use Rattle.opgp_packet.specs.Parsed.{body_octets}
use Rattle.opgp_packet.specs.SignatureBody.{SignatureValue}
use Rattle.opgp_report.specs.declared.signers.Signer.{Signer}
use Rattle.opgp_report.specs.First.{print_of}
use Rattle.opgp_report.specs.Report.{signer_in}
use Rattle.opgp_report.specs.Signer.{signer_of}

pub twice : (keys : List Signer) → map print_of (map (λ k. body_octets k.key) keys) ≡ map (λ k. print_of (body_octets k.key)) keys
twice [] = refl
twice (k ∷ keys) = ap (λ (l : List Fingerprint). print_of (body_octets k.key) ∷ l) (twice keys)

by_place : (keys : List Signer) (place : Option ℕ) → option_map (λ k. body_octets k.key) (option_and_then (λ i. slice_get keys i) place) ≡ option_and_then (λ i. slice_get (map (λ k. body_octets k.key) keys) i) place
by_place keys None = refl
by_place keys (Some i) = sym (slice_get-map (λ k. body_octets k.key) keys i)

pub found : (keys : List Signer) (prints : List Fingerprint) (v : SignatureValue) (place : Option ℕ) → prints ≡ map (λ k. print_of (body_octets k.key)) keys → place ≡ signer_of prints v
    → option_map (λ k. body_octets k.key) (option_and_then (λ i. slice_get keys i) place) ≡ signer_in (map (λ k. body_octets k.key) keys) v
found keys prints v place named e = by_place keys place
    ∙ ap (λ (p : Option ℕ). option_and_then (λ i. slice_get (map (λ k. body_octets k.key) keys) i) p) (e ∙ ap (λ (l : List Fingerprint). signer_of l v) (named ∙ sym (twice keys)))

-- with one key more
pub one_more : (keys more : List Signer) (prints : List Fingerprint) (print : Fingerprint) (s : Signer) → more ≡ keys ++ s ∷ []
    → prints ≡ map (λ k. print_of (body_octets k.key)) keys → print ≡ print_of (body_octets s.key)
    → prints ++ print ∷ [] ≡ map (λ k. print_of (body_octets k.key)) more
one_more keys more prints print s items named is =
    ap (λ (l : List Fingerprint). l ++ print ∷ []) named
    ∙ ap (λ (p : Fingerprint). map (λ k. print_of (body_octets k.key)) keys ++ p ∷ []) is
    ∙ sym (ap (λ (l : List Signer). map (λ k. print_of (body_octets k.key)) l) items ∙ map-append (λ k. print_of (body_octets k.key)) keys (s ∷ []))
