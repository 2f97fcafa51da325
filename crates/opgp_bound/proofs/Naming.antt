-- A signature that the primary key made names it as its issuer.
use Rattle.std.proofs.Common.{◌≡◌, ◌∙◌, ℕ, Bool, true, false, List, map, refl, sym, ap, get_or, Option, Some, None, if◌then◌else◌}
use Rattle.std.specs.Prelude.{◌&&◌, is_ok}
use Rattle.std.specs.List.{position, slice_get}
use Rattle.std.specs.Option.{option_and_then}
use Rattle.std.proofs.Math.ListN.{get_or-map}
use Rattle.std.proofs.lemmas.Bool.{true≢false}
use Rattle.std.proofs.lemmas.List.Quantifiers.{position-Some}
use Rattle.std.proofs.lemmas.Option.{get_or_from_slice_get}
use Rattle.std.proofs.lemmas.Slice.Eq.{bytes_eq-Decides}
use Rattle.opgp_octets.specs.declared.signature_type.SignatureType.{SignatureType}
use Rattle.opgp_packet.specs.SignatureBody.{SignatureValue, of_three, of_four, of_six, of_other}
use Rattle.opgp_hash.specs.Asking.{ask_at_of}
use Rattle.opgp_hash.specs.Fingerprint.{print_octets, print_version}
use Rattle.opgp_hash.specs.SubjectValue.{SubjectValue}
use Rattle.opgp_hash.specs.declared.fingerprints.Fingerprint.{Fingerprint}
use Rattle.opgp_hash.specs.declared.fingerprints.Fingerprint.TheVariants.{Four, Six}
use Rattle.opgp_hash.specs.declared.site.Site.TheVariants.{Hung}
use Rattle.opgp_report.specs.First.{has_id, has_print}
use Rattle.opgp_report.specs.Named.{named_of}
use Rattle.opgp_report.specs.Signer.{NameValue, by_id, by_print, issuer_of, named_in, unnamed}
use Rattle.opgp_report.specs.declared.verifier.Verdict.{Verdict}
use Rattle.opgp_valid.specs.KnownKeys.{issuer_among}
use Rattle.opgp_valid.specs.Told.{is_good_verdict, is_print, revokes_key}
use Rattle.opgp_valid.specs.declared.known_keys.Known.{Known}
use Rattle.opgp_merge.specs.Chosen.{is_name_of}
use Rattle.opgp_bound.specs.Bound.{is_genuine}
use Rattle.opgp_bound.specs.Role.{is_own_and_good, is_self_type, role_by}
use Rattle.opgp_bound.specs.declared.role.Role.TheVariants.{SelfSignature, KeyRevocation, Other}

same_print : (a b : Fingerprint) → has_print (print_version a) (print_octets a) b ≡ true → b ≡ a
same_print (Four o) (Four p) h = ap Four ((bytes_eq-Decides p o).0 h)
same_print (Six o) (Six p) h = ap Six ((bytes_eq-Decides p o).0 h)
same_print (Four o) (Six p) h = absurd (cc h)
same_print (Six o) (Four p) h = absurd (cc h)

module _ (known : List Known) (primary : Fingerprint) where
  abbrev prints : List Fingerprint
  prints = map (λ (k : Known). k.print) known

  passes : (p : Fingerprint → Bool) (o : Option ℕ) → position p prints ≡ o → is_print primary (option_and_then (λ i. slice_get known i) o) ≡ true → p primary ≡ true
  passes p None e h = absurd (cc h)
  passes p (Some i) e h = go (slice_get known i) refl h where
    go : (o : Option Known) → slice_get known i ≡ o → is_print primary o ≡ true → p primary ≡ true
    go None s g = absurd (cc g)
    go (Some k) s g =
        let there : get_or prints i k.print ≡ primary = get_or-map (λ (k : Known). k.print) known i k ∙ ap (λ (k : Known). k.print) (get_or_from_slice_get known i k k s) ∙ same_print primary k.print g in
        sym (ap p there) ∙ (position-Some p prints i k.print e).1

  by_name : (name : NameValue) → is_print primary (option_and_then (λ i. slice_get known i) (named_in prints name)) ≡ true → is_name_of name primary ≡ true
  by_name (by_print version octets) h = passes (has_print version octets) (position (has_print version octets) prints) refl h
  by_name (by_id id) h = passes (has_id id) (position (has_id id) prints) refl h
  by_name unnamed h = absurd (cc h)

  is_named : (v : SignatureValue) → is_print primary (issuer_among known v) ≡ true → is_name_of (named_of v) primary ≡ true
  is_named (of_three fields) h = absurd (cc h)
  is_named (of_four fields) h = by_name (issuer_of (of_four fields)) h
  is_named (of_six fields) h = by_name (issuer_of (of_six fields)) h
  is_named (of_other octets) h = by_name (issuer_of (of_other octets)) h

  last : (a b c : Bool) → (a && (b && c)) ≡ true → c ≡ true
  last true true c h = h
  last true false c h = absurd (cc h)
  last false b c h = absurd (cc h)

  role_is : (a b own : Bool) (revokes : Bool) → a ≡ true → (own ≡ true → b ≡ true) → is_genuine (if a && b then SelfSignature own else (if revokes then KeyRevocation else Other)) ≡ own
  role_is true true own revokes e f = refl
  role_is true false true revokes e f = absurd (true≢false (sym (f refl)))
  role_is true false false true e f = refl
  role_is true false false false e f = refl
  role_is false b own revokes e f = absurd (cc e)

  pub genuine_is : (subject : SubjectValue) (found : Verdict) (v : SignatureValue) (t : SignatureType) → is_self_type t ≡ true
      → is_genuine (role_by known primary subject found v t) ≡ is_own_and_good known primary subject found v
  genuine_is subject found v t e = role_is (is_self_type t) (is_name_of (named_of v) primary) (is_own_and_good known primary subject found v) (revokes_key t) e
      (λ h. is_named v (last (is_good_verdict found) (is_ok (ask_at_of Hung v subject)) (is_print primary (issuer_among known v)) h))
