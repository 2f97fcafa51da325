-- What a signature says that goes.
use Rattle.std.proofs.Common.{◌≡◌, ◌∙◌, ℕ, List, [], ◌∷◌, Bool, true, false, not, ◌&&◌, cond, Option, Some, None, is_some, refl, sym, ap, All}
use Rattle.std.specs.Prelude.{Result, Ok}
use Rattle.std.specs.Option.{option_map}
use Rattle.std.proofs.lemmas.Bool.{and_parts, false≢true, true≢false}
use Rattle.std.proofs.lemmas.List.Elements.{All-cons, All-map, All-nil}
use Rattle.opgp_frame.specs.Packet.{PacketValue}
use Rattle.opgp_octets.specs.declared.fault.BodyFault.{BodyFault}
use Rattle.opgp_octets.specs.declared.subpacket_kind.SubpacketKind.TheVariants as kind
use Rattle.opgp_packet.specs.Areas.{hashed_subs}
use Rattle.opgp_packet.specs.SignatureBody.{SignatureValue, signature_at}
use Rattle.opgp_hash.specs.SignedValue.{signed_of}
use Rattle.opgp_hash.specs.SubjectValue.{SubjectValue}
use Rattle.opgp_hash.specs.declared.fingerprints.Fingerprint.{Fingerprint}
use Rattle.opgp_report.specs.Standing.{is_signature}
use Rattle.opgp_report.specs.declared.place.Place.{Place}
use Rattle.opgp_report.specs.declared.verifier.Verdict.{Verdict}
use Rattle.opgp_valid.specs.Subpackets.{lasts_in, made_in, numbers_in, the_one}
use Rattle.opgp_valid.specs.Told.{author_of, issuer, life_by, lives_by, lives_in, stated, stated_by, statement_of, type_in}
use Rattle.opgp_valid.specs.declared.known_keys.Known.{Known}
use Rattle.opgp_valid.specs.declared.policy.Policy.TheVariants.{Usual}
use Rattle.opgp_valid.specs.declared.statement.Author.{Author}
use Rattle.opgp_valid.specs.declared.statement.Life.{Life}
use Rattle.opgp_valid.specs.declared.statement.Statement.{Statement}
use Rattle.opgp_bound.specs.Bound.{is_genuine}
use Rattle.opgp_bound.specs.Judged.{judged}
use Rattle.opgp_bound.specs.Newest.{is_before, is_replaced, names_revoker, newest_made, newest_stays, replaced_read}
use Rattle.opgp_bound.specs.Outdated.{is_outdated}
use Rattle.opgp_bound.specs.Role.{role_of}

-- one that states one time says it then
one_life : (lasts : ℕ) (times : List ℕ) (m : Option ℕ) → is_before (the_one times) m ≡ true → All (λ (l : Option Life). is_before (option_map (λ life. life.made) l) m ≡ true) (lives_by lasts times)
one_life lasts [] m e = absurd (false≢true e)
one_life lasts (t ∷ []) m e = All-cons (λ (l : Option Life). is_before (option_map (λ life. life.made) l) m ≡ true) (Some (life_by lasts t)) [] e (All-nil (λ (l : Option Life). is_before (option_map (λ life. life.made) l) m ≡ true))
one_life lasts (t ∷ u ∷ ts) m e = absurd (false≢true e)

pub not_true : (b : Bool) → not b ≡ false → b ≡ true
not_true true e = refl
not_true false e = absurd (true≢false e)

module _ (at : ℕ) (ss : List Statement) (known : List Known) (primary : Fingerprint) (revokers : List Fingerprint) (place : Place) (subject : SubjectValue) where
  told_outdated : (v : SignatureValue) (by : Option Author) → is_before (made_in (hashed_subs v)) (newest_made at ss place.component (type_in v)) ≡ true → All (λ s. is_outdated at ss s ≡ true) (stated_by known Usual primary revokers place subject v by)
  told_outdated v None e = All-nil (λ s. is_outdated at ss s ≡ true)
  told_outdated v (Some by) e =
      All-map (λ s. is_outdated at ss s ≡ true) (statement_of known Usual primary revokers place subject v by) (lives_in v)
      (one_life (lasts_in kind.Expires (hashed_subs v)) (numbers_in kind.Created (hashed_subs v)) (newest_made at ss place.component (type_in v)) e)

  perhaps : (b : Bool) (l : List Statement) → All (λ s. is_outdated at ss s ≡ true) l → All (λ s. is_outdated at ss s ≡ true) (cond b l [])
  perhaps true l h = h
  perhaps false l h = All-nil (λ s. is_outdated at ss s ≡ true)

  going : (v : SignatureValue) → is_replaced (newest_made at ss place.component) v ≡ true → All (λ s. is_outdated at ss s ≡ true) (stated known Usual primary revokers place subject v)
  going v e =
      perhaps (is_some (signed_of v)) (stated_by known Usual primary revokers place subject v (author_of known Usual primary revokers (issuer known Usual primary v)))
      (told_outdated v (author_of known Usual primary revokers (issuer known Usual primary v)) (and_parts (is_before (made_in (hashed_subs v)) (newest_made at ss place.component (type_in v))) (not (names_revoker v)) e).0)

pub going_outdated : (at : ℕ) (ss : List Statement) (known : List Known) (primary : Fingerprint) (revokers : List Fingerprint) (place : Place) (subject : SubjectValue) (found : Verdict) (p : PacketValue) (v : SignatureValue)
    → newest_stays (newest_made at ss place.component) (judged known primary subject found p) ≡ false → signature_at p.body ≡ Ok v
    → All (λ s. is_outdated at ss s ≡ true) (stated known Usual primary revokers place subject v)
going_outdated at ss known primary revokers place subject found p v e is =
    let read : Result SignatureValue BodyFault → Bool = replaced_read (newest_made at ss place.component) in
    let both = and_parts (is_genuine (role_of known primary subject found p)) (is_signature p && read (signature_at p.body)) (not_true (is_genuine (role_of known primary subject found p) && (is_signature p && read (signature_at p.body))) e) in
    let replaced = and_parts (is_signature p) (read (signature_at p.body)) both.1 in
    going at ss known primary revokers place subject v (sym (ap read is) ∙ replaced.1)
