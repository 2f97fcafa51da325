-- What signatures claim, one after the other, and on which of them it is looked at.
use Rattle.std.specs.Prelude.{◌≡◌, ⊤, Bool, true, false, ◌&&◌, ◌||◌, ◌==◌, if◌then◌else◌}
use Rattle.std.specs.Prelude.{List, [], ◌++◌, map, Option, Some, None, is_some, Result, Ok, Err}
use Rattle.std.specs.List.{list_any}
use Rattle.opgp_octets.specs.SubpacketKind.{subpacket_kind_number}
use Rattle.opgp_octets.specs.declared.fault.BodyFault.{BodyFault}
use Rattle.opgp_octets.specs.declared.subpacket_kind.SubpacketKind.TheVariants as kinds
use Rattle.opgp_packet.specs.Areas.{hashed_subs}
use Rattle.opgp_packet.specs.SignatureBody.{SignatureValue, signature_at}
use Rattle.opgp_packet.specs.Subpackets.{Sub}
use Rattle.opgp_packet.specs.SubView.{kind_shown}
use Rattle.opgp_hash.specs.declared.fingerprints.Fingerprint.{Fingerprint}
use Rattle.opgp_report.specs.Asked.{posed_by}
use Rattle.opgp_report.specs.First.{has_id, has_print}
use Rattle.opgp_report.specs.Left.{says_left}
use Rattle.opgp_report.specs.Report.{finding_of}
use Rattle.opgp_report.specs.Signer.{NameValue, by_print, by_id, unnamed, issuer_of}
use Rattle.opgp_report.specs.Standing.{Standing}
use Rattle.opgp_report.specs.declared.verifier.Verdict.{Verdict}
use Rattle.opgp_report.specs.declared.verifier.Verdict.TheVariants.{Undecided}
use Rattle.opgp_state.specs.Claimed.{claimed}
use Rattle.opgp_state.specs.declared.claiming.Claiming.{Claiming}

-- what a signature claims; it is the same whatever keys there are
abbrev pub claim : Standing → Verdict
claim s = claimed (finding_of says_left [] (posed_by s))

-- ---- whose it is
-- the key of this fingerprint has this name (RFC 9580, 5.2.3.12, 5.2.3.35)
abbrev pub has_name : NameValue → Fingerprint → Bool
has_name (by_print version octets) print = has_print version octets print
has_name (by_id id) print = has_id id print
has_name unnamed print = false

abbrev pub names_key : Fingerprint → Result SignatureValue BodyFault → Bool
names_key print (Err fault) = false
names_key print (Ok v) = has_name (issuer_of v) print

-- it is looked at: each, or what is embedded, or names the one key
abbrev pub is_heard : Option Fingerprint → Standing → Bool
is_heard None s = true
is_heard (Some print) s = is_some s.place.nested || names_key print (signature_at s.body)

abbrev pub claim_heard : Option Fingerprint → Standing → Verdict
claim_heard own s = if is_heard own s then claim s else Undecided

-- ---- who else may revoke
-- it names a key that may revoke (5.2.3.23), whatever its form is
abbrev pub is_of_revoker : Sub → Bool
is_of_revoker s = kind_shown s.kind == subpacket_kind_number kinds.RevocationKey

abbrev pub has_revokers : Result SignatureValue BodyFault → Bool
has_revokers (Err fault) = false
has_revokers (Ok v) = list_any is_of_revoker (hashed_subs v)

abbrev pub names_some : Option Fingerprint → Standing → Bool
names_some own s = is_heard own s && has_revokers (signature_at s.body)

-- ---- gathering them
-- those of a list of signatures are added, unless memory runs out
abbrev pub AddsClaims : {E : Type 0} → Claiming → List Standing → Result Claiming E → Type 0
AddsClaims a list (Ok b) =
    (b.verdicts.items ≡ a.verdicts.items ++ map (claim_heard a.own) list)
    × (b.names_revokers ≡ (a.names_revokers || list_any (names_some a.own) list))
AddsClaims a list (Err refusal) = ⊤
