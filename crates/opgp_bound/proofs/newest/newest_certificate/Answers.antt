use Rattle.std.proofs.Common.{◌≡◌, ◌∙◌, ◌++◌, ◌∷◌, [], ℕ, List, Option, None, drop, ap}
use Rattle.std.proofs.lemmas.List.{drop-drop}
use Rattle.std.specs.List.{flat_map}
use Rattle.opgp_octets.specs.declared.signature_type.SignatureType.{SignatureType}
use Rattle.opgp_frame.specs.Packet.{PacketValue}
use Rattle.opgp_packet.specs.Parsed.{body_octets}
use Rattle.opgp_hash.specs.SubjectValue.{one}
use Rattle.opgp_hash.specs.declared.fingerprints.Fingerprint.{Fingerprint}
use Rattle.opgp_keyring.specs.Grouped.{components_left, hangs_left}
use Rattle.opgp_keyring.specs.Keyring.{CertificateValue, ComponentValue, certificate_packets, component_packets}
use Rattle.opgp_report.specs.First.{print_of}
use Rattle.opgp_report.specs.declared.verifier.Verdict.{Verdict}
use Rattle.opgp_valid.specs.Facts.{FactsValue}
use Rattle.opgp_valid.specs.KnownKeys.{knowns}
use Rattle.opgp_valid.specs.declared.statement.Statement.{Statement}
use Rattle.opgp_bound.specs.Judged.{components_rows, rows_on}
use Rattle.opgp_bound.specs.Newest.{newest_certificate, newest_components, newest_components_rows, newest_hangs, newest_made, newest_rows, said}
use Rattle.opgp_bound.specs.Replacing.{time_of}
use Rattle.opgp_bound.specs.declared.replaced.Times.{Times}
use Rattle.opgp_bound.proofs.NewestKept.{all_kept, all_rows_kept, newest_is_certificate}
use Rattle.opgp_bound.proofs.Rivals.{same_time}
use Rattle.opgp_bound.proofs.newest.newest_certificate.Goals as goal

pub returns-clause-certificate : goal.returns-clause-certificate
returns-clause-certificate c = c.packets-packets.ensures.certificate

pub returns-clause-value : goal.returns-clause-value
returns-clause-value c =
    let at = c.args.at in
    let known = knowns c.args.known.now in
    let its : CertificateValue = c.args.certificate.now in
    let founds : List Verdict = c.args.verdicts.now in
    let behind : List Verdict = c.in_ok-rest.rest.now in
    let ss : List Statement = c.facts.result.statements.now in
    let body : List ℕ = its.primary.body in
    let newest : SignatureType → Option ℕ = time_of c.on.result in
    let key_is : body_octets c.key-key.result ≡ body = c.key-key.ensures in
    let print_is : c.print_of.result ≡ print_of body = c.print_of.ensures ∙ ap print_of key_is in
    let is : ss ≡ said known its founds = ap (λ (f : FactsValue). f.statements) c.facts.ensures ∙ ap (λ (f : FactsValue). f.statements) c.in_ok-certified.ensures in
    let times : (t : SignatureType) → newest t ≡ newest_made at ss None t = λ t. ap (λ (x : Times). time_of x t) c.on.ensures ∙ same_time at ss None t in
    let dropped : behind ≡ drop (rows_on (one body) its.hangs) founds =
    c.in_ok-rest.ensures.rest ∙ ap (λ (b : List ℕ). drop (rows_on (one b) (hangs_left c.hangs.result)) founds) key_is ∙ ap (λ (l : List PacketValue). drop (rows_on (one body) l) founds) c.hangs.ensures.value in
    let first : List PacketValue = certificate_packets c.in_ok-chosen.chosen in
    let two : List PacketValue = certificate_packets c.add_newest_hangs.new.chosen in
    let on_key : two ≡ first ++ newest_hangs newest known (print_of body) (one body) its.hangs founds =
    c.in_ok-rest.ensures.packets
    ∙ ap (λ (print : Fingerprint). first ++ newest_hangs newest known print (one (body_octets c.key-key.result)) (hangs_left c.hangs.result) founds) print_is
    ∙ ap (λ (b : List ℕ). first ++ newest_hangs newest known (print_of body) (one b) (hangs_left c.hangs.result) founds) key_is
    ∙ ap (λ (l : List PacketValue). first ++ newest_hangs newest known (print_of body) (one body) l founds) c.hangs.ensures.value in
    let all = all_kept at known its founds behind ss newest is times dropped first two (certificate_packets c.add_newest_components.new.chosen)
    (ap certificate_packets c.in_ok-chosen.ensures ∙ ap (λ (p : PacketValue). p ∷ []) c.primary.ensures.value) on_key
    (c.in_ok-rest-2.ensures.packets
    ∙ ap (λ (b : List ℕ). two ++ flat_map component_packets (newest_components at known ss b 0 (components_left c.components.result) behind)) key_is
    ∙ ap (λ (l : List ComponentValue). two ++ flat_map component_packets (newest_components at known ss body 0 l behind)) c.components.ensures.value) in
    c.one_certificate.ensures c.add_newest_components.new.chosen (newest_certificate at known its founds) c.packets-packets.ensures.certificate
    (newest_is_certificate at known its founds c.primary.ensures.certificate) all

pub returns-clause-founds : goal.returns-clause-founds
returns-clause-founds c =
    let at = c.args.at in
    let known = knowns c.args.known.now in
    let its : CertificateValue = c.args.certificate.now in
    let founds : List Verdict = c.args.verdicts.now in
    let behind : List Verdict = c.in_ok-rest.rest.now in
    let ss : List Statement = c.facts.result.statements.now in
    let body : List ℕ = its.primary.body in
    let newest : SignatureType → Option ℕ = time_of c.on.result in
    let key_is : body_octets c.key-key.result ≡ body = c.key-key.ensures in
    let print_is : c.print_of.result ≡ print_of body = c.print_of.ensures ∙ ap print_of key_is in
    let is : ss ≡ said known its founds = ap (λ (f : FactsValue). f.statements) c.facts.ensures ∙ ap (λ (f : FactsValue). f.statements) c.in_ok-certified.ensures in
    let times : (t : SignatureType) → newest t ≡ newest_made at ss None t = λ t. ap (λ (x : Times). time_of x t) c.on.ensures ∙ same_time at ss None t in
    let dropped : behind ≡ drop (rows_on (one body) its.hangs) founds =
    c.in_ok-rest.ensures.rest ∙ ap (λ (b : List ℕ). drop (rows_on (one b) (hangs_left c.hangs.result)) founds) key_is ∙ ap (λ (l : List PacketValue). drop (rows_on (one body) l) founds) c.hangs.ensures.value in
    let first : List Verdict = c.args.founds.now.items in
    let two : List Verdict = c.add_newest_hangs.new.founds.items in
    let on_key : two ≡ first ++ newest_rows newest known (print_of body) (one body) its.hangs founds =
    c.in_ok-rest.ensures.founds
    ∙ ap (λ (print : Fingerprint). first ++ newest_rows newest known print (one (body_octets c.key-key.result)) (hangs_left c.hangs.result) founds) print_is
    ∙ ap (λ (b : List ℕ). first ++ newest_rows newest known (print_of body) (one b) (hangs_left c.hangs.result) founds) key_is
    ∙ ap (λ (l : List PacketValue). first ++ newest_rows newest known (print_of body) (one body) l founds) c.hangs.ensures.value in
    all_rows_kept at known its founds behind ss newest is times dropped first two c.add_newest_components.new.founds.items on_key
    (c.in_ok-rest-2.ensures.founds
    ∙ ap (λ (b : List ℕ). two ++ newest_components_rows at known ss b 0 (components_left c.components.result) behind) key_is
    ∙ ap (λ (l : List ComponentValue). two ++ newest_components_rows at known ss body 0 l behind) c.components.ensures.value)

pub returns-clause-rest : goal.returns-clause-rest
returns-clause-rest c =
    let its : CertificateValue = c.args.certificate.now in
    let founds : List Verdict = c.args.verdicts.now in
    let behind : List Verdict = c.in_ok-rest.rest.now in
    let body : List ℕ = its.primary.body in
    let key_is : body_octets c.key-key.result ≡ body = c.key-key.ensures in
    let dropped : behind ≡ drop (rows_on (one body) its.hangs) founds =
    c.in_ok-rest.ensures.rest ∙ ap (λ (b : List ℕ). drop (rows_on (one b) (hangs_left c.hangs.result)) founds) key_is ∙ ap (λ (l : List PacketValue). drop (rows_on (one body) l) founds) c.hangs.ensures.value in
    c.in_ok-rest-2.ensures.rest
    ∙ ap (λ (b : List ℕ). drop (components_rows b (components_left c.components.result)) behind) key_is
    ∙ ap (λ (l : List ComponentValue). drop (components_rows body l) behind) c.components.ensures.value
    ∙ ap (drop (components_rows body its.components)) dropped
    ∙ drop-drop (components_rows body its.components) (rows_on (one body) its.hangs) founds
