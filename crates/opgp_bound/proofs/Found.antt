-- What the packets of a certificate are there for, one after the other.
use Rattle.std.proofs.Common.{◌≡◌, ◌∙◌, ℕ, List, [], ◌∷◌, ◌++◌, drop, sym, ap, append_assoc, All}
use Rattle.std.proofs.lemmas.List.{drop-drop}
use Rattle.std.proofs.lemmas.List.Elements.{All-cons, All-head, All-nil, All-tail}
use Rattle.opgp_frame.specs.Packet.{PacketValue}
use Rattle.opgp_hash.specs.SubjectValue.{SubjectValue}
use Rattle.opgp_hash.specs.declared.fingerprints.Fingerprint.{Fingerprint}
use Rattle.opgp_keyring.specs.Keyring.{ComponentValue, IsComponent, IsHung}
use Rattle.opgp_report.specs.Standing.{on_head}
use Rattle.opgp_report.specs.declared.verifier.Verdict.{Verdict}
use Rattle.opgp_valid.specs.Told.{first_verdict}
use Rattle.opgp_valid.specs.declared.known_keys.Known.{Known}
use Rattle.opgp_bound.specs.Judged.{IsJudgedComponent, JudgedComponentValue, JudgedValue, component_rows, components_rows, judged, judged_component, judged_components, judged_hangs, rows_of, rows_on}
use Rattle.opgp_bound.proofs.Kept.{Hung}

-- ---- one more
pub hangs_more : (known : List Known) (print : Fingerprint) (subject : SubjectValue) (ps rest : List PacketValue) (p : PacketValue) (founds behind : List Verdict) (done new : List JudgedValue)
    → ps ≡ p ∷ rest → behind ≡ drop (rows_of subject p) founds → new ≡ done ++ judged known print subject (first_verdict founds) p ∷ []
    → new ++ judged_hangs known print subject rest behind ≡ done ++ judged_hangs known print subject ps founds
hangs_more known print subject ps rest p founds behind done new is dropped added =
    ap (λ l. l ++ judged_hangs known print subject rest behind) added
    ∙ append_assoc done (judged known print subject (first_verdict founds) p ∷ []) (judged_hangs known print subject rest behind)
    ∙ ap (λ (l : List Verdict). done ++ judged known print subject (first_verdict founds) p ∷ judged_hangs known print subject rest l) dropped
    ∙ ap (λ l. done ++ judged_hangs known print subject l founds) (sym is)

pub rows_more : (subject : SubjectValue) (ps rest : List PacketValue) (p : PacketValue) (founds behind : List Verdict)
    → ps ≡ p ∷ rest → behind ≡ drop (rows_of subject p) founds → drop (rows_on subject rest) behind ≡ drop (rows_on subject ps) founds
rows_more subject ps rest p founds behind is dropped =
    ap (drop (rows_on subject rest)) dropped ∙ drop-drop (rows_on subject rest) (rows_of subject p) founds
    ∙ ap (λ l. drop (rows_on subject l) founds) (sym is)

pub components_more : (known : List Known) (print : Fingerprint) (issuers : List Fingerprint) (body : List ℕ) (cs rest : List ComponentValue) (c : ComponentValue) (founds behind : List Verdict) (done new : List JudgedComponentValue)
    → cs ≡ c ∷ rest → behind ≡ drop (component_rows body c) founds → new ≡ done ++ judged_component known print issuers body c founds ∷ []
    → new ++ judged_components known print issuers body rest behind ≡ done ++ judged_components known print issuers body cs founds
components_more known print issuers body cs rest c founds behind done new is dropped added =
    ap (λ l. l ++ judged_components known print issuers body rest behind) added
    ∙ append_assoc done (judged_component known print issuers body c founds ∷ []) (judged_components known print issuers body rest behind)
    ∙ ap (λ (l : List Verdict). done ++ judged_component known print issuers body c founds ∷ judged_components known print issuers body rest l) dropped
    ∙ ap (λ l. done ++ judged_components known print issuers body l founds) (sym is)

pub component_rows_more : (body : List ℕ) (cs rest : List ComponentValue) (c : ComponentValue) (founds behind : List Verdict)
    → cs ≡ c ∷ rest → behind ≡ drop (component_rows body c) founds → drop (components_rows body rest) behind ≡ drop (components_rows body cs) founds
component_rows_more body cs rest c founds behind is dropped =
    ap (drop (components_rows body rest)) dropped ∙ drop-drop (components_rows body rest) (component_rows body c) founds
    ∙ ap (λ l. drop (components_rows body l) founds) (sym is)

-- ---- what may stand there
pub hangs_hung : (known : List Known) (print : Fingerprint) (subject : SubjectValue) (ps : List PacketValue) (founds : List Verdict) → All IsHung ps → All Hung (judged_hangs known print subject ps founds)
hangs_hung known print subject [] founds h = All-nil Hung
hangs_hung known print subject (p ∷ ps) founds h =
    All-cons Hung (judged known print subject (first_verdict founds) p) (judged_hangs known print subject ps (drop (rows_of subject p) founds))
    (All-head IsHung p ps h) (hangs_hung known print subject ps (drop (rows_of subject p) founds) (All-tail IsHung p ps h))

component_stands : (known : List Known) (print : Fingerprint) (issuers : List Fingerprint) (body : List ℕ) (c : ComponentValue) (founds : List Verdict) → IsComponent c → IsJudgedComponent (judged_component known print issuers body c founds)
component_stands known print issuers body c founds h = record { head = h.head; hangs = hangs_hung known print (on_head body c.head) c.hangs founds h.hangs }

pub components_stand : (known : List Known) (print : Fingerprint) (issuers : List Fingerprint) (body : List ℕ) (cs : List ComponentValue) (founds : List Verdict) → All IsComponent cs → All IsJudgedComponent (judged_components known print issuers body cs founds)
components_stand known print issuers body [] founds h = All-nil IsJudgedComponent
components_stand known print issuers body (c ∷ cs) founds h =
    All-cons IsJudgedComponent (judged_component known print issuers body c founds) (judged_components known print issuers body cs (drop (component_rows body c) founds))
    (component_stands known print issuers body c founds (All-head IsComponent c cs h)) (components_stand known print issuers body cs (drop (component_rows body c) founds) (All-tail IsComponent c cs h))
