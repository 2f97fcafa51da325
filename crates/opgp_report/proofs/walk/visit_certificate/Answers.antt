use Rattle.std.proofs.Common.{◌≡◌, ℕ, List, [], ◌++◌, Result, Ok, Err, None, refl, sym, subst, append_assoc}
use Rattle.opgp_frame.specs.Packet.{PacketValue}
use Rattle.opgp_packet.specs.Parsed.{body_octets}
use Rattle.opgp_hash.specs.CertificateHasher.{hasher_subject}
use Rattle.opgp_hash.specs.SubjectValue.{SubjectValue, one}
use Rattle.opgp_keyring.specs.Grouped.{components_left, hangs_left}
use Rattle.opgp_keyring.specs.Keyring.{CertificateValue, ComponentValue}
use Rattle.opgp_report.specs.Standing.{Standing, by_number, certificate_standing, component_standing, hangs_standing}
use Rattle.opgp_report.specs.Visitor.{Leaves, Shown}
use Rattle.opgp_report.proofs.walk.visit_certificate.Goals as goal

-- what is on the primary key, and then what is on the components, is all
parts : (n : ℕ) (c : CertificateValue) (subject : SubjectValue) (body : List ℕ) (hangs : List PacketValue) (components : List ComponentValue)
    → subject ≡ one body → body ≡ c.primary.body → hangs ≡ c.hangs → components ≡ c.components
    → hangs_standing n None subject hangs ++ by_number (component_standing body n) 0 components ≡ certificate_standing n c
parts n c subject body hangs components e f g h = rw (e, f, g, h)

-- a visitor that is shown the first and then the rest is shown all
both : {V S E A : Type 0} (becomes : V → List S → Result V E → Type 0) (old mid new : V) (first rest all : List S) (r : Result A E)
    → first ++ rest ≡ all → Leaves becomes old first mid [] → Shown becomes mid rest r new → Shown becomes old all r new
both {V} {S} becomes old mid new first rest all (Ok done) e f g =
    λ more end h. subst (λ (l : List S). becomes old (l ++ more) end) e (subst (λ (l : List S). becomes old l end) (sym (append_assoc first rest more)) (f (rest ++ more) end (g more end h)))
both {V} {S} becomes old mid new first rest all (Err stop) e f g =
    λ more. subst (λ (l : List S). becomes old (l ++ more) (Err stop)) e (subst (λ (l : List S). becomes old l (Err stop)) (sym (append_assoc first rest more)) (f (rest ++ more) (Err stop) (g more)))

pub returns-in-Ok : goal.returns-in-Ok
returns-in-Ok g c =
    both g.V.Visitor.becomes c.args.visitor.now c.visit_hangs.new.visitor c.visit_components.new.visitor _ _ (certificate_standing c.args.number c.args.certificate.now) c.visit_components.result
    (parts c.args.number c.args.certificate.now (hasher_subject c.new-hasher.result) (body_octets c.key-primary.result) (hangs_left c.hangs.result) (components_left c.components.result)
    c.new-hasher.ensures c.key-primary.ensures c.hangs.ensures.value c.components.ensures.value)
    c.in-Ok.ensures.shown c.visit_components.ensures

pub returns-in-Err : goal.returns-in-Err
returns-in-Err g c more =
    let certificate = c.args.certificate.now in
    let rest : List Standing = by_number (component_standing (body_octets c.key-primary.result) c.args.number) 0 certificate.components in
    let first : List Standing = hangs_standing c.args.number None (hasher_subject c.new-hasher.result) (hangs_left c.hangs.result) in
    subst (λ (l : List Standing). g.V.Visitor.becomes c.args.visitor.now (l ++ more) (Err c.in-Err.stop))
    (parts c.args.number certificate (hasher_subject c.new-hasher.result) (body_octets c.key-primary.result) (hangs_left c.hangs.result) certificate.components
    c.new-hasher.ensures c.key-primary.ensures c.hangs.ensures.value refl)
    (subst (λ (l : List Standing). g.V.Visitor.becomes c.args.visitor.now l (Err c.in-Err.stop)) (sym (append_assoc first rest more)) (c.in-Err.ensures.shown (rest ++ more)))
