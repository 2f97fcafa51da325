use Rattle.std.proofs.Common.{◌∙◌, List, All, sym, subst}
use Rattle.opgp_frame.specs.Packet.{PacketValue}
use Rattle.opgp_keyring.specs.Keyring.{ComponentValue, IsComponent, IsHung}
use Rattle.opgp_bound.specs.Judged.{IsJudgedComponent, JudgedComponentValue, JudgedValue}
use Rattle.opgp_bound.proofs.Found.{components_stand, hangs_hung}
use Rattle.opgp_bound.proofs.Kept.{Hung}
use Rattle.opgp_bound.proofs.bounding.bound_certificate.Goals as goal

pub keep-requires-clause-hangs : goal.keep-requires-clause-hangs
keep-requires-clause-hangs c =
    let P : List JudgedValue → Type 0 = λ l. All Hung l in
    let Q : List PacketValue → Type 0 = λ l. All IsHung l in
    subst P (sym (c.deref.ensures.value ∙ c.in_ok-hangs.ensures.judged)) (hangs_hung _ _ _ _ _ (subst Q (sym c.hangs.ensures.value) c.hangs.ensures.certificate.hangs))

pub keep-requires-clause-components : goal.keep-requires-clause-components
keep-requires-clause-components c =
    let P : List JudgedComponentValue → Type 0 = λ l. All IsJudgedComponent l in
    let Q : List ComponentValue → Type 0 = λ l. All IsComponent l in
    subst P (sym (c.deref-2.ensures.value ∙ c.in_ok-components.ensures.judged)) (components_stand _ _ _ _ _ _ (subst Q (sym c.components.ensures.value) c.components.ensures.certificate.components))
